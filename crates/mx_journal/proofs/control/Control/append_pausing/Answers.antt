use Rattle.std.proofs.Common.{◌≡◌, ◌∙◌, ap, arith, false, refl, subst, sym, rules, true}
use Rattle.std.specs.Prelude.{Some}
use Rattle.std.specs.Option.{IsSome}
use Rattle.mx_types.specs.declared.reply.Reply.TheVariants as reply
use Rattle.mx_history.specs.Answers.{Answer, answer}
use Rattle.mx_history.specs.History.{has_room, may_follow}
use Rattle.mx_journal.specs.Core.{Core}
use Rattle.mx_journal.specs.Replies.{answer_with_room}
use Rattle.mx_journal.proofs.Calling.{answers_alone, answers_with, called_none, called_refused, called_with}
use Rattle.mx_journal.proofs.Controls.{control-pausing}
use Rattle.mx_journal.proofs.OriginLists.{begun-then, origins-then, pausing_adds_none}
use Rattle.mx_journal.proofs.control.Control.append_pausing.Goals as goal

pub invariant_of-self : goal.invariant_of-self
invariant_of-self g c =
    let room : c.has_room.result ≡ true = c.if-not-has_room.false in
    let none = pausing_adds_none c.args.event.what c.requires.kind in
    let m : may_follow c.self.inside.journal.items c.args.event.what ≡ true = rw (← c.self.view_is) at c.requires.may in
    record {
      tabled = c.enter.ensures.tabled;
      kept = rw c.enter.ensures.items
          (control-pausing g.O.Ending.code_of g.O.Ending.size_of c.self.inside.history c.self.inside.journal.items c.args.event.who c.args.event.what c.self.inside.queue.items c.self.inside.endings.items _ _
          c.self.invariant.kept m c.requires.kind (sym (rw (← c.self.view_is) at c.has_room.ensures) ∙ room));
      begun = rw c.enter.ensures.items (begun-then _ c.self.inside.journal.items c.args.event.who c.args.event.what c.self.inside.before c.self.invariant.begun (omega (arith, none)));
      origins = rw c.enter.ensures.items
          (origins-then g.Q.Work.origin _ c.self.inside.journal.items c.args.event.who c.args.event.what _ c.self.inside.queue.items c.self.inside.queue.items
          c.self.invariant.origins none c.self.invariant.origins.own);
    }

pub enter-requires-clause-room : goal.enter-requires-clause-room
enter-requires-clause-room g c = search rules

pub returns-then-not-has_room-clause-called : goal.returns-then-not-has_room-clause-called
returns-then-not-has_room-clause-called g c call is =
    let core = c.args.self.now in
    let full : has_room core.opening.history core.journal 1 ≡ false = sym c.has_room.ensures ∙ c.if-not-has_room.true in
    called_none g.L.Log.events g.L.Log.name g.L.Log.may_refuse c.args.event.who call core c.args.log.now reply.HistoryFull
    (answers_alone core.opening c.args.event.who call core.journal reply.HistoryFull (is ∙ ap (λ b. answer_with_room b c.args.event.what) full)) refl refl

pub returns-then-is_err-clause-called : goal.returns-then-is_err-clause-called
returns-then-is_err-clause-called g c call is =
    let core = c.args.self.now in
    let room : has_room core.opening.history core.journal 1 ≡ true = sym c.has_room.ensures ∙ c.if-not-has_room.false in
    called_refused g.L.Log.events g.L.Log.name g.L.Log.may_refuse c.args.event.who call core c.args.log.now c.append.new.self
    (subst (λ (a : Answer). IsSome a.1) (sym (is ∙ ap (λ b. answer_with_room b c.args.event.what) room)) refl) (search rules) c.append.ensures.same (search rules)

pub returns-clause-called : goal.returns-clause-called
returns-clause-called g c call is =
    let core = c.args.self.now in
    let room : has_room core.opening.history core.journal 1 ≡ true = sym c.has_room.ensures ∙ c.if-not-has_room.false in
    let told : answer core.opening core.journal call ≡ (reply.Changed, Some c.args.event.what) = is ∙ ap (λ b. answer_with_room b c.args.event.what) room in
    called_with g.L.Log.events g.L.Log.name g.L.Log.may_refuse c.args.event.who call core _ c.args.log.now c.append.new.self c.args.event.what reply.Changed
    (answers_with core.opening c.args.event.who call core.journal c.enter.new.journal.items c.args.event.what reply.Changed told (rw (← c.self.view_is) c.enter.ensures.items))
    refl refl (rw (← c.self.view_is) c.enter.ensures.items) (search rules) c.append.ensures.same (ap (λ (x : Core _ _). x.out) c.self.view_is) (ap (λ (x : Core _ _). x.opening) c.self.view_is)
