use Rattle.std.proofs.Common.{◌≡◌, ◌∙◌, ap, arith, false, refl, subst, sym, rules, true}
use Rattle.std.specs.Option.{IsSome}
use Rattle.mx_types.specs.declared.event.What.TheVariants as what
use Rattle.mx_journal.proofs.Controls.{control-quiet}
use Rattle.mx_journal.proofs.OriginLists.{begun-then, origins-then}
use Rattle.mx_types.specs.declared.call.Call.TheVariants as call
use Rattle.mx_types.specs.declared.reply.Reply.TheVariants as reply
use Rattle.mx_history.specs.Answers.{Answer}
use Rattle.mx_history.specs.History.{has_room}
use Rattle.mx_journal.specs.Core.{Core}
use Rattle.mx_journal.proofs.Calling.{answers_alone, answers_with, called_none, called_refused, called_with, wakeup_refused, wakeup_taken}
use Rattle.mx_journal.proofs.control.Control.wakeup.Goals as goal

pub invariant_of-self : goal.invariant_of-self
invariant_of-self g c =
    let room : c.has_room.result ≡ true = c.if-not-has_room.false in
    record {
      tabled = c.enter.ensures.tabled;
      kept = rw c.enter.ensures.items
          (control-quiet g.O.Ending.code_of g.O.Ending.size_of c.self.inside.history c.self.inside.journal.items c.args.who what.Wake c.self.inside.queue.items c.self.inside.endings.items _ _
          c.self.invariant.kept refl (sym (rw (← c.self.view_is) at c.has_room.ensures) ∙ room) (λ _. refl) (λ _. refl) (λ _. refl) refl);
      begun = rw c.enter.ensures.items (begun-then _ c.self.inside.journal.items c.args.who what.Wake c.self.inside.before c.self.invariant.begun (omega arith));
      origins = rw c.enter.ensures.items
          (origins-then g.Q.Work.origin _ c.self.inside.journal.items c.args.who what.Wake _ c.self.inside.queue.items c.self.inside.queue.items
          c.self.invariant.origins refl c.self.invariant.origins.own);
    }

pub returns-then-not-has_room-clause-called : goal.returns-then-not-has_room-clause-called
returns-then-not-has_room-clause-called g c =
    let core = c.args.self.now in
    let full : has_room core.opening.history core.journal 1 ≡ false = sym c.has_room.ensures ∙ c.if-not-has_room.true in
    called_none g.L.Log.events g.L.Log.name g.L.Log.may_refuse c.args.who call.Wakeup core c.args.log.now reply.Failure
    (answers_alone core.opening c.args.who call.Wakeup core.journal reply.Failure (wakeup_refused core.opening core.journal full)) refl refl

pub returns-then-is_err-clause-called : goal.returns-then-is_err-clause-called
returns-then-is_err-clause-called g c =
    let core = c.args.self.now in
    let room : has_room core.opening.history core.journal 1 ≡ true = sym c.has_room.ensures ∙ c.if-not-has_room.false in
    called_refused g.L.Log.events g.L.Log.name g.L.Log.may_refuse c.args.who call.Wakeup core c.args.log.now c.append.new.self
    (subst (λ (a : Answer). IsSome a.1) (sym (wakeup_taken core.opening core.journal room)) refl) (search rules) c.append.ensures.same (search rules)

pub returns-clause-called : goal.returns-clause-called
returns-clause-called g c =
    let core = c.args.self.now in
    let room : has_room core.opening.history core.journal 1 ≡ true = sym c.has_room.ensures ∙ c.if-not-has_room.false in
    called_with g.L.Log.events g.L.Log.name g.L.Log.may_refuse c.args.who call.Wakeup core _ c.args.log.now c.append.new.self what.Wake reply.Ok
    (answers_with core.opening c.args.who call.Wakeup core.journal c.enter.new.journal.items what.Wake reply.Ok (wakeup_taken core.opening core.journal room) (rw (← c.self.view_is) c.enter.ensures.items))
    refl refl (rw (← c.self.view_is) c.enter.ensures.items) (search rules) c.append.ensures.same (ap (λ (x : Core _ _). x.out) c.self.view_is) (ap (λ (x : Core _ _). x.opening) c.self.view_is)
