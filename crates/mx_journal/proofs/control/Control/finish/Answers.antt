use Rattle.std.proofs.Common.{◌≡◌, ◌<◌, ◌∙◌, ap, append-nil, false, refl, subst, sym, true, arith, length, rules}
use Rattle.mx_history.specs.History.{has_ticket, running, same_ticket}
use Rattle.mx_journal.proofs.Controls.{control-finished, endings_short}
use Rattle.mx_journal.proofs.Remains.{queue_stays, queue_ended, endings_stay, endings_ended}
use Rattle.std.specs.Prelude.{not, Some}
use Rattle.mx_types.specs.Limits.{most_handles}
use Rattle.mx_types.specs.declared.event.What.TheVariants as what
use Rattle.mx_journal.proofs.OriginLists.{begun-then, origins-then, own_filter, own_pushed}
use Rattle.mx_journal.specs.Core.{origin_of}
use Rattle.mx_types.specs.declared.call.Call.TheVariants as call
use Rattle.mx_types.specs.declared.reply.Reply.TheVariants as reply
use Rattle.mx_history.specs.Answers.{Answer, answer}
use Rattle.std.specs.Option.{IsSome}
use Rattle.mx_journal.specs.Core.{Core}
use Rattle.mx_journal.proofs.Calling.{answers_alone, answers_with, called_refused, called_spent, called_with, end_recorded, end_stale}
use Rattle.mx_journal.proofs.control.Control.finish.Goals as goal

pub push_reserved-requires : goal.push_reserved-requires
push_reserved-requires g c =
    let s = c.self.invariant.kept.sound in
    let j = c.self.inside.journal.items in
    let yes : c.runs.result ≡ true = c.if-not-runs.false in
    let may : has_ticket c.ticket-ticket.result (running j) ≡ true =
    sym (rw (← c.self.view_is, ← c.ticket-ticket.ensures) at c.runs.ensures) ∙ yes in
    let short : length c.self.inside.endings.items < most_handles =
    endings_short g.O.Ending.code_of g.O.Ending.size_of j c.self.inside.endings.items c.ticket-ticket.result s.kept.legal s.waits may in
    omega (arith, short, c.self.inside.endings.ok.0, c.self.invariant.kept.endings_fit)

pub invariant_of-self-2 : goal.invariant_of-self-2
invariant_of-self-2 g c =
    let j = c.self.inside.journal.items in
    let yes : c.runs.result ≡ true = c.if-not-runs.false in
    let may : has_ticket c.ticket-ticket.result (running j) ≡ true =
    sym (rw (← c.self.view_is, ← c.ticket-ticket.ensures) at c.runs.ensures) ∙ yes in
    record {
      tabled = c.enter.ensures.tabled;
      kept = rw (c.enter.ensures.items, c.drop_ticket.ensures.items, c.drop_ticket.ensures.capacity, c.push_reserved.ensures.items, c.push_reserved.ensures.capacity, c.code.ensures, c.size.ensures)
          (control-finished g.O.Ending.code_of g.O.Ending.size_of c.self.inside.history j c.args.who c.ticket-ticket.result c.args.ending c.self.inside.queue.items c.self.inside.endings.items _ _
          c.self.invariant.kept may);
      begun = rw c.enter.ensures.items (begun-then _ j c.args.who (what.Done c.ticket-ticket.result c.code.result c.size.result) c.self.inside.before c.self.invariant.begun (omega arith));
      origins = rw (c.enter.ensures.items, c.drop_ticket.ensures.items)
          (origins-then g.Q.Work.origin _ j c.args.who (what.Done c.ticket-ticket.result c.code.result c.size.result) _ c.self.inside.queue.items _
          c.self.invariant.origins refl (own_filter g.Q.Work.origin _ (λ x. not (same_ticket x.0 c.ticket-ticket.result)) c.self.inside.queue.items c.self.invariant.origins.own));
    }

pub returns-then-not-runs-clause-queue : goal.returns-then-not-runs-clause-queue
returns-then-not-runs-clause-queue g c = rw (← c.self.view_is) (sym (queue_stays c.self.inside.journal.items c.self.inside.queue.items c.self.invariant.kept.sound.runs))

pub returns-then-not-runs-clause-endings : goal.returns-then-not-runs-clause-endings
returns-then-not-runs-clause-endings g c =
    rw (← c.self.view_is) (sym (append-nil _ ∙ endings_stay g.O.Ending.code_of g.O.Ending.size_of c.self.inside.journal.items c.self.inside.endings.items c.self.invariant.kept.sound.waits))

pub returns-then-is_err-clause-queue : goal.returns-then-is_err-clause-queue
returns-then-is_err-clause-queue g c = rw (← c.self.view_is) (sym (queue_stays c.self.inside.journal.items c.self.inside.queue.items c.self.invariant.kept.sound.runs))

pub returns-then-is_err-clause-endings : goal.returns-then-is_err-clause-endings
returns-then-is_err-clause-endings g c =
    rw (← c.self.view_is) (sym (append-nil _ ∙ endings_stay g.O.Ending.code_of g.O.Ending.size_of c.self.inside.journal.items c.self.inside.endings.items c.self.invariant.kept.sound.waits))

pub returns-clause-queue : goal.returns-clause-queue
returns-clause-queue g c =
    let j = c.self.inside.journal.items in
    rw (← c.self.view_is, c.enter.ensures.items)
    (c.drop_ticket.ensures.items ∙ queue_ended j c.args.who c.ticket-ticket.result c.code.result c.size.result c.self.inside.queue.items c.self.invariant.kept.sound.runs)

pub returns-clause-endings : goal.returns-clause-endings
returns-clause-endings g c =
    let j = c.self.inside.journal.items in
    let old = endings_ended g.O.Ending.code_of g.O.Ending.size_of j c.args.who c.ticket-ticket.result c.code.result c.size.result c.self.inside.endings.items c.self.invariant.kept.sound.waits in
    rw (← c.self.view_is, c.enter.ensures.items) (c.push_reserved.ensures.items ∙ rw (old, ← c.ticket-ticket.ensures) refl)

pub returns-clause-own : goal.returns-clause-own
returns-clause-own g c own is =
    let origins = c.self.inside.origins.all in
    rw c.push_reserved.ensures.items
    (own_pushed g.O.Ending.origin origins c.self.inside.endings.items c.ticket-ticket.result c.args.ending (rw (← c.self.view_is) at own)
    (ap (λ t. origin_of t origins) c.ticket-ticket.ensures ∙ (rw (← c.self.view_is) at is) ∙ ap Some (sym c.requires.origin)))

pub enter-requires-clause-may : goal.enter-requires-clause-may
enter-requires-clause-may g c = search rules

pub returns-then-not-runs-clause-called : goal.returns-then-not-runs-clause-called
returns-then-not-runs-clause-called g c =
    let core = c.args.self.now in
    let t = c.args.claim.ticket in
    let gone : has_ticket t (running core.journal) ≡ false = sym c.runs.ensures ∙ c.if-not-runs.true in
    let is = end_stale core.opening core.journal t (g.O.Ending.code_of c.args.ending) (g.O.Ending.size_of c.args.ending) gone in
    called_spent g.L.Log.events g.L.Log.name g.L.Log.may_refuse c.args.who (call.Finish t (g.O.Ending.code_of c.args.ending) (g.O.Ending.size_of c.args.ending)) core _ c.args.log.now reply.Stale
    (answers_alone core.opening c.args.who (call.Finish t (g.O.Ending.code_of c.args.ending) (g.O.Ending.size_of c.args.ending)) core.journal reply.Stale is) refl (search rules)

pub returns-then-is_err-clause-called : goal.returns-then-is_err-clause-called
returns-then-is_err-clause-called g c =
    let core = c.args.self.now in
    let t = c.args.claim.ticket in
    let may : has_ticket t (running core.journal) ≡ true = sym c.runs.ensures ∙ c.if-not-runs.false in
    let is = end_recorded core.opening core.journal t (g.O.Ending.code_of c.args.ending) (g.O.Ending.size_of c.args.ending) may in
    called_refused g.L.Log.events g.L.Log.name g.L.Log.may_refuse c.args.who (call.Finish t (g.O.Ending.code_of c.args.ending) (g.O.Ending.size_of c.args.ending)) core c.args.log.now c.append.new.self
    (subst (λ (a : Answer). IsSome a.1) (sym is) refl) (search rules) c.append.ensures.same (search rules)

pub returns-clause-called : goal.returns-clause-called
returns-clause-called g c =
    let core = c.args.self.now in
    let t = c.args.claim.ticket in
    let may : has_ticket t (running core.journal) ≡ true = sym c.runs.ensures ∙ c.if-not-runs.false in
    let e = what.Done c.ticket-ticket.result c.code.result c.size.result in
    let is : answer core.opening core.journal (call.Finish t (g.O.Ending.code_of c.args.ending) (g.O.Ending.size_of c.args.ending)) ≡ (reply.Recorded, Some e) =
    rw (c.ticket-ticket.ensures, c.code.ensures, c.size.ensures) (end_recorded core.opening core.journal t (g.O.Ending.code_of c.args.ending) (g.O.Ending.size_of c.args.ending) may) in
    called_with g.L.Log.events g.L.Log.name g.L.Log.may_refuse c.args.who (call.Finish t (g.O.Ending.code_of c.args.ending) (g.O.Ending.size_of c.args.ending)) core _ c.args.log.now c.append.new.self e reply.Recorded
    (answers_with core.opening c.args.who (call.Finish t (g.O.Ending.code_of c.args.ending) (g.O.Ending.size_of c.args.ending)) core.journal c.enter.new.journal.items e reply.Recorded is (rw (← c.self.view_is) c.enter.ensures.items))
    refl refl (rw (← c.self.view_is) c.enter.ensures.items) (search rules) c.append.ensures.same (rw (← c.self.view_is) c.saturating_sub-self-inside-2.ensures) (ap (λ (x : Core _ _). x.opening) c.self.view_is)
