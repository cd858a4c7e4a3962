use Rattle.std.proofs.Common.{◌≡◌, ◌∙◌, ap, arith, refl, sym, rules}
use Rattle.std.proofs.lemmas.Grind.{common_steps}
use Rattle.mx_journal.proofs.Controls.{control-removed}
use Rattle.mx_history.proofs.Tickets.{may_remove}
use Rattle.mx_journal.proofs.Remains.{queue_stays, queue_removed, endings_stay, endings_removed}
use Rattle.std.specs.Prelude.{not, Some}
use Rattle.mx_types.specs.declared.event.What.TheVariants as what
use Rattle.mx_history.specs.History.{same_ticket}
use Rattle.mx_journal.proofs.OriginLists.{begun-then, origins-then, own_filter}
use Rattle.mx_types.specs.declared.call.Call.TheVariants as call
use Rattle.mx_types.specs.declared.reply.Reply.TheVariants as reply
use Rattle.mx_history.specs.Answers.{answer}
use Rattle.mx_journal.specs.Core.{Core}
use Rattle.mx_journal.proofs.Calling.{answers_with, called_none, called_refused, called_with}
use Rattle.mx_journal.proofs.control.Control.remove.Goals as goal

pub enter-requires-clause-may : goal.enter-requires-clause-may
enter-requires-clause-may g c = may_remove c.self.inside.journal.items c.args.handle c.row_of_handle.result c.in-Some.row c.in-Some.is (c.row_of_handle.ensures.ticket c.self.inside.journal.items c.self.invariant.tabled.table)

pub invariant_of-self : goal.invariant_of-self
invariant_of-self g c =
    let may = may_remove c.self.inside.journal.items c.args.handle c.row_of_handle.result c.in-Some.row c.in-Some.is (c.row_of_handle.ensures.ticket c.self.inside.journal.items c.self.invariant.tabled.table) in
    record {
      tabled = c.enter.ensures.tabled;
      kept = rw (c.enter.ensures.items, c.drop_ticket.ensures.items, c.drop_ticket.ensures.capacity, c.drop_ticket-2.ensures.items, c.drop_ticket-2.ensures.capacity)
          (control-removed g.O.Ending.code_of g.O.Ending.size_of c.self.inside.history c.self.inside.journal.items c.args.who c.args.handle c.in-Some.row.ticket c.self.inside.queue.items c.self.inside.endings.items _ _
          c.self.invariant.kept may);
      begun = rw c.enter.ensures.items (begun-then _ c.self.inside.journal.items c.args.who (what.Removed c.args.handle c.in-Some.row.ticket) c.self.inside.before c.self.invariant.begun (omega arith));
      origins = rw (c.enter.ensures.items, c.drop_ticket.ensures.items)
          (origins-then g.Q.Work.origin _ c.self.inside.journal.items c.args.who (what.Removed c.args.handle c.in-Some.row.ticket) _ c.self.inside.queue.items _
          c.self.invariant.origins refl (own_filter g.Q.Work.origin _ (λ x. not (same_ticket x.0 c.in-Some.row.ticket)) c.self.inside.queue.items c.self.invariant.origins.own));
    }

pub returns-in_default-clause-queue : goal.returns-in_default-clause-queue
returns-in_default-clause-queue g c = rw (← c.self.view_is) (sym (queue_stays c.self.inside.journal.items c.self.inside.queue.items c.self.invariant.kept.sound.runs))

pub returns-in_default-clause-endings : goal.returns-in_default-clause-endings
returns-in_default-clause-endings g c =
    rw (← c.self.view_is) (sym (endings_stay g.O.Ending.code_of g.O.Ending.size_of c.self.inside.journal.items c.self.inside.endings.items c.self.invariant.kept.sound.waits))

pub returns-then-is_err-clause-queue : goal.returns-then-is_err-clause-queue
returns-then-is_err-clause-queue g c = rw (← c.self.view_is) (sym (queue_stays c.self.inside.journal.items c.self.inside.queue.items c.self.invariant.kept.sound.runs))

pub returns-then-is_err-clause-endings : goal.returns-then-is_err-clause-endings
returns-then-is_err-clause-endings g c =
    rw (← c.self.view_is) (sym (endings_stay g.O.Ending.code_of g.O.Ending.size_of c.self.inside.journal.items c.self.inside.endings.items c.self.invariant.kept.sound.waits))

pub returns-clause-queue : goal.returns-clause-queue
returns-clause-queue g c =
    let j = c.self.inside.journal.items in
    rw (← c.self.view_is, c.enter.ensures.items)
    (c.drop_ticket.ensures.items ∙ queue_removed j c.args.who c.args.handle c.in-Some.row.ticket c.self.inside.queue.items c.self.invariant.kept.sound.runs)

pub returns-clause-endings : goal.returns-clause-endings
returns-clause-endings g c =
    let j = c.self.inside.journal.items in
    rw (← c.self.view_is, c.enter.ensures.items)
    (c.drop_ticket-2.ensures.items ∙ endings_removed g.O.Ending.code_of g.O.Ending.size_of j c.args.who c.args.handle c.in-Some.row.ticket c.self.inside.endings.items c.self.invariant.kept.sound.waits)

pub returns-clause-own : goal.returns-clause-own
returns-clause-own g c own =
    rw c.drop_ticket-2.ensures.items
    (own_filter g.O.Ending.origin _ (λ x. not (same_ticket x.0 c.in-Some.row.ticket)) c.self.inside.endings.items (rw (← c.self.view_is) at own))

pub returns-then-is_err-clause-called : goal.returns-then-is_err-clause-called
returns-then-is_err-clause-called g c =
    called_refused g.L.Log.events g.L.Log.name g.L.Log.may_refuse c.args.who (call.Remove c.args.handle) c.args.self.now c.args.log.now c.append.new.self (search rules) (search rules) c.append.ensures.same (search rules)

pub returns-clause-called : goal.returns-clause-called
returns-clause-called g c =
    let t = c.in-Some.row.ticket in
    let is : answer c.args.self.now.opening c.args.self.now.journal (call.Remove c.args.handle) ≡ (reply.Removed, Some (what.Removed c.args.handle t)) = grind (arith, common_steps) in
    called_with g.L.Log.events g.L.Log.name g.L.Log.may_refuse c.args.who (call.Remove c.args.handle) c.args.self.now _ c.args.log.now c.append.new.self (what.Removed c.args.handle t) reply.Removed
    (answers_with c.args.self.now.opening c.args.who (call.Remove c.args.handle) c.args.self.now.journal c.enter.new.journal.items (what.Removed c.args.handle t) reply.Removed is (rw (← c.self.view_is) c.enter.ensures.items))
    refl refl (rw (← c.self.view_is) c.enter.ensures.items) (search rules) c.append.ensures.same (ap (λ (x : Core _ _). x.out) c.self.view_is) (ap (λ (x : Core _ _). x.opening) c.self.view_is)

pub returns-in_default-clause-called : goal.returns-in_default-clause-called
returns-in_default-clause-called g c =
    called_none g.L.Log.events g.L.Log.name g.L.Log.may_refuse c.args.who (call.Remove c.args.handle) c.args.self.now c.args.log.now reply.RemoveNotAdded (grind (arith, common_steps)) refl refl
