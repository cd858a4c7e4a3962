use Rattle.std.proofs.Common.{◌≡◌, ◌+◌, ◌<◌, ◌≤◌, ◌∙◌, [], ◌∷◌, ap, sym, subst, rules, true, false, arith, length, refl}
use Rattle.std.specs.Prelude.{max, nat_le, Some}
use Rattle.std.proofs.lemmas.Bool.Decides.{nat_tests}
use Rattle.mx_types.specs.Limits.{greatest_ticket, most_handles}
use Rattle.mx_types.specs.declared.event.What.TheVariants as what
use Rattle.mx_history.specs.History.{added, beyond, may_follow, past}
use Rattle.mx_journal.proofs.Controls.{control-added, queue_length}
use Rattle.mx_history.proofs.Tickets.{may_add}
use Rattle.mx_types.specs.declared.names.Ticket.{Ticket}
use Rattle.mx_journal.proofs.OriginLists.{begun-then, origins-added, own_later}
use Rattle.mx_types.specs.declared.call.Call.TheVariants as call
use Rattle.mx_types.specs.declared.reply.Reply.TheVariants as reply
use Rattle.mx_history.specs.Answers.{Answer, answer, next_ticket, only}
use Rattle.std.specs.Option.{IsSome}
use Rattle.mx_journal.specs.Core.{Core}
use Rattle.mx_journal.proofs.Calling.{added_again, added_full, added_next, added_spent, added_without_room, answers_alone, answers_with, called_none, called_refused, called_with, no_ticket}
use Rattle.mx_journal.proofs.control.Control.add.Goals as goal

pub enter-requires-clause-may : goal.enter-requires-clause-may
enter-requires-clause-may g c =
    let j = c.self.inside.journal.items in
    let next : c.next.result ≡ max c.self.inside.first (beyond j) = rw (← c.self.view_is) at c.next.ensures in
    may_add j c.args.handle (record { 0 = c.next.result }) c.row_of_handle.result (sym c.is_some.ensures ∙ c.if-is_some.false) (c.row_of_handle.ensures.ticket j c.self.invariant.tabled.table)
    (sym (c.is_full.ensures j c.self.invariant.tabled.table) ∙ c.if-is_full.false) (omega (arith, next))

pub push-requires : goal.push-requires
push-requires g c =
    let next : c.next.result ≡ max c.self.inside.first (beyond c.self.inside.journal.items) = rw (← c.self.view_is) at c.next.ensures in
    let few : c.next.result ≤ greatest_ticket = omega arith in
    omega (arith, next, few, c.self.invariant.origins.each)

pub push_reserved-requires : goal.push_reserved-requires
push_reserved-requires g c =
    let s = c.self.invariant.kept.sound in
    let j = c.self.inside.journal.items in
    let short = queue_length j c.self.inside.queue.items s.kept.legal s.ordered s.runs in
    let full : nat_le most_handles (length (added j)) ≡ false = sym (c.is_full.ensures j c.self.invariant.tabled.table) ∙ c.if-is_full.false in
    let few : length (added j) < most_handles = grind (arith, nat_tests, full) in
    omega (arith, c.self.inside.queue.ok.0, c.self.invariant.kept.queue_fits)

pub invariant_of-self : goal.invariant_of-self
invariant_of-self g c =
    let room : c.has_room.result ≡ true = c.if-not-has_room.false in
    let j = c.self.inside.journal.items in
    let t : Ticket = record { 0 = c.next.result } in
    let next : c.next.result ≡ max c.self.inside.first (beyond j) = rw (← c.self.view_is) at c.next.ensures in
    let may : may_follow j (what.Added c.args.handle t) ≡ true =
    may_add j c.args.handle t c.row_of_handle.result (sym c.is_some.ensures ∙ c.if-is_some.false) (c.row_of_handle.ensures.ticket j c.self.invariant.tabled.table)
    (sym (c.is_full.ensures j c.self.invariant.tabled.table) ∙ c.if-is_full.false) (omega (arith, next)) in
    let few : past (what.Added c.args.handle t) ≤ greatest_ticket + 1 = omega arith in
    record {
      tabled = c.enter.ensures.tabled;
      kept = rw (c.enter.ensures.items, c.push_reserved.ensures.items, c.push_reserved.ensures.capacity)
          (control-added g.O.Ending.code_of g.O.Ending.size_of c.self.inside.history j c.args.who c.args.handle t c.self.inside.queue.items c.self.inside.endings.items c.args.work _ _
          c.self.invariant.kept may (sym (rw (← c.self.view_is) at c.has_room.ensures) ∙ room));
      begun = rw c.enter.ensures.items (begun-then _ j c.args.who (what.Added c.args.handle t) c.self.inside.before c.self.invariant.begun few);
      origins = rw (c.enter.ensures.items, c.push.ensures, c.push_reserved.ensures.items)
          (origins-added g.Q.Work.origin _ j c.args.who c.args.handle t c.self.inside.origins c.self.inside.queue.items c.args.work c.self.invariant.origins next);
    }

pub returns-clause-own : goal.returns-clause-own
returns-clause-own g c own =
    rw c.push.ensures
    (own_later g.O.Ending.origin c.self.inside.origins.all (g.Q.Work.origin c.args.work ∷ []) c.self.inside.endings.items (rw (← c.self.view_is) at own))

pub returns-then-is_some-clause-called : goal.returns-then-is_some-clause-called
returns-then-is_some-clause-called g c =
    let x = c.args.self.now in
    let d = call.Add c.args.handle in
    let row = c.row_of_handle.ensures.ticket c.self.inside.journal.items c.self.invariant.tabled.table in
    let is : answer x.opening x.journal d ≡ only reply.AddedAlready = rw (← c.self.view_is) (added_again (record { history = c.self.inside.history; first = c.self.inside.first; from = c.self.inside.from }) c.self.inside.journal.items c.args.handle c.row_of_handle.result (sym c.is_some.ensures ∙ c.if-is_some.true) row) in
    called_none g.L.Log.events g.L.Log.name g.L.Log.may_refuse c.args.who d x c.args.log.now reply.AddedAlready
    (answers_alone x.opening c.args.who d x.journal reply.AddedAlready is) refl refl

pub returns-then-is_full-clause-called : goal.returns-then-is_full-clause-called
returns-then-is_full-clause-called g c =
    let x = c.args.self.now in
    let d = call.Add c.args.handle in
    let row = c.row_of_handle.ensures.ticket c.self.inside.journal.items c.self.invariant.tabled.table in
    let new = no_ticket _ c.row_of_handle.result (sym c.is_some.ensures ∙ c.if-is_some.false) row in
    let full = sym (c.is_full.ensures c.self.inside.journal.items c.self.invariant.tabled.table) ∙ c.if-is_full.true in
    let is : answer x.opening x.journal d ≡ only reply.TableFull = rw (← c.self.view_is) (added_full (record { history = c.self.inside.history; first = c.self.inside.first; from = c.self.inside.from }) c.self.inside.journal.items c.args.handle new full) in
    called_none g.L.Log.events g.L.Log.name g.L.Log.may_refuse c.args.who d x c.args.log.now reply.TableFull
    (answers_alone x.opening c.args.who d x.journal reply.TableFull is) refl refl

pub returns-then-ticket-gt-GREATEST_TICKET-clause-called : goal.returns-then-ticket-gt-GREATEST_TICKET-clause-called
returns-then-ticket-gt-GREATEST_TICKET-clause-called g c =
    let x = c.args.self.now in
    let d = call.Add c.args.handle in
    let row = c.row_of_handle.ensures.ticket c.self.inside.journal.items c.self.invariant.tabled.table in
    let new = no_ticket _ c.row_of_handle.result (sym c.is_some.ensures ∙ c.if-is_some.false) row in
    let few = sym (c.is_full.ensures c.self.inside.journal.items c.self.invariant.tabled.table) ∙ c.if-is_full.false in
    let next : c.next.result ≡ max c.self.inside.first (beyond c.self.inside.journal.items) = rw (← c.self.view_is) at c.next.ensures in
    let is : answer x.opening x.journal d ≡ only reply.TicketsSpent = rw (← c.self.view_is) (added_spent (record { history = c.self.inside.history; first = c.self.inside.first; from = c.self.inside.from }) c.self.inside.journal.items c.args.handle new few (omega (arith, next))) in
    called_none g.L.Log.events g.L.Log.name g.L.Log.may_refuse c.args.who d x c.args.log.now reply.TicketsSpent
    (answers_alone x.opening c.args.who d x.journal reply.TicketsSpent is) refl refl

pub returns-then-not-has_room-clause-called : goal.returns-then-not-has_room-clause-called
returns-then-not-has_room-clause-called g c =
    let x = c.args.self.now in
    let d = call.Add c.args.handle in
    let row = c.row_of_handle.ensures.ticket c.self.inside.journal.items c.self.invariant.tabled.table in
    let new = no_ticket _ c.row_of_handle.result (sym c.is_some.ensures ∙ c.if-is_some.false) row in
    let few = sym (c.is_full.ensures c.self.inside.journal.items c.self.invariant.tabled.table) ∙ c.if-is_full.false in
    let next : c.next.result ≡ max c.self.inside.first (beyond c.self.inside.journal.items) = rw (← c.self.view_is) at c.next.ensures in
    let full = rw (← c.self.view_is) at (sym c.has_room.ensures ∙ c.if-not-has_room.true) in
    let is : answer x.opening x.journal d ≡ only reply.HistoryFull = rw (← c.self.view_is) (added_without_room (record { history = c.self.inside.history; first = c.self.inside.first; from = c.self.inside.from }) c.self.inside.journal.items c.args.handle new few (omega (arith, next)) full) in
    called_none g.L.Log.events g.L.Log.name g.L.Log.may_refuse c.args.who d x c.args.log.now reply.HistoryFull
    (answers_alone x.opening c.args.who d x.journal reply.HistoryFull is) refl refl

pub returns-then-is_err-clause-called : goal.returns-then-is_err-clause-called
returns-then-is_err-clause-called g c =
    let x = c.args.self.now in
    let d = call.Add c.args.handle in
    let row = c.row_of_handle.ensures.ticket c.self.inside.journal.items c.self.invariant.tabled.table in
    let new = no_ticket _ c.row_of_handle.result (sym c.is_some.ensures ∙ c.if-is_some.false) row in
    let few = sym (c.is_full.ensures c.self.inside.journal.items c.self.invariant.tabled.table) ∙ c.if-is_full.false in
    let next : c.next.result ≡ max c.self.inside.first (beyond c.self.inside.journal.items) = rw (← c.self.view_is) at c.next.ensures in
    let room = rw (← c.self.view_is) at (sym c.has_room.ensures ∙ c.if-not-has_room.false) in
    let taken : answer x.opening x.journal d ≡ (reply.Added (next_ticket x.opening x.journal), Some (what.Added c.args.handle (next_ticket x.opening x.journal))) =
    rw (← c.self.view_is) (added_next (record { history = c.self.inside.history; first = c.self.inside.first; from = c.self.inside.from }) c.self.inside.journal.items c.args.handle new few (omega (arith, next)) room) in
    called_refused g.L.Log.events g.L.Log.name g.L.Log.may_refuse c.args.who d x c.args.log.now c.append.new.self (subst (λ (a : Answer). IsSome a.1) (sym taken) refl) (search rules) c.append.ensures.same (search rules)

pub returns-clause-called : goal.returns-clause-called
returns-clause-called g c =
    let x = c.args.self.now in
    let d = call.Add c.args.handle in
    let t : Ticket = record { 0 = c.next.result } in
    let row = c.row_of_handle.ensures.ticket c.self.inside.journal.items c.self.invariant.tabled.table in
    let new = no_ticket _ c.row_of_handle.result (sym c.is_some.ensures ∙ c.if-is_some.false) row in
    let few = sym (c.is_full.ensures c.self.inside.journal.items c.self.invariant.tabled.table) ∙ c.if-is_full.false in
    let next : c.next.result ≡ max c.self.inside.first (beyond c.self.inside.journal.items) = rw (← c.self.view_is) at c.next.ensures in
    let room = rw (← c.self.view_is) at (sym c.has_room.ensures ∙ c.if-not-has_room.false) in
    let taken : answer x.opening x.journal d ≡ (reply.Added (next_ticket x.opening x.journal), Some (what.Added c.args.handle (next_ticket x.opening x.journal))) =
    rw (← c.self.view_is) (added_next (record { history = c.self.inside.history; first = c.self.inside.first; from = c.self.inside.from }) c.self.inside.journal.items c.args.handle new few (omega (arith, next)) room) in
    let given : next_ticket x.opening x.journal ≡ t = (λ i. record { 0 = sym c.next.ensures i }) in
    let is : answer x.opening x.journal d ≡ (reply.Added t, Some (what.Added c.args.handle t)) =
    taken ∙ ap (λ (u : Ticket). (reply.Added u, Some (what.Added c.args.handle u))) given in
    called_with g.L.Log.events g.L.Log.name g.L.Log.may_refuse c.args.who d x _ c.args.log.now c.append.new.self (what.Added c.args.handle t) (reply.Added t)
    (answers_with x.opening c.args.who d x.journal c.enter.new.journal.items (what.Added c.args.handle t) (reply.Added t) is (rw (← c.self.view_is) c.enter.ensures.items))
    refl refl (rw (← c.self.view_is) c.enter.ensures.items) (search rules) c.append.ensures.same (ap (λ (x : Core _ _). x.out) c.self.view_is) (ap (λ (x : Core _ _). x.opening) c.self.view_is)

pub returns-clause-queue : goal.returns-clause-queue
returns-clause-queue g c = rw (← c.self.view_is) c.push_reserved.ensures.items
