use Rattle.std.proofs.Common.{◌≡◌, ◌<◌, ◌∙◌, ap, sym, true, arith, length}
use Rattle.std.specs.Prelude.{slice_get, Some}
use Rattle.mx_types.specs.Limits.{most_handles}
use Rattle.mx_types.specs.declared.names.Ticket.{Ticket}
use Rattle.mx_history.specs.History.{has_ticket}
use Rattle.mx_journal.specs.Core.{OriginList, claimed, origin_of}
use Rattle.mx_journal.proofs.Returns.{insert_in_place, claimed_parts, control-given, queue_short, set_idle, within, origins-given, endings_apart}
use Rattle.mx_journal.proofs.control.Control.give_back.Goals as goal

pub set-requires : goal.set-requires
set-requires g c =
    let j = c.self.inside.journal.items in
    let queue = c.self.inside.queue.items in
    let t = c.ticket-ticket.result in
    let yes : c.is_claimed-is_claimed.result ≡ true = c.if-not-is_claimed.false in
    let h : has_ticket t (claimed j queue) ≡ true = sym (rw (← c.self.view_is, ← c.ticket-ticket.ensures) at c.is_claimed-is_claimed.ensures) ∙ yes in
    within g.Q.Work.origin _ j t c.self.inside.origins queue c.self.invariant.origins c.self.invariant.kept.sound.kept.legal h

pub insert_ticket-requires : goal.insert_ticket-requires
insert_ticket-requires g c =
    let j = c.self.inside.journal.items in
    let queue = c.self.inside.queue.items in
    let t = c.ticket-ticket.result in
    let yes : c.is_claimed-is_claimed.result ≡ true = c.if-not-is_claimed.false in
    let h : has_ticket t (claimed j queue) ≡ true = sym (rw (← c.self.view_is, ← c.ticket-ticket.ensures) at c.is_claimed-is_claimed.ensures) ∙ yes in
    let short : length queue < most_handles =
    queue_short g.O.Ending.code_of g.O.Ending.size_of c.self.inside.history j t c.args.work queue c.self.inside.endings.items _ _ c.self.invariant.kept h in
    omega (arith, short, c.self.inside.queue.ok.0, c.self.invariant.kept.queue_fits)

pub invariant_of-self-2 : goal.invariant_of-self-2
invariant_of-self-2 g c =
    let j = c.self.inside.journal.items in
    let queue = c.self.inside.queue.items in
    let t = c.ticket-ticket.result in
    let yes : c.is_claimed-is_claimed.result ≡ true = c.if-not-is_claimed.false in
    let h : has_ticket t (claimed j queue) ≡ true = sym (rw (← c.self.view_is, ← c.ticket-ticket.ensures) at c.is_claimed-is_claimed.ensures) ∙ yes in
    let placed = insert_in_place t c.args.work queue c.self.invariant.kept.sound.ordered in
    record {
      tabled = c.self.invariant.tabled;
      kept = rw (c.insert_ticket.ensures.items, c.insert_ticket.ensures.capacity, placed)
          (control-given g.O.Ending.code_of g.O.Ending.size_of c.self.inside.history j t c.args.work queue c.self.inside.endings.items _ _ c.self.invariant.kept h);
      begun = c.self.invariant.begun;
      origins = rw (c.insert_ticket.ensures.items, placed, c.set.ensures)
          (origins-given g.Q.Work.origin _ j t c.args.work c.self.inside.origins queue c.self.invariant.origins c.self.invariant.kept.sound.kept.legal h);
    }

pub returns-clause-queue : goal.returns-clause-queue
returns-clause-queue g c =
    rw (← c.self.view_is, ← c.ticket-ticket.ensures)
    (c.insert_ticket.ensures.items ∙ insert_in_place c.ticket-ticket.result c.args.work c.self.inside.queue.items c.self.invariant.kept.sound.ordered)

pub returns-clause-origins : goal.returns-clause-origins
returns-clause-origins g c = rw (← c.self.view_is, ← c.ticket-ticket.ensures, ← c.requires.origin) (ap (λ (o : OriginList). o.all) c.set.ensures)

pub returns-clause-same : goal.returns-clause-same
returns-clause-same g c e =
    let origins = c.self.inside.origins.all in
    let stands : slice_get origins c.ticket-ticket.result.0 ≡ Some (g.Q.Work.origin c.args.work) =
    ap (λ (t : Ticket). origin_of t origins) c.ticket-ticket.ensures ∙ (rw (← c.self.view_is) at e) ∙ ap Some (sym c.requires.origin) in
    rw (← c.self.view_is) (ap (λ (o : OriginList). o.all) c.set.ensures ∙ set_idle origins c.ticket-ticket.result.0 (g.Q.Work.origin c.args.work) stands)

pub returns-clause-own : goal.returns-clause-own
returns-clause-own g c own =
    let j = c.self.inside.journal.items in
    let queue = c.self.inside.queue.items in
    let t = c.ticket-ticket.result in
    let yes : c.is_claimed-is_claimed.result ≡ true = c.if-not-is_claimed.false in
    let h : has_ticket t (claimed j queue) ≡ true = sym (rw (← c.self.view_is, ← c.ticket-ticket.ensures) at c.is_claimed-is_claimed.ensures) ∙ yes in
    let s = c.self.invariant.kept.sound in
    rw c.set.ensures
    (endings_apart g.O.Ending.code_of g.O.Ending.size_of g.O.Ending.origin j t (g.Q.Work.origin c.args.work) c.self.inside.origins.all c.self.inside.endings.items s.kept.legal s.waits (claimed_parts j t queue h).0
    (rw (← c.self.view_is) at own))
