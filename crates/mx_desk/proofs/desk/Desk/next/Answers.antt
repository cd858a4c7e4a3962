use Rattle.std.proofs.Common.{◌≡◌, ◌∙◌, ap, subst}
use Rattle.std.specs.Prelude.{MatchOption, None, Some, slice_get, slice_set}
use Rattle.mx_desk.specs.Calls.{AtSeat, ReadsEnd, ReadsMessage, Wait, handle_at}
use Rattle.mx_desk.specs.Ties.{ties_of}
use Rattle.mx_desk.proofs.Desks.{desk_on}
use Rattle.mx_desk.proofs.Reading.{ended_at}
use Rattle.mx_desk.proofs.desk.Desk.next.Goals as goal

pub invariant_of-self : goal.invariant_of-self
invariant_of-self g c = desk_on (ties_of c.self.inside.seats) (ties_of c.next.new.self) c.self.inside.additions.items c.self.inside.width c.self.inside.waiting c.next.ensures.later c.self.invariant

pub invariant_of-self-in-Ok-None : goal.invariant_of-self-in-Ok-None
invariant_of-self-in-Ok-None g c = desk_on (ties_of c.self.inside.seats) (ties_of c.next.new.self) c.self.inside.additions.items c.self.inside.width c.self.inside.waiting c.next.ensures.later c.self.invariant

pub invariant_of-self-in-Err : goal.invariant_of-self-in-Err
invariant_of-self-in-Err g c = desk_on (ties_of c.self.inside.seats) (ties_of c.next.new.self) c.self.inside.additions.items c.self.inside.width c.self.inside.waiting c.next.ensures.later c.self.invariant

pub returns-in_ok-end-in-Ok-Some-clause-taken : goal.returns-in_ok-end-in-Ok-Some-clause-taken
returns-in_ok-end-in-Ok-Some-clause-taken g c =
    let told = c.in-Ok-Some.told in
    let e = c.in_ok-end-in-Ok-Some.field-0 in
    let did = c.in_ok-end-in-Ok-Some.ensures in
    let read = subst (λ o. MatchOption o (Wait c.self.inside.seats c.next.new.self) (λ t. AtSeat (ReadsMessage t.message.handle t.message.ticket t.message.outcome) t.is_beside c.self.inside.seats c.next.new.self))
    c.in-Ok-Some.field-0-is c.in-Ok-Some.ensures.read in
    record {
      beside = told.is_beside;
      out = record {
        was = subst (λ d. slice_get d.added e.at ≡ Some (Some (record { ticket = e.ticket; beside = told.is_beside; request = e.outcome.request }))) c.self.view_is did.out.was;
        added = subst (λ d. c.end.new.self.added ≡ slice_set d.added e.at None) c.self.view_is did.out.added;
        full = did.out.full ∙ ap (λ d. d.full) c.self.view_is;
      };
      read = subst (λ d. AtSeat (ReadsEnd (handle_at e.at) e.ticket e.outcome) told.is_beside d.seats c.end.new.self.seats) c.self.view_is
          (ended_at told.message.handle (handle_at e.at) told.message.ticket e.ticket told.message.outcome e.outcome told.is_beside c.self.inside.seats c.next.new.self c.end.new.self.seats
          did.message.0 did.message.1 did.message.2 read did.freed);
    }
