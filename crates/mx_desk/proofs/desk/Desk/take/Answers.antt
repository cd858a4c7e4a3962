use Rattle.std.proofs.Common.{◌≡◌, ◌∙◌, ◌-◌, ap, map, subst, sym}
use Rattle.std.specs.Prelude.{None, Some, slice_get, slice_set}
use Rattle.mx_request.specs.Request.{IsRequest, request_origin}
use Rattle.mx_lock.specs.Ties.{Has, tie}
use Rattle.mx_desk.specs.Additions.{awaits_at}
use Rattle.mx_desk.specs.Desks.{IsDesk, asked_at}
use Rattle.mx_desk.specs.Ties.{ties_at, ties_of}
use Rattle.mx_desk.proofs.Desks.{added_same, asked_same, asked_set, desk_frees, one_is_added}
use Rattle.mx_desk.proofs.desk.Desk.take.Goals as goal

pub overflow_sub-self : goal.overflow_sub-self
overflow_sub-self g c =
    let is = sym (c.awaits.ensures ∙ ap (λ l. awaits_at l c.args.at c.args.told.now.message.ticket c.args.told.now.is_beside) c.as_slice.ensures.value) ∙ c.if-awaits.true in
    one_is_added (ties_of c.self.inside.seats) c.self.inside.additions.items c.self.inside.width c.self.inside.waiting c.args.at c.args.told.now.message.ticket c.args.told.now.is_beside is c.self.invariant

pub invariant_of-self : goal.invariant_of-self
invariant_of-self g c =
    let is = sym (c.awaits.ensures ∙ ap (λ l. awaits_at l c.args.at c.args.told.now.message.ticket c.args.told.now.is_beside) c.as_slice.ensures.value) ∙ c.if-awaits.true in
    subst (λ l. IsDesk (ties_of c.self.inside.seats) l c.self.inside.width (c.self.inside.waiting - 1)) (sym c.put.ensures)
    (desk_frees (ties_of c.self.inside.seats) c.self.inside.additions.items c.self.inside.width c.self.inside.waiting c.args.at c.args.told.now.message.ticket c.args.told.now.is_beside is c.self.invariant)

pub returns-then-awaits-clause-ended : goal.returns-then-awaits-clause-ended
returns-then-awaits-clause-ended g c =
    let is = sym (c.awaits.ensures ∙ ap (λ l. awaits_at l c.args.at c.args.told.now.message.ticket c.args.told.now.is_beside) c.as_slice.ensures.value) ∙ c.if-awaits.true in
    let request = subst IsRequest c.request.ensures.request c.know.ensures in
    let told = subst (λ d. Has (ties_at (ties_of d.seats) c.args.told.now.is_beside) (tie c.args.told.now.message.ticket (request_origin c.args.told.now.message.outcome.request))) (sym c.self.view_is) c.requires.told in
    let items = c.self.inside.additions.items in
    record {
      added = subst (λ d. slice_get d.asked c.args.at ≡ Some (Some c.args.told.now.message.outcome.request)) c.self.view_is
          (asked_same c.origin_is_whole_request.ensures (ties_of c.self.inside.seats) items c.args.at c.args.told.now.message.ticket c.args.told.now.is_beside c.args.told.now.message.outcome.request request told c.self.invariant.told is);
      asked = subst (λ d. map asked_at c.put.new.additions.items ≡ slice_set d.asked c.args.at None) c.self.view_is (ap (map asked_at) c.put.ensures ∙ asked_set items c.args.at None);
      width = ap (λ d. d.width) c.self.view_is;
    }

pub returns-then-awaits-clause-out : goal.returns-then-awaits-clause-out
returns-then-awaits-clause-out g c =
    let is = sym (c.awaits.ensures ∙ ap (λ l. awaits_at l c.args.at c.args.told.now.message.ticket c.args.told.now.is_beside) c.as_slice.ensures.value) ∙ c.if-awaits.true in
    let request = subst IsRequest c.request.ensures.request c.know.ensures in
    let told = subst (λ d. Has (ties_at (ties_of d.seats) c.args.told.now.is_beside) (tie c.args.told.now.message.ticket (request_origin c.args.told.now.message.outcome.request))) (sym c.self.view_is) c.requires.told in
    let m = c.args.told.now.message in
    let items = c.self.inside.additions.items in
    record {
      was = subst (λ d. slice_get d.added c.args.at ≡ Some (Some (record { ticket = m.ticket; beside = c.args.told.now.is_beside; request = m.outcome.request }))) c.self.view_is
          (added_same c.origin_is_whole_request.ensures (ties_of c.self.inside.seats) items c.args.at m.ticket c.args.told.now.is_beside m.outcome.request request told c.self.invariant.told is);
      added = subst (λ d. c.put.new.additions.items ≡ slice_set d.added c.args.at None) c.self.view_is c.put.ensures;
      full = ap (λ d. d.full) c.self.view_is;
    }
