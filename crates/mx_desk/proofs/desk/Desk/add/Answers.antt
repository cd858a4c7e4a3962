use Rattle.std.proofs.Common.{◌≡◌, ◌⊎◌, ◌∙◌, ◌+◌, ◌≤◌, ◌^◌, ap, map, refl, subst, sym}
use Rattle.std.specs.Prelude.{IfNone, IfSome, None, Some, slice_get, slice_set}
use Rattle.mx_desk.specs.Additions.{IsTold}
use Rattle.mx_desk.specs.Calls.{AtLast, IsRefused, handle_at}
use Rattle.mx_desk.specs.Desks.{HasRoom, IsDesk, asked_at}
use Rattle.mx_desk.specs.Ties.{ties_at, ties_of}
use Rattle.mx_desk.proofs.Desks.{asked_set, asked_there, desk_adds, desk_on, none_why}
use Rattle.mx_desk.proofs.desk.Desk.add.Goals as goal

pub invariant_of-self-in-OutOfMemory : goal.invariant_of-self-in-OutOfMemory
invariant_of-self-in-OutOfMemory g c = desk_on (ties_of c.self.inside.seats) (ties_of c.add_at-added.new.seats) c.self.inside.additions.items c.self.inside.width c.self.inside.waiting c.add_at-added.ensures.later c.self.invariant

pub invariant_of-self-in-Refused : goal.invariant_of-self-in-Refused
invariant_of-self-in-Refused g c = desk_on (ties_of c.self.inside.seats) (ties_of c.add_at-added.new.seats) c.self.inside.additions.items c.self.inside.width c.self.inside.waiting c.add_at-added.ensures.later c.self.invariant

pub invariant_of-self : goal.invariant_of-self
invariant_of-self g c =
    let ties = ties_of c.add_at-added.new.seats in
    let items = c.self.inside.additions.items in
    let addition = c.in-Made.addition in
    let empty = c.in-Made.ensures.free in
    let free = subst (λ l. slice_get l c.args.at ≡ Some None) c.as_slice.ensures.value empty in
    let told = c.in-Made.ensures.told in
    let room = subst (λ d. HasRoom d) (sym c.self.view_is) c.requires.room in
    subst (λ l. IsDesk ties l c.self.inside.width (c.self.inside.waiting + 1)) (sym c.put.ensures)
    (desk_adds ties items c.self.inside.width c.self.inside.waiting c.args.at addition free told room
    (desk_on (ties_of c.self.inside.seats) ties items c.self.inside.width c.self.inside.waiting c.add_at-added.ensures.later c.self.invariant))

pub returns-in-Made-clause-added : goal.returns-in-Made-clause-added
returns-in-Made-clause-added g c =
    let items = c.self.inside.additions.items in
    let addition = c.in-Made.addition in
    let empty = c.in-Made.ensures.free in
    let free = subst (λ l. slice_get l c.args.at ≡ Some None) c.as_slice.ensures.value empty in
    let same = c.in-Made.ensures.request in
    record {
      free = subst (λ d. slice_get d.asked c.args.at ≡ Some None) c.self.view_is (asked_there items c.args.at None free);
      asked = subst (λ d. map asked_at c.put.new.additions.items ≡ slice_set d.asked c.args.at (Some c.args.request)) c.self.view_is
          (ap (map asked_at) c.put.ensures ∙ asked_set items c.args.at (Some addition) ∙ ap (λ r. slice_set (map asked_at items) c.args.at (Some r)) same);
      width = ap (λ d. d.width) c.self.view_is;
    }

pub returns-in-Refused-clause-stands : goal.returns-in-Refused-clause-stands
returns-in-Refused-clause-stands g c =
    let items = c.self.inside.additions.items in
    let new = c.add_at-added.new.seats in
    let at = c.args.at in
    let why = c.in-Refused.ensures.none in
    record {
      added = ap (λ d. d.added) c.self.view_is;
      why = subst (λ d. (((slice_get d.asked at ≡ Some None → ⊥) ⊎ (2 ^ 32 ≤ at)) × (new ≡ d.seats)) ⊎ AtLast (IsRefused (handle_at at)) d.seats new) c.self.view_is
          (none_why c.as_slice.result.now items at c.as_slice.ensures.value why);
      full = refl;
    }
