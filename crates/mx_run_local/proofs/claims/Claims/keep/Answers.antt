use Rattle.std.proofs.Common.{◌≡◌, ◌+◌, ◌∷◌, [], ap, sym, arith, length, length-append}
use Rattle.std.specs.Prelude.{Some}
use Rattle.mx_types.specs.declared.names.Ticket.{Ticket}
use Rattle.mx_run_local.proofs.Places.{few_kept, kept_places, kept_view}
use Rattle.mx_run_local.proofs.claims.Claims.keep.Goals as goal

pub invariant_of-self : goal.invariant_of-self
invariant_of-self c =
    let places = c.self.inside.places.items in
    let next : c.args.claim.ticket.0 ≡ c.self.inside.first + length places = rw (← c.self.view_is) at c.requires.next in
    let same : c.ticket.result.0 ≡ c.args.claim.ticket.0 = ap (λ (t : Ticket). t.0) c.ticket.ensures in
    let longer = length-append places (Some c.args.claim ∷ []) in
    rw c.push_reserved.ensures.items
    (kept_places c.self.inside.first places c.args.claim c.self.invariant.0 next c.requires.origin, omega (arith, longer, next, same, c.ticket.type_inv))

pub returns-clause-kept : goal.returns-clause-kept
returns-clause-kept c =
    kept_view c.self.inside.first c.self.inside.places.items c.push_reserved.new.self.items c.args.claim _ _ c.args.self.now c.push_reserved.ensures.items
    c.push_reserved.ensures.capacity (sym c.self.view_is)

pub returns-clause-few : goal.returns-clause-few
returns-clause-few c = rw (← c.self.view_is) (few_kept c.self.inside.places.items)
