use Rattle.std.proofs.Common.{◌-◌, arith}
use Rattle.std.specs.Prelude.{Some}
use Rattle.std.proofs.lemmas.List.{length-set}
use Rattle.mx_run_local.proofs.Places.{IsAgain, again}
use Rattle.mx_run_local.proofs.claims.Claims.keep_again.Goals as goal

again_at : (c : goal.Joined-index_mut) → IsAgain c.self.inside.first c.self.inside.places.items (c.args.claim.ticket.0 - c.self.inside.first) c.args.claim
again_at c =
    let place = rw (← c.self.view_is) at c.requires.place in
    let gone = rw (← c.self.view_is) at c.requires.taken in
    again c.self.inside.first c.self.inside.places.items (c.args.claim.ticket.0 - c.self.inside.first) c.args.claim c.self.invariant.0
    (omega (arith, place.0)) (omega (arith, place.0, place.1)) gone c.requires.origin

pub invariant_of-self : goal.invariant_of-self
invariant_of-self c =
    let long = length-set c.self.inside.places.items (c.args.claim.ticket.0 - c.self.inside.first) (Some c.args.claim) in
    rw c.ticket.ensures ((again_at c).places, rw long c.self.invariant.1)

pub returns-clause-count : goal.returns-clause-count
returns-clause-count c = rw (c.ticket.ensures, ← c.self.view_is) (again_at c).count
