use Rattle.std.proofs.Common.{◌≡◌, ◌<◌, ◌≤◌, ◌+◌, ◌-◌, sym, refl, arith, length}
use Rattle.std.proofs.lemmas.Grind.{common_steps}
use Rattle.std.proofs.lemmas.List.{length-set}
use Rattle.mx_run_local.proofs.Places.{Took, above, below, took, took_none, took_some}
use Rattle.mx_run_local.proofs.claims.Claims.take.Goals as goal

took_it : (c : goal.After-self-1) → Took c.self.inside.first c.self.inside.places.items c.args.ticket (c.args.ticket.0 - c.self.inside.first) c.take.result c.take.new.self
took_it c =
    let after : c.self.inside.first ≤ c.args.ticket.0 = grind (arith, common_steps) in
    let at : c.args.ticket.0 ≡ c.self.inside.first + (c.args.ticket.0 - c.self.inside.first) = omega (arith, after) in
    let inside : c.args.ticket.0 - c.self.inside.first < length c.self.inside.places.items = grind (arith, common_steps) in
    took c.self.inside.first c.self.inside.places.items c.args.ticket (c.args.ticket.0 - c.self.inside.first) c.index_mut.result.now c.take.result c.take.new.self
    c.self.invariant.0 at inside c.index_mut.ensures.value c.take.ensures.value c.take.ensures.after

pub returns-then-place-self-clause-none : goal.returns-then-place-self-clause-none
returns-then-place-self-clause-none c =
    let early : c.args.ticket.0 < c.self.inside.first = grind (arith, common_steps) in
    rw (← c.self.view_is) (below c.self.inside.first c.self.inside.places.items c.args.ticket c.self.invariant.0 early, refl)

pub returns-then-at-len-clause-none : goal.returns-then-at-len-clause-none
returns-then-at-len-clause-none c =
    let after : c.self.inside.first ≤ c.args.ticket.0 = grind (arith, common_steps) in
    let past : length c.self.inside.places.items ≤ c.args.ticket.0 - c.self.inside.first = grind (arith, common_steps) in
    rw (← c.self.view_is) (above c.self.inside.first c.self.inside.places.items c.args.ticket c.self.invariant.0 (omega (arith, after, past)), refl)

pub invariant_of-self : goal.invariant_of-self
invariant_of-self c =
    let long = length-set c.self.inside.places.items (c.args.ticket.0 - c.self.inside.first) c.take.new.self in
    ((took_it c).places, rw long c.self.invariant.1)

pub returns-clause-none : goal.returns-clause-none
returns-clause-none c = took_none _ _ _ _ c.take.result c.take.new.self _ c.args.self.now (took_it c) (sym c.self.view_is)

pub returns-clause-some : goal.returns-clause-some
returns-clause-some c = took_some _ _ _ _ c.take.result c.take.new.self _ c.args.self.now (took_it c) (sym c.self.view_is)

pub returns-clause-its : goal.returns-clause-its
returns-clause-its c = (took_it c).its

pub returns-clause-once : goal.returns-clause-once
returns-clause-once c = rw (← c.self.view_is) (took_it c).once
