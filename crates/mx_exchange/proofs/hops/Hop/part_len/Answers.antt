use Rattle.std.proofs.Common.{◌≡◌, ◌+◌, ◌-◌, suc, length, take, sym, ap, subst, arith}
use Rattle.mx_body.specs.Parts.{joined}
use Rattle.mx_body.specs.declared.part.Part.{Part}
use Rattle.mx_exchange.proofs.Bodies.{ordered_part, joined_before, joined_next}
use Rattle.mx_exchange.proofs.hops.Hop.part_len.Goals as goal

pub overflow_sub-result : goal.overflow_sub-result
overflow_sub-result c =
    let less = rw (← c.self.view_is) at c.requires in
    (ordered_part c.self.inside.kept.items c.self.inside.parts.items c.args.i c.index-place.result.now c.self.invariant.ordered less c.index-place.ensures).0

pub returns-clause-next : goal.returns-clause-next
returns-clause-next c =
    let hop = c.self.inside in
    let less = rw (← c.self.view_is) at c.requires in
    let part = c.index-place.result.now in
    let all = length hop.kept.items in
    let step = joined_next hop.kept.items 0 all hop.parts.items c.args.i part c.self.invariant.ordered (omega arith) less in
    let next : c.args.i + 1 ≡ suc c.args.i = omega arith in
    rw (← c.self.view_is, next)
    (subst (λ (p : Part). length (joined hop.kept.items (take (suc c.args.i) hop.parts.items)) ≡ length (joined hop.kept.items (take c.args.i hop.parts.items)) + (p.end - p.start)) (sym c.index-place.ensures) step)

pub returns-clause-fits : goal.returns-clause-fits
returns-clause-fits c =
    let hop = c.self.inside in
    let less = rw (← c.self.view_is) at c.requires in
    let part = c.index-place.result.now in
    let all = length hop.kept.items in
    let step = joined_next hop.kept.items 0 all hop.parts.items c.args.i part c.self.invariant.ordered (omega arith) less in
    let before = joined_before hop.kept.items 0 all hop.parts.items c.args.i part c.self.invariant.ordered (omega arith) less in
    let within = ordered_part hop.kept.items hop.parts.items c.args.i part c.self.invariant.ordered less c.index-place.ensures in
    let next : c.args.i + 1 ≡ suc c.args.i = omega arith in
    let grown = subst (λ (p : Part). length (joined hop.kept.items (take (suc c.args.i) hop.parts.items)) ≡ length (joined hop.kept.items (take c.args.i hop.parts.items)) + (p.end - p.start)) (sym c.index-place.ensures) step in
    let start = ap (λ (p : Part). p.start) c.index-place.ensures in
    rw (← c.self.view_is, next) (omega (arith, grown, before, start, within.0))
