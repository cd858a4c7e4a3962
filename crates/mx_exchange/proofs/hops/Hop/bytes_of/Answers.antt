use Rattle.std.proofs.Common.{length, ap, refl}
use Rattle.std.specs.Prelude.{slice_range}
use Rattle.std.proofs.lemmas.Option.{slice_get_read}
use Rattle.mx_exchange.proofs.Bodies.{ordered_part}
use Rattle.mx_exchange.proofs.hops.Hop.bytes_of.Goals as goal

pub slice_bounds-result-count : goal.slice_bounds-result-count
slice_bounds-result-count c =
    let less = rw (← c.self.view_is) at c.requires in
    (ordered_part c.self.inside.kept.items c.self.inside.parts.items c.args.i c.index-part.result.now c.self.invariant.ordered less c.index-part.ensures).0

pub slice_bounds-result-start : goal.slice_bounds-result-start
slice_bounds-result-start c =
    let less = rw (← c.self.view_is) at c.requires in
    (ordered_part c.self.inside.kept.items c.self.inside.parts.items c.args.i c.index-part.result.now c.self.invariant.ordered less c.index-part.ensures).0

pub slice_bounds-result-end : goal.slice_bounds-result-end
slice_bounds-result-end c =
    let less = rw (← c.self.view_is) at c.requires in
    rw c.deref.ensures.value (ordered_part c.self.inside.kept.items c.self.inside.parts.items c.args.i c.index-part.result.now c.self.invariant.ordered less c.index-part.ensures).1

pub returns : goal.returns
returns c =
    let part = c.index-part.result.now in
    let less = rw (← c.self.view_is) at c.requires in (
      part,
      rw (← c.self.view_is) (slice_get_read c.self.inside.parts.items (length c.self.inside.parts.items) c.args.i part refl less c.index-part.ensures),
      rw (← c.self.view_is) (ap (λ (l : _). slice_range l part.start part.end) c.deref.ensures.value),
    )
