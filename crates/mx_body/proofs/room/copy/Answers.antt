use Rattle.std.proofs.Common.{◌≡◌, ◌+◌, ◌-◌, ◌++◌, take, drop, sym, ap, ap₂, ◌∙◌, arith, append_assoc, take-add}
use Rattle.mx_body.proofs.room.copy.Goals as goal

pub loop-copied-preserved : goal.loop-copied-preserved
loop-copied-preserved c =
    let bytes = c.args.bytes.now in
    let copied = c.loop-copied.copied in
    let old = c.args.to.now.items in
    let len = c.min-len.result in
    let piece : copied + len - copied ≡ len = omega arith in
    record {
      within = omega (arith, c.loop-copied.invariant.within, c.min-len.ensures);
      items = c.in_ok-extend_from_slice.ensures.items
          ∙ ap₂ ◌++◌ c.loop-copied.invariant.items (ap (λ n. take n (drop copied bytes)) piece)
          ∙ append_assoc old (take copied bytes) (take len (drop copied bytes))
          ∙ ap (λ t. old ++ t) (sym (take-add copied len bytes));
    }
