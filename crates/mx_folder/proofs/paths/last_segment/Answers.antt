use Rattle.std.proofs.Common.{◌+◌, get_or, drop, take, arith, refl, ap, ◌∙◌}
use Rattle.std.proofs.lemmas.Bool.Decides.{nat_tests}
use Rattle.mx_folder.proofs.Segment.{segment_longer, segment_begun}
use Rattle.mx_folder.proofs.paths.last_segment.Goals as goal
use Rattle.mx_folder.proofs.paths.last_segment.Goals.{then-b-eq47, else-b-eq47}

pub loop-i-preserved : goal.loop-i-preserved
loop-i-preserved c =
    let path = c.args.path.now in
    let i = c.loop-i.i in
    elim c.if-b-eq47.branch [
      | then-b-eq47 w ↦ record {
        within = omega arith;
        behind = ap (λ s. drop s (take (i + 1) path)) w.start-is ∙ segment_begun path i (get_or path i 0) (omega arith) refl (grind (arith, nat_tests));
      }
      | else-b-eq47 w ↦ record {
        within = omega arith;
        behind = ap (λ s. drop s (take (i + 1) path)) w.start-is ∙ segment_longer path c.loop-i.start i (get_or path i 0) (omega arith) refl (grind (arith, nat_tests)) (omega arith) c.loop-i.invariant.behind;
      }
    ]
