use Rattle.std.proofs.Common.{take, map}
use Rattle.mx_run_io.specs.Ends.{Wrote}
use Rattle.mx_text.specs.Lines.{Writes}
use Rattle.mx_run_get.specs.Explained.{AreEndTexts}
use Rattle.mx_run_get.proofs.explained.print_ends.Given as goal

abbrev pub invariant-loop-i : goal.invariant-loop-i
invariant-loop-i g l =
    Writes (AreEndTexts (take l.i (map (λ u. u.now) l.urls)) (take l.i l.ends)) (Wrote g.W.Write.contents l.initial.output l.output)
