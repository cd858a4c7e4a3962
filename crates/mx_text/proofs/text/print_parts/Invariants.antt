use Rattle.std.proofs.Common.{◌≡◌, take}
use Rattle.mx_run_io.specs.Ends.{Wrote}
use Rattle.mx_body.specs.Parts.{joined}
use Rattle.mx_text.proofs.text.print_parts.Given as goal

abbrev pub invariant-loop-i : goal.invariant-loop-i
invariant-loop-i g l = record {
  written : Wrote g.W.Write.contents l.initial.output l.output
      (joined l.outcome.wire (take l.i l.outcome.parts));
  kept : l.output.failed ≡ l.initial.output.failed;
}
