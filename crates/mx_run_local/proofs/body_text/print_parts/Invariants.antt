use Rattle.std.proofs.Common.{◌≡◌, ◌≤◌, length, take}
use Rattle.mx_run_io.specs.Ends.{Wrote}
use Rattle.mx_body.specs.Parts.{joined}
use Rattle.mx_run_local.specs.BodyTexts.{Holds}
use Rattle.mx_run_local.proofs.body_text.print_parts.Given as goal

-- the pieces so far are written, but for what is held
abbrev pub invariant-loop-part : goal.invariant-loop-part
invariant-loop-part g l = record {
  within : l.held ≤ length l.buffer;
  holds : Holds (Wrote g.W.Write.contents l.initial.output l.output)
      (joined l.input (take l.part-index l.parts)) (take l.held l.buffer);
  kept : l.output.failed ≡ l.initial.output.failed;
}
