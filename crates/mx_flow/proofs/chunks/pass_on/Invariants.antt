use Rattle.std.proofs.Common.{length, ◌-◌, ◌≡◌, ◌++◌}
use Rattle.mx_flow.specs.Steps.{place_of}
use Rattle.mx_flow.specs.Runs.{run_data}
use Rattle.mx_flow.proofs.RunProofs.{GoesOn}
use Rattle.mx_flow.proofs.chunks.pass_on.Given as goal

abbrev pub invariant-loop-read : goal.invariant-loop-read
invariant-loop-read l = record {
  on : GoesOn l.limit (place_of l.fn.from) l.room l.input l.place l.read l.left;
  given : l.out.items ≡ l.initial.out.items ++ run_data l.limit (place_of l.fn.from) l.input l.read;
  counted : l.count ≡ length l.initial.out.items;
}

abbrev pub decreases-loop-read : goal.decreases-loop-read
decreases-loop-read l = length l.input - l.read
