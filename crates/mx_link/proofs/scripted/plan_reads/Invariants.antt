use Rattle.std.proofs.Common.{◌≡◌, take, map}
use Rattle.std.specs.List.{filter_map}
use Rattle.mx_link.specs.Script.{planned}
use Rattle.mx_link.specs.Plan.{answer_of}
use Rattle.mx_link.proofs.scripted.plan_reads.Given as goal

abbrev pub invariant-loop-read : goal.invariant-loop-read
invariant-loop-read l = map answer_of l.entries.items ≡ filter_map planned (take l.read-index l.reads)
