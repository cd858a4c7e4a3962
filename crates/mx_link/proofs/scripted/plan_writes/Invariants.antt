use Rattle.std.proofs.Common.{◌≡◌, take, filter}
use Rattle.mx_link.specs.Script.{is_planned}
use Rattle.mx_link.proofs.scripted.plan_writes.Given as goal

abbrev pub invariant-loop-write : goal.invariant-loop-write
invariant-loop-write l = l.entries.items ≡ filter is_planned (take l.write-index l.writes)
