use Rattle.std.proofs.Common.{ℕ, List, length, ◌-◌, ◌≤◌}
use Rattle.mx_head.specs.Limits.{most_bytes}
use Rattle.mx_body.specs.declared.part.Part.{Part}
use Rattle.mx_body.specs.declared.chunked.place.ChunkedPlace.TheVariants.{TrailerStart}
use Rattle.mx_body.specs.ChunkedReader.{ReadTo}
use Rattle.mx_body.proofs.chunked.chunks.lines_end.Given as goal

abbrev pub invariant-loop-end : goal.invariant-loop-end
invariant-loop-end l = record {
  onward : l.from ≤ l.end;
  read : (at : ℕ) (parts : List Part) → ReadTo most_bytes at l.body l.from TrailerStart parts → ReadTo most_bytes at l.body l.end TrailerStart parts;
}

abbrev pub decreases-loop-end : goal.decreases-loop-end
decreases-loop-end l = length l.body - l.end
