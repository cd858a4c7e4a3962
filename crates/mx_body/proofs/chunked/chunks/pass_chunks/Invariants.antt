use Rattle.std.proofs.Common.{ℕ, length, take, ◌-◌, ◌≡◌, ◌≤◌}
use Rattle.mx_head.specs.Limits.{most_bytes}
use Rattle.mx_body.specs.declared.chunked.place.ChunkedPlace.TheVariants.{Start}
use Rattle.mx_body.specs.ChunkedReader.{ReadTo}
use Rattle.mx_body.proofs.chunked.chunks.pass_chunks.Given as goal

abbrev pub invariant-loop-read : goal.invariant-loop-read
invariant-loop-read l = record {
  read : ReadTo most_bytes l.at l.body l.read Start l.parts.items;
  onward : l.from ≤ l.read;
  longer : length l.initial.parts.items ≤ length l.parts.items;
  front : (n : ℕ) → n ≤ length l.initial.parts.items → take n l.parts.items ≡ take n l.initial.parts.items;
}

abbrev pub decreases-loop-read : goal.decreases-loop-read
decreases-loop-read l = length l.body - l.read
