use Rattle.std.proofs.Common.{length, take, ◌-◌, ◌≡◌, ◌≤◌}
use Rattle.mx_body.specs.declared.chunked.place.ChunkedPlace.TheVariants.{Start}
use Rattle.mx_body.specs.ChunkedPlace.{place_after, parts_begun}
use Rattle.mx_body.proofs.chunked.parts.chunked_parts.Given as goal

abbrev pub invariant-loop-read : goal.invariant-loop-read
invariant-loop-read l = record {
  within : l.read ≤ length l.input;
  place : place_after 4294967295 Start (take l.read l.input) ≡ l.place;
  parts : l.parts.items ≡ parts_begun 4294967295 Start l.at (take l.read l.input);
}

abbrev pub decreases-loop-read : goal.decreases-loop-read
decreases-loop-read l = length l.input - l.read
