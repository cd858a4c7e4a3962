use Rattle.std.proofs.Common.{length, take, false, ◌-◌, ◌≡◌, ◌≤◌}
use Rattle.mx_body.specs.declared.chunked.place.ChunkedPlace.TheVariants.{Start}
use Rattle.mx_body.specs.ChunkedPlace.{place_after, is_settled}
use Rattle.mx_body.proofs.chunked.scan.scan_chunked.Given as goal

abbrev pub invariant-loop-at : goal.invariant-loop-at
invariant-loop-at l = record {
  within : l.at ≤ length l.input;
  read : place_after l.limit Start (take l.at l.input) ≡ l.place;
  goes_on : is_settled l.place ≡ false;
}

abbrev pub decreases-loop-at : goal.decreases-loop-at
decreases-loop-at l = length l.input - l.at
