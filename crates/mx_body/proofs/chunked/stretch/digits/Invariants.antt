use Rattle.std.proofs.Common.{length, ◌-◌, ◌≡◌, ◌<◌, ◌^◌, true, slice_index}
use Rattle.std.specs.Char.{is_ascii_hexdigit}
use Rattle.mx_body.specs.declared.chunked.place.ChunkedPlace.TheVariants.{Size}
use Rattle.mx_body.specs.ChunkedStretch.{GoesOn}
use Rattle.mx_body.proofs.chunked.stretch.digits.Given as goal

abbrev pub invariant-loop-n : goal.invariant-loop-n
invariant-loop-n l = record {
  fits : l.value < 2 ^ 32;
  first : 0 < l.n → is_ascii_hexdigit (slice_index l.input 0) ≡ true;
  goes_on : GoesOn l.limit (Size l.size) (Size l.value) l.n l.input;
}

abbrev pub decreases-loop-n : goal.decreases-loop-n
decreases-loop-n l = length l.input - l.n
