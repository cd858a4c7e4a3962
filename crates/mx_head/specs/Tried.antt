-- What the parser says of the bytes at the place of a head.
use Rattle.std.specs.Prelude.{◌≢◌, ℕ, ◌<◌, ◌≤◌, List, length, take, slice_index}
use Rattle.httparse.specs.Grammar.{ResponseHead, ReadsResponse, HasNoResponse, NeverHasResponse, MayBecomeResponse}
use Rattle.httparse.specs.Spans.{ResponseExceeds}
use Rattle.mx_head.specs.declared.reading.Tried.{Tried}
use Rattle.mx_head.specs.declared.reading.Tried.TheVariants as tried
use Rattle.mx_head.specs.Limits.{most_fields}
use Rattle.mx_head.specs.Lines.{IsFull}
use Rattle.mx_head.specs.Summary.{Describes}

abbrev pub IsTriedOn : List ℕ → Tried → Type 0
IsTriedOn text (tried.Whole x) =
    (h : ResponseHead) × (rest : List ℕ) × ReadsResponse text h rest × (length h.fields ≤ most_fields) × Describes x h
IsTriedOn text tried.Partial = HasNoResponse text × MayBecomeResponse text
IsTriedOn text tried.Invalid = NeverHasResponse text
IsTriedOn text tried.Overfull = ResponseExceeds most_fields text

-- at e is a byte that ends no section, after all the lines
pub record IsPastAt (text : List ℕ) (e : ℕ) : Type 0 where
  pub within : e < length text
  pub not_return : slice_index text e ≢ 13
  pub not_feed : slice_index text e ≢ 10
  pub full : IsFull (take e text)
