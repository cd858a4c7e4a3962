-- The one request of a run, at its desk.
use Rattle.std.proofs.Common.{◌≡◌, ◌∙◌, ap, sym, List}
use Rattle.std.specs.Prelude.{Option, None, Some, slice_get, slice_set}
use Rattle.mx_request.specs.Request.{RequestValue}
use Rattle.mx_fetch.proofs.Lists.{there}

-- it was added under number 0
pub is_added : (asked now : List (Option RequestValue)) (r : RequestValue) → slice_get asked 0 ≡ Some None → now ≡ slice_set asked 0 (Some r) → slice_get now 0 ≡ Some (Some r)
is_added asked now r free is = ap (λ (l : List (Option RequestValue)). slice_get l 0) is ∙ there asked 0 None (Some r) free

-- what has ended there was it
pub is_it : (asked : List (Option RequestValue)) (r other : RequestValue) → slice_get asked 0 ≡ Some (Some r) → slice_get asked 0 ≡ Some (Some other) → other ≡ r
is_it asked r other one two = let x : Some (Some other) ≡ Some (Some r) = sym two ∙ one in cc
