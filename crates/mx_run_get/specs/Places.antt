-- What is at the places of URLs.
use Rattle.std.specs.Prelude.{◌≡◌, ℕ, Bool, true, false, List, Some, IfSome, Result, Ok, slice_get, slice_set}
use Rattle.std.specs.Option.{option_map_or}
use Rattle.std.specs.declared.snapshot.Snapshot.{Snapshot}
use Rattle.mx_types.specs.declared.code.Code.{Code}
use Rattle.mx_request.specs.Request.{RequestValue}
use Rattle.mx_chain.specs.Outcomes.{OutcomeValue}
use Rattle.mx_text.specs.Fetched.{fetched_of}
use Rattle.mx_text.specs.declared.fetched.Fetched.{Fetched}
use Rattle.mx_run_get.specs.Asked.{asked_of}
use Rattle.mx_run_get.specs.declared.place.Place.{Place}
use Rattle.mx_run_get.specs.declared.place.Place.TheVariants.{Awaited, Known, Taken}

-- what was asked for there
abbrev pub asked_at : Place → Result RequestValue Code
asked_at (Awaited request) = Ok request.value
asked_at (Known end) = asked_of end
asked_at (Taken end) = asked_of end.value

-- an end is awaited there
abbrev pub is_awaiting : Place → Bool
is_awaiting (Awaited _) = true
is_awaiting _ = false

-- and at a place by its number
abbrev pub is_awaiting_at : List Place → ℕ → Bool
is_awaiting_at places i = option_map_or is_awaiting (slice_get places i) false

-- the places once it is known there what its transfer ended with
abbrev pub noted_at : List Place → ℕ → OutcomeValue → List Place
noted_at places i outcome = slice_set places i (Known (fetched_of outcome))

-- an end is awaited at that place, if there is one
abbrev pub IsAwaitedAt : List Place → ℕ → Type 0
IsAwaitedAt places i = IfSome (slice_get places i) (λ place. is_awaiting place ≡ true)

-- the end that was known at that place is taken
pub record TakesAt (old : List Place) (i : ℕ) (end : Fetched) (new : List Place) : Type 0 where
  pub known : slice_get old i ≡ Some (Known end)
  pub seen : Snapshot Fetched
  pub of : seen.value ≡ end
  pub is : new ≡ slice_set old i (Taken seen)
