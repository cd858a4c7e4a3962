-- What a worker gets from its engine, and hands in there.
use Rattle.std.specs.Prelude.{◌≡◌, ◌⊎◌, true, false, List, ◌∷◌, ◌++◌, [], Option, Some, None}
use Rattle.logbook.specs.Pages.{Book}
use Rattle.mx_exchange.specs.Exchanges.{ExchangeState}
use Rattle.mx_turn.specs.Workers.{Held, SetAside, Finish, recorded, stale, lacking, unseated, Deed, finishes}

-- a claimed transfer, and which list of ties has the tie of its claim's addition
pub record HeldView (L : Type 0) : Type 0 where
  pub held : Held L
  pub of : Book

-- an end that is to be handed in, and likewise
pub record EndView : Type 0 where
  pub end : SetAside
  pub of : Book

-- an end was handed in: it comes back where memory was refused, and only there
pub record HandsIn {L : Type 0} (was is : List (Deed L)) (e : EndView) (back : Option EndView) : Type 0 where
  pub f : Finish
  pub did : is ≡ was ++ finishes e.end.ticket e.end.outcome f ∷ []
  pub comes_back : f ≡ lacking → back ≡ Some e
  pub is_taken : ((f ≡ recorded) ⊎ (f ≡ stale)) ⊎ (f ≡ unseated) → back ≡ None

-- what the last poll of a transfer that waits has left: its clock runs, and it has no link that needs a probe
abbrev pub HasWaited : {L : Type 0} → ExchangeState L → Type 0
HasWaited t = (t.is_polled ≡ true) × (t.needs_probe ≡ false)
