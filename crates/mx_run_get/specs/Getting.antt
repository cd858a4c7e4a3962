-- The URLs of a run of `get`, and the ends of their transfers.
use Rattle.std.specs.Prelude.{◌≡◌, ◌≤◌, ℕ, true, List, Option, Some, Result, Ok, All, length, map, slice_get, take}
use Rattle.mx_types.specs.declared.code.Code.{Code}
use Rattle.mx_request.specs.Request.{RequestValue}
use Rattle.mx_fetch.specs.declared.turned.Turned.{Turned}
use Rattle.mx_fetch.specs.declared.turned.Turned.TheVariants as how
use Rattle.mx_text.specs.Asking.{asked_for}
use Rattle.mx_text.specs.declared.fetched.Fetched.{Fetched}
use Rattle.mx_run_io.specs.declared.options.Options.{Options}
use Rattle.mx_run_get.specs.Asked.{asked_of, IsEnd}
use Rattle.mx_run_get.specs.Places.{asked_at, is_awaiting, IsAwaitedAt}
use Rattle.mx_run_get.specs.declared.place.Place.{Place}

-- the URLs, how they are fetched, what is at the places of those that were added or refused, the ends that were taken, and what their output
-- held at first, as far as that is known
pub record GettingValue : Type 0 where
  pub urls : List (List ℕ)
  pub options : Options
  pub places : List Place
  pub taken : List Fetched
  pub begun : Option (List ℕ)

-- what the URLs ask for
abbrev pub wanted : GettingValue → List (Result RequestValue Code)
wanted g = map (asked_for g.options.timeout_ms g.options.max_redirects) g.urls

-- what the next URL asks for
abbrev pub asked_next : GettingValue → Option (Result RequestValue Code)
asked_next g = slice_get (wanted g) (length g.places)

-- rule get-ends
-- There is a place for each URL so far, in their order, of what it asks for; and the ends that were taken are those of the first URLs, in
-- their order.
pub record IsGetting (g : GettingValue) : Type 0 where
  pub within : length g.places ≤ length g.urls
  pub asked : map asked_at g.places ≡ take (length g.places) (wanted g)
  pub in_order : map asked_of g.taken ≡ take (length g.taken) (wanted g)
  pub outcomes : All IsEnd g.taken

-- rule get-ends
-- of each place at which an end is awaited its request is added under its number
abbrev pub AreAwaited : List Place → List (Option RequestValue) → Type 0
AreAwaited places asked = (i : ℕ) (place : Place) → slice_get places i ≡ Some place → is_awaiting place ≡ true
    → (request : RequestValue) × (slice_get asked i ≡ Some (Some request)) × (asked_at place ≡ Ok request)

-- rule get-at-once: `get` prints what a URL ended with as soon as all before it are printed, and flushes; it keeps no body of what it printed.
--
-- all ends that can be taken are: the first one that isn't is awaited
abbrev pub HasTakenAll : GettingValue → Type 0
HasTakenAll g = IsAwaitedAt g.places (length g.taken)

-- where all has ended each end is taken; and where a history is full no end is awaited, whatever is asked then
abbrev pub HasLeft : GettingValue → Turned → Type 0
HasLeft g how.AllEnded = length g.taken ≡ length g.urls
HasLeft g how.HistoryFull = (asked : List (Option RequestValue)) → AreAwaited g.places asked
HasLeft g how.Held = Unit {0}

-- it is a run of the same URLs, to the same output
abbrev pub IsSameGetting : GettingValue → GettingValue → Type 0
IsSameGetting old new = (new.urls ≡ old.urls) × (new.options ≡ old.options) × (new.begun ≡ old.begun)
