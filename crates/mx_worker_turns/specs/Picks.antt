-- Which transfer is looked at next.
use Rattle.std.specs.Prelude.{◌≡◌, ℕ, ◌≤◌, Bool, true, false, List, ◌∷◌, ◌++◌, [], All, Option, Some, None, MatchOption}
use Rattle.mx_gate.specs.Said.{Said, told}
use Rattle.mx_turn.specs.Turn.{IsLate}
use Rattle.mx_turn.specs.Engines.{HeldView}

-- a deadline that isn't before this bound, if there is one
abbrev pub Bounds : Option ℕ → Option ℕ → Type 0
Bounds least None = Unit {0}
Bounds None (Some deadline) = ⊥
Bounds (Some least) (Some deadline) = least ≤ deadline

-- a transfer whose deadline isn't before it
abbrev pub IsBounded : {L : Type 0} → Option ℕ → HeldView L → Type 0
IsBounded least h = Bounds least h.held.transfer.now.deadline

-- none of these is due
abbrev pub NoneIsLate : {L : Type 0} → ℕ → List (HeldView L) → Type 0
NoneIsLate now hs = All (λ k. ¬ (IsLate now k.held)) hs

-- one that is due was taken out of these, and the others are left in order
pub record IsOneDue {L : Type 0} (now : ℕ) (old : List (HeldView L)) (h : HeldView L) (new : List (HeldView L)) : Type 0 where
  pub earlier : List (HeldView L)
  pub later : List (HeldView L)
  pub before : old ≡ earlier ++ h ∷ later
  pub after : new ≡ earlier ++ later
  pub late : IsLate now h.held

-- one that is due was taken, while there is one
abbrev pub TakesDue : {L : Type 0} → ℕ → List (HeldView L) → Option (HeldView L) → List (HeldView L) → Type 0
TakesDue now old taken new = MatchOption taken (NoneIsLate now old × (new ≡ old)) (λ h. IsOneDue now old h new)

-- The one that is looked at next, where the moment was `now`, and is `then`; what the gate had said before, and has said since. `is_new`
-- says that none was polled since the clock was read.
pub data Picks {L : Type 0} (now then : ℕ) (is_new : Bool) (old : List (HeldView L)) (h : HeldView L) (new : List (HeldView L)) (was is : List Said) : Type 0 where
  -- one was due already
  due_now : IsOneDue now old h new → then ≡ now → is ≡ was → Picks now then is_new old h new was is
  -- none was due, the clock was read, and then one is
  due_then : is_new ≡ false → NoneIsLate now old → is ≡ was ++ told then ∷ [] → IsOneDue then old h new → Picks now then is_new old h new was is
  -- none was due, and none was polled since the clock was read: the first
  first_now : is_new ≡ true → NoneIsLate now old → old ≡ h ∷ new → then ≡ now → is ≡ was → Picks now then is_new old h new was is
  -- none was due, the clock was read, and none is: the first
  first_then : is_new ≡ false → NoneIsLate now old → is ≡ was ++ told then ∷ [] → NoneIsLate then old → old ≡ h ∷ new → Picks now then is_new old h new was is

-- one that is due was taken, while there is one; where none is, the first is the one to be looked at next
abbrev pub PicksDue : {L : Type 0} → ℕ → ℕ → Bool → List (HeldView L) → Option (HeldView L) → List (HeldView L) → List Said → List Said → Type 0
PicksDue {L} now then is_new old taken new was is =
    MatchOption taken ((new ≡ old) × ((h : HeldView L) (rest : List (HeldView L)) → old ≡ h ∷ rest → Picks now then is_new old h rest was is)) (λ h. Picks now then is_new old h new was is)
