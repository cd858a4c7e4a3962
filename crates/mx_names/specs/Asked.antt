-- What a table of names was asked.
use Rattle.std.specs.Prelude.{◌≡◌, ℕ, true, List, [], ◌∷◌, ◌++◌, ◌⊎◌}
use Rattle.std.specs.List.{find}
use Rattle.mx_types.specs.declared.code.Code.TheVariants as codes
use Rattle.mx_names.specs.Addresses.{is_lookup_code}
use Rattle.mx_names.specs.Names.{HostState, is_of, told}
use Rattle.mx_names.specs.declared.answer.HostAnswer.{HostAnswer}
use Rattle.mx_names.specs.declared.answer.HostAnswer.TheVariants as answer

-- since which moment one asked, at which moment, and what was known of hosts then
pub record AskedState : Type 0 where
  pub since : ℕ
  pub now : ℕ
  pub known : List HostState

-- One more asked, since that moment and now, where this was known.
abbrev pub AsksOf : ℕ → ℕ → List HostState → List AskedState → List AskedState → Type 0
AsksOf since now known was is = is ≡ was ++ record { since = since; now = now; known = known } ∷ []

-- rule name-failures
-- The table was asked once more, since that moment and now. The answer is what was known of the host, or that memory was refused.
pub record IsAsked (host : List ℕ) (since now : ℕ) (told_so : HostAnswer) (was is : List AskedState) : Type 0 where
  pub known : List HostState
  pub asks : AsksOf since now known was is
  pub answers : (told_so ≡ told since now (find (is_of host) known)) ⊎ (told_so ≡ answer.Failed codes.OutOfMemory)

-- its code, where it has one, is of a host whose addresses can't be found
abbrev pub HasLookupCode : HostAnswer → Type 0
HasLookupCode (answer.Failed failed) = is_lookup_code failed ≡ true
HasLookupCode _ = Unit {0}
