-- What holds of every host.
use Rattle.std.specs.Prelude.{◌≡◌, ℕ, ◌+◌, ◌<◌, ◌≤◌, false, List, [], ◌∷◌, ◌++◌, Some, Err}
use Rattle.std.specs.List.{find}
use Rattle.mx_types.specs.declared.code.Code.{Code}
use Rattle.mx_names.specs.Hosts.{unbracketed}
use Rattle.mx_names.specs.Names.{HostState, is_of, told, may_begin, kept_ms}
use Rattle.mx_names.specs.declared.answer.HostAnswer.TheVariants as answer

-- the host is in brackets (91 and 93), with this between them
abbrev pub IsBracketed : List ℕ → List ℕ → Type 0
IsBracketed host inner = host ≡ 91 ∷ inner ++ 93 ∷ []

abbrev pub BracketsAreTaken : Type 0
BracketsAreTaken = (host : List ℕ)
    → ((inner : List ℕ) → IsBracketed host inner → unbracketed host ≡ inner)
    × (((inner : List ℕ) → IsBracketed host inner → ⊥) → unbracketed host ≡ host)

-- rule name-failures
-- The lookup of a host failed so at that moment.
abbrev pub HasFailed : List ℕ → Code → ℕ → List HostState → Type 0
HasFailed host failed moment states = find (is_of host) states ≡ Some (record { host = host; learnt = Some (record { outcome = Err failed; moment = moment }) })

-- A lookup that failed less than 60 seconds ago is the answer to each who asks since it failed or before, and no other begins for them.
abbrev pub FailuresAreTold : Type 0
FailuresAreTold = (host : List ℕ) (failed : Code) (since moment now : ℕ) (states : List HostState)
    → HasFailed host failed moment states → since ≤ moment → now < moment + kept_ms
    → (told since now (find (is_of host) states) ≡ answer.Failed failed) × (may_begin host since now states ≡ false)
