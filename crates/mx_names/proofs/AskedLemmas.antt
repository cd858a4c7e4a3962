-- What a table of names was asked.
use Rattle.std.proofs.Common.{◌≡◌, inl, inr, ℕ, List}
use Rattle.std.specs.List.{find}
use Rattle.mx_types.specs.declared.code.Code.TheVariants as codes
use Rattle.mx_names.specs.Names.{Gives, HostState, IsTrueOf, is_of, told}
use Rattle.mx_names.specs.Asked.{AskedState, AsksOf, IsAsked, HasLookupCode}
use Rattle.mx_names.specs.declared.answer.HostAnswer.{HostAnswer}
use Rattle.mx_names.specs.declared.answer.HostAnswer.TheVariants as answers

pub answered : (host : List ℕ) (since now : ℕ) (answer : HostAnswer) (was is : List AskedState) (known : List HostState)
    → AsksOf since now known was is → answer ≡ told since now (find (is_of host) known) → IsAsked host since now answer was is
answered host since now answer was is known asks same = record { known = known; asks = asks; answers = inl same }

pub without_memory : (host : List ℕ) (since now : ℕ) (answer : HostAnswer) (was is : List AskedState) (known : List HostState)
    → AsksOf since now known was is → answer ≡ answers.Failed codes.OutOfMemory → IsAsked host since now answer was is
without_memory host since now answer was is known asks none = record { known = known; asks = asks; answers = inr none }

pub true_code : (gives : Gives) (host : List ℕ) (answer : HostAnswer) → IsTrueOf gives host answer → HasLookupCode answer
true_code gives host (answers.Known addresses) is = tt
true_code gives host (answers.Failed failed) is = is.code
true_code gives host answers.NotYet is = tt
