-- What is printed in parts.
use Rattle.std.proofs.Common.{◌≡◌, ℕ, List, ◌++◌, refl, subst}
use Rattle.std.specs.Prelude.{Option, Some, None, Result, Ok, Err, OnOk, IfSome}
use Rattle.std.specs.Io.KnownBytes.{Appends}
use Rattle.std.proofs.KnownBytes.{Appends-trans}
use Rattle.mx_types.specs.declared.code.Code.{Code}
use Rattle.mx_types.specs.Code.{code_number}
use Rattle.mx_text.specs.declared.hint.Hint.{Hint}
use Rattle.mx_text.specs.Hints.{IsUrlHint}
use Rattle.mx_text.specs.Lines.{failure_line, hint_line, IsFailureText, Writes}

-- words are printed between a front and a back
pub words_printed : {A E : Type 0} (r : Result A E) (words : Option (List ℕ)) (old a b new : Option (List ℕ)) (front back : List ℕ)
    → Appends old a front → IfSome words (Appends a b) → OnOk r (Appends b new back)
    → OnOk r (IfSome words (λ text. Appends old new (front ++ (text ++ back))))
words_printed (Ok x) (Some text) old a b new front back first second third =
    Appends-trans old a new front (text ++ back) first (Appends-trans a b new text back second third)
words_printed (Ok x) None old a b new front back first second third = tt
words_printed (Err e) words old a b new front back first second third = tt

-- a line is printed, and then the hint that is due
pub hint_printed : {A E : Type 0} (r : Result A E) (old mid new : Option (List ℕ)) (line : List ℕ) (hint due : Option Hint) → hint ≡ due
    → Appends old mid line → OnOk r (Appends mid new (hint_line hint)) → OnOk r (Appends old new (line ++ hint_line due))
hint_printed (Ok a) old mid new line hint due is first more =
    subst (λ h. Appends old new (line ++ hint_line h)) is (Appends-trans old mid new line (hint_line hint) first more)
hint_printed (Err e) old mid new line hint due is first more = tt

-- so it is with the line of a URL
pub failure_printed : {A E : Type 0} (r : Result A E) (words : Option (List ℕ)) (old mid new : Option (List ℕ)) (url : List ℕ) (c : Code)
    (number : ℕ) (hint : Option Hint) → number ≡ code_number c → IsUrlHint url c hint
    → IfSome words (λ text. Appends old mid (failure_line url text number))
    → OnOk r (Appends mid new (hint_line hint)) → OnOk r (IfSome words (λ text. Writes (IsFailureText url c text) (Appends old new)))
failure_printed (Ok a) (Some text) old mid new url c number hint is due first more =
    let line = failure_line url text (code_number c) in
    let printed : Appends old mid line = subst (λ n. Appends old mid (failure_line url text n)) is first in
    (line ++ hint_line hint, record { hint = hint; due = due; is = refl }, Appends-trans old mid new line (hint_line hint) printed more)
failure_printed (Ok a) None old mid new url c number hint is due first more = tt
failure_printed (Err e) words old mid new url c number hint is due first more = tt
