-- What `get --explain` reports of the ends of URLs.
use Rattle.std.specs.Prelude.{◌≡◌, ℕ, Bool, true, false, List, [], ◌∷◌, ◌++◌, Option, None}
use Rattle.mx_reason.specs.declared.reason.Reason.{Reason}
use Rattle.mx_chain.specs.Hops.{is_ok}
use Rattle.mx_text.specs.declared.fetched.Fetched.{Fetched}
use Rattle.mx_text.specs.declared.fetched.Fetched.TheVariants.{Refused, Ended, Failed}
use Rattle.mx_text.specs.Fetched.{code_of}
use Rattle.mx_text.specs.Failures.{IsWhy}
use Rattle.mx_text.specs.Words.{told_text}
use Rattle.mx_text.specs.Hints.{file_limit_hint}
use Rattle.mx_text.specs.Lines.{IsFailureText, hint_line}

-- why a URL ended so, as far as the received bytes show: of a transfer that failed what its failure has
abbrev pub IsWhyOf : Fetched → Option Reason → Type 0
IsWhyOf (Refused c) reason = reason ≡ None
IsWhyOf (Ended outcome) reason = reason ≡ None
IsWhyOf (Failed outcome) reason = IsWhy outcome reason

-- nothing with code 0; else the line of its code and of why it failed, and a hint where one is due
pub record IsEndText (url : List ℕ) (fetched : Fetched) (text : List ℕ) : Type 0 where
  pub well : is_ok (code_of fetched) ≡ true → text ≡ []
  pub failed : is_ok (code_of fetched) ≡ false
      → (reason : Option Reason) × IsWhyOf fetched reason × IsFailureText url (code_of fetched) (told_text (code_of fetched) reason) text

-- so of each URL, in their order
abbrev pub AreEndTexts : List (List ℕ) → List Fetched → List ℕ → Type 0
AreEndTexts [] ends text = text ≡ []
AreEndTexts (url ∷ urls) [] text = text ≡ []
AreEndTexts (url ∷ urls) (end ∷ ends) text =
    (first : List ℕ) × (rest : List ℕ) × IsEndText url end first × AreEndTexts urls ends rest × (text ≡ first ++ rest)

-- rule program-file-limit-hint
-- and after them a hint, where the run met the limit of open files
pub record IsRunText (urls : List (List ℕ)) (ends : List Fetched) (met_limit : Bool) (text : List ℕ) : Type 0 where
  pub of_ends : List ℕ
  pub are : AreEndTexts urls ends of_ends
  pub is : text ≡ of_ends ++ hint_line (file_limit_hint met_limit)
