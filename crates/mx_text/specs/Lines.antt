-- The lines of a failure.
use Rattle.std.specs.Prelude.{◌≡◌, ℕ, ◌+◌, ◌-◌, ◌^◌, List, [], ◌∷◌, ◌++◌, codes, Option, Some, None}
use Rattle.std.specs.Fmt.{decimal}
use Rattle.percent_encoding.specs.declared.ascii_set.AsciiSet.{AsciiSet}
use Rattle.percent_encoding.specs.Percent.{percent_encode}
use Rattle.mx_types.specs.Code.{code_number}
use Rattle.mx_types.specs.declared.code.Code.{Code}
use Rattle.mx_reason.specs.declared.reason.Reason.{Reason}
use Rattle.mx_text.specs.declared.hint.Hint.{Hint}
use Rattle.mx_text.specs.Words.{told_text}
use Rattle.mx_text.specs.Hints.{hint_words, IsUrlHint, body_hint}

-- what is escaped beside the bytes above 127: the controls, 0 to 31 and 127, and the space, 32
abbrev pub hidden : AsciiSet
hidden = record { mask = 2 ^ 127 + (2 ^ 33 - 1) }

-- the bytes as they are shown: each that isn't visible ASCII as %XX, with capital digits
abbrev pub shown : List ℕ → List ℕ
shown bytes = percent_encode hidden bytes

-- the line of a URL that failed, its parts, and that of a response
abbrev pub line_front : List ℕ → List ℕ
line_front url = codes "mxfetch: " ++ (shown url ++ codes ": ")

abbrev pub line_back : ℕ → List ℕ
line_back number = codes " (" ++ (decimal number ++ 41 ∷ 10 ∷ [])

-- rule program-failure-line
abbrev pub failure_line : List ℕ → List ℕ → ℕ → List ℕ
failure_line url words number = line_front url ++ (words ++ line_back number)

abbrev pub body_line : List ℕ → ℕ → List ℕ
body_line words number = codes "mxfetch: " ++ (words ++ line_back number)

-- the line of a hint, none where there is none
abbrev pub hint_line : Option Hint → List ℕ
hint_line None = []
hint_line (Some hint) = codes "  hint: " ++ (hint_words hint ++ 10 ∷ [])

-- what is reported of a URL that failed: its line with the words, and a hint where one is due
pub record IsFailureText (url : List ℕ) (c : Code) (words text : List ℕ) : Type 0 where
  pub hint : Option Hint
  pub due : IsUrlHint url c hint
  pub is : text ≡ failure_line url words (code_number c) ++ hint_line hint

-- what is written is such a text
abbrev pub Writes : (List ℕ → Type 0) → (List ℕ → Type 0) → Type 0
Writes IsText Written = (text : List ℕ) × IsText text × Written text

-- what is reported of a response that isn't whole
abbrev pub body_lines : Code → Option Reason → List ℕ
body_lines c reason = body_line (told_text c reason) (code_number c) ++ hint_line (body_hint reason)
