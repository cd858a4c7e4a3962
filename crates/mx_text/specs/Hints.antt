-- Hints for common first mistakes.
use Rattle.std.specs.Prelude.{◌≡◌, ℕ, ◌≤◌, Bool, true, false, List, length, take, map, codes, Option, Some, None}
use Rattle.std.specs.Char.{to_ascii_lowercase}
use Rattle.mx_types.specs.declared.code.Code.{Code}
use Rattle.mx_types.specs.declared.code.Code.TheVariants as code
use Rattle.mx_reason.specs.declared.reason.Reason.{Reason}
use Rattle.mx_reason.specs.declared.reason.Defect.{Defect}
use Rattle.mx_reason.specs.declared.reason.Defect.TheVariants as what
use Rattle.mx_reason.specs.declared.reason.Fault.TheVariants as fault
use Rattle.mx_text.specs.declared.hint.Hint.{Hint}
use Rattle.mx_text.specs.declared.hint.Hint.TheVariants.{NoScheme, Https, NotRaw, FileLimit}

abbrev pub hint_words : Hint → List ℕ
hint_words NoScheme = codes "a URL begins with http://"
hint_words Https = codes "there is no TLS here, so https can't be fetched"
hint_words NotRaw = codes "a response is read as it came: curl saves it with -si --raw --http1.1"
hint_words FileLimit = codes "too many files were open for a connection: ulimit -n allows more, --at-once fewer transfers"

-- the codes with which a URL is refused
abbrev pub is_url_code : Code → Bool
is_url_code code.UnsupportedProtocol = true
is_url_code code.UrlMalformat = true
is_url_code _ = false

-- the URL begins so, in letters of any case
abbrev pub BeginsInAnyCase : List ℕ → List ℕ → Type 0
BeginsInAnyCase front url =
    (length front ≤ length url) × (map to_ascii_lowercase (take (length front) url) ≡ map to_ascii_lowercase front)

-- rule program-url-hint: A URL without `http:` gets a hint with a code of a refused URL, and with no other.
--
-- The hint for a URL that failed with that code: that there is no TLS, if it begins with https; that it needs a scheme, if it begins with
-- neither that nor http. There is none for another, nor with a code that may have other reasons.
pub record IsUrlHint (url : List ℕ) (c : Code) (hint : Option Hint) : Type 0 where
  pub elsewhere : is_url_code c ≡ false → hint ≡ None
  pub https : is_url_code c ≡ true → BeginsInAnyCase (codes "https:") url → hint ≡ Some Https
  pub http : BeginsInAnyCase (codes "http:") url → ¬ (BeginsInAnyCase (codes "https:") url) → hint ≡ None
  pub other : is_url_code c ≡ true → ¬ (BeginsInAnyCase (codes "https:") url) → ¬ (BeginsInAnyCase (codes "http:") url)
      → hint ≡ Some NoScheme

-- rule program-file-limit-hint: A run that met the limit of open files gets a hint, after all else, and no other run does.
--
-- for a run that met the limit of open files
abbrev pub file_limit_hint : Bool → Option Hint
file_limit_hint true = Some FileLimit
file_limit_hint false = None

-- Where a response's first line isn't a status line, or a chunk's size isn't one, it may have been changed when it was saved.
abbrev pub what_hint : Defect → Option Hint
what_hint (what.Fault fault.StatusLine) = Some NotRaw
what_hint (what.Fault fault.SizeLine) = Some NotRaw
what_hint _ = None

abbrev pub body_hint : Option Reason → Option Hint
body_hint None = None
body_hint (Some reason) = what_hint reason.what
