-- What a run reports beside what it prints.
use Rattle.std.specs.Prelude.{◌≡◌, ℕ, Bool, ◌⊎◌, List}
use Rattle.mx_text.specs.declared.fetched.Fetched.{Fetched}
use Rattle.mx_text.specs.Texts.{texts_from, exit_status}
use Rattle.mx_run_get.specs.Asked.{AreEndsOf}
use Rattle.mx_run_get.specs.Run.{StopsAfter}
use Rattle.mx_run_get.specs.declared.error.FetchError.{FetchError}
use Rattle.mx_text.specs.Lines.{Writes, body_line}
use Rattle.mx_run_get.specs.Explained.{IsRunText}
use Rattle.mx_run_get.specs.Causes.{cause_words}

-- What is printed are ends of these URLs, the program ends with their exit status, and the report is of these ends.
pub record ExplainsEnds (timeout_ms max_redirects : ℕ) (urls : List (List ℕ)) (Printed Told : List ℕ → Type 0) (ends_with : ℕ) : Type 0 where
  pub ends : List Fetched
  pub of_urls : AreEndsOf timeout_ms max_redirects urls ends
  pub printed : Printed (texts_from 0 ends)
  pub status : ends_with ≡ exit_status ends
  pub met_limit : Bool
  pub told : Writes (IsRunText urls ends met_limit) Told

-- Or the run stopped early: the fault is printed after ends of the first URLs, and its cause alone is reported.
pub record ExplainsFault (timeout_ms max_redirects : ℕ) (urls : List (List ℕ)) (Printed Told : List ℕ → Type 0) (ends_with : ℕ) : Type 0 where
  pub cause : FetchError
  pub printed : StopsAfter timeout_ms max_redirects urls Printed ends_with
  pub told : Told (body_line (cause_words cause) 27)

-- rule program-explain
abbrev pub ExplainsUrls : ℕ → ℕ → List (List ℕ) → (List ℕ → Type 0) → (List ℕ → Type 0) → ℕ → Type 0
ExplainsUrls timeout_ms max_redirects urls Printed Told ends_with =
    ExplainsEnds timeout_ms max_redirects urls Printed Told ends_with ⊎ ExplainsFault timeout_ms max_redirects urls Printed Told ends_with
