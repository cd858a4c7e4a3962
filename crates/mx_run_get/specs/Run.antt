-- What `get` prints.
use Rattle.std.specs.Prelude.{◌≡◌, ℕ, ◌⊎◌, List, ◌++◌, length, take}
use Rattle.mx_types.specs.Code.{code_number}
use Rattle.mx_types.specs.declared.code.Code.TheVariants as codes
use Rattle.mx_run_io.specs.Faults.{fault_line}
use Rattle.mx_text.specs.declared.fetched.Fetched.{Fetched}
use Rattle.mx_text.specs.Texts.{texts_from, exit_status}
use Rattle.mx_run_get.specs.Asked.{AreEndsOf}

-- What is written are the texts of ends of these URLs, and the program ends with their exit status.
pub record PrintsEnds (timeout_ms max_redirects : ℕ) (urls : List (List ℕ)) (Written : List ℕ → Type 0) (ends_with : ℕ) : Type 0 where
  pub ends : List Fetched
  pub of_urls : AreEndsOf timeout_ms max_redirects urls ends
  pub written : Written (texts_from 0 ends)
  pub status : ends_with ≡ exit_status ends

-- What is written are the texts of ends of the first of these URLs, as many as there are ends, and then this text.
pub record PrintsFirst (timeout_ms max_redirects : ℕ) (urls : List (List ℕ)) (text : List ℕ) (Written : List ℕ → Type 0) : Type 0 where
  pub ends : List Fetched
  pub of_urls : AreEndsOf timeout_ms max_redirects (take (length ends) urls) ends
  pub written : Written (texts_from 0 ends ++ text)

-- rule program-out-of-memory
-- How a run ends that stops early: what was printed by then stands, the fault is printed after it, and the program ends with its number.
pub record StopsAfter (timeout_ms max_redirects : ℕ) (urls : List (List ℕ)) (Written : List ℕ → Type 0) (ends_with : ℕ) : Type 0 where
  pub printed : PrintsFirst timeout_ms max_redirects urls (fault_line (code_number codes.OutOfMemory)) Written
  pub status : ends_with ≡ code_number codes.OutOfMemory

-- an end for each URL; or out of memory, after ends of the first ones
abbrev pub AnswersUrls : ℕ → ℕ → List (List ℕ) → (List ℕ → Type 0) → ℕ → Type 0
AnswersUrls timeout_ms max_redirects urls Written ends_with =
    PrintsEnds timeout_ms max_redirects urls Written ends_with ⊎ StopsAfter timeout_ms max_redirects urls Written ends_with
