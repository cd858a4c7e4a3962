-- What a scripted gate answers.
use Rattle.std.specs.Prelude.{◌≡◌, ℕ, max, Bool, true, false, List, [], ◌∷◌, Option, Result, Ok, Err}
use Rattle.mx_types.specs.Code.{is_link_code}
use Rattle.mx_gate.specs.Said.{Said}
use Rattle.mx_link.specs.declared.answers.Answer.{Answer}
use Rattle.mx_types.specs.declared.code.Code.{Code}
use Rattle.mx_types.specs.declared.code.Code.TheVariants as code

-- What is planned for opens, for moments, for whether a link can be opened and for whether too many files are open, how many turns are to
-- answer that the worker goes on, the latest moment given, the last wait asked for, and all that was said.
pub record ScriptGateState (L : Type 0) : Type 0 where
  pub openings : List (Result L Code)
  pub moments : List ℕ
  pub asks : List Bool
  pub lacks : List Bool
  pub turns : ℕ
  pub latest : ℕ
  pub last_wait : Option ℕ
  pub said : List Said

-- a link that has answered nothing, or the code of one that can't be opened
abbrev pub IsOpening : {L : Type 0} → (L → List Answer) → Result L Code → Type 0
IsOpening history (Ok link) = history link ≡ []
IsOpening history (Err code) = is_link_code code ≡ true

-- The answer to an open, and what is planned after it. After the script no connection can be opened.
abbrev pub next_opening : {L : Type 0} → List (Result L Code) → Result L Code × List (Result L Code)
next_opening [] = (Err code.CouldntConnect, [])
next_opening (opening ∷ rest) = (opening, rest)

-- Whether a link can be opened, and what is planned after it. After the script one can.
abbrev pub next_ask : List Bool → Bool × List Bool
next_ask [] = (true, [])
next_ask (can ∷ rest) = (can, rest)

-- Whether too many files are open, and what is planned after it. After the script they aren't.
abbrev pub next_lack : List Bool → Bool × List Bool
next_lack [] = (false, [])
next_lack (lacks ∷ rest) = (lacks, rest)

-- The moment given after the latest, and what is planned after it. Moments never fall, and after the script they stay.
abbrev pub next_moment : ℕ → List ℕ → ℕ × List ℕ
next_moment latest [] = (latest, [])
next_moment latest (moment ∷ rest) = (max latest moment, rest)
