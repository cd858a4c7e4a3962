-- What a gate was asked, and what it answered.
use Rattle.std.specs.Prelude.{ℕ, Bool, true, false, Result, Ok, Err}
use Rattle.mx_types.specs.declared.code.Code.{Code}
use Rattle.mx_request.specs.Endpoint.{HostAndPort}
use Rattle.mx_gate.specs.declared.gate.Turn.{Turn}
use Rattle.mx_gate.specs.declared.gate.Turn.TheVariants as turn

-- rule gate-log: What a gate is asked and answers is in its list, in order: moments, links that it opened or didn't, waits and stops.
--
-- The moment that it gave. Whether it could open a link to an endpoint when it was asked. What it opened for an endpoint: the number of the
-- link, or the code of why it couldn't. Whether too many files were open for a link that couldn't be opened. How many milliseconds it was to
-- wait, and whether it then said that the worker is to stop.
pub data Said : Type 0 where
  told : ℕ → Said
  asked : HostAndPort → Bool → Said
  opened : HostAndPort → Result ℕ Code → Said
  lacked : Bool → Said
  waited : ℕ → Bool → Said

-- the number of a link that was opened, or the code of why it couldn't
abbrev pub numbered : {L : Type 0} → (L → ℕ) → Result L Code → Result ℕ Code
numbered token_of (Ok link) = Ok (token_of link)
numbered token_of (Err code) = Err code

-- the worker is to take no more work
abbrev pub is_stop : Turn → Bool
is_stop turn.Stop = true
is_stop turn.Continue = false
