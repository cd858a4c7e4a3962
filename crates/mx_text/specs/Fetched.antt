-- What a handle ended with.
use Rattle.std.specs.Prelude.{ℕ, List, [], if◌then◌else◌}
use Rattle.mx_types.specs.declared.code.Code.{Code}
use Rattle.mx_types.specs.declared.code.Code.TheVariants as code
use Rattle.mx_body.specs.Parts.{joined}
use Rattle.mx_chain.specs.Hops.{is_ok}
use Rattle.mx_chain.specs.Outcomes.{OutcomeValue}
use Rattle.mx_text.specs.declared.fetched.Fetched.{Fetched}
use Rattle.mx_text.specs.declared.fetched.Fetched.TheVariants.{Refused, Ended, Failed}

-- rule get-failures: Of a transfer that failed `get` keeps the code, the status, how many bytes of a response came and why the decoder
-- refused them, but not the bytes.
--
-- How an outcome is kept: whole where its code is 0, else as a failure.
abbrev pub fetched_of : OutcomeValue → Fetched
fetched_of outcome = if is_ok outcome.code then Ended outcome else Failed outcome

abbrev pub code_of : Fetched → Code
code_of (Refused code) = code
code_of (Ended outcome) = outcome.code
code_of (Failed outcome) = outcome.code

-- the status of the final head, 0 where there is none
abbrev pub status_of : Fetched → ℕ
status_of (Refused code) = 0
status_of (Ended outcome) = outcome.status
status_of (Failed outcome) = outcome.status

-- the body of a whole response; of no other the bytes that came are printed
abbrev pub content_of : Code → OutcomeValue → List ℕ
content_of code.Ok outcome = joined outcome.wire outcome.parts
content_of _ outcome = []

abbrev pub body_of : Fetched → List ℕ
body_of (Refused code) = []
body_of (Ended outcome) = content_of outcome.code outcome
body_of (Failed outcome) = content_of outcome.code outcome
