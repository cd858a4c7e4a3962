-- What an end is of.
use Rattle.std.specs.Prelude.{◌≡◌, ◌≢◌, ℕ, List, map, Result, Ok, Err, All}
use Rattle.mx_types.specs.declared.code.Code.{Code}
use Rattle.mx_types.specs.declared.code.Code.TheVariants as code
use Rattle.mx_request.specs.Request.{RequestValue}
use Rattle.mx_exchange.specs.Hops.{HasContent}
use Rattle.mx_chain.specs.Outcomes.{IsOutcome}
use Rattle.mx_text.specs.Asking.{asked_for}
use Rattle.mx_text.specs.declared.fetched.Fetched.{Fetched}
use Rattle.mx_text.specs.declared.fetched.Fetched.TheVariants.{Refused, Ended, Failed}

-- the request of the transfer that has ended, or the code of a refusal
abbrev pub asked_of : Fetched → Result RequestValue Code
asked_of (Refused code) = Err code
asked_of (Ended outcome) = Ok outcome.request
asked_of (Failed outcome) = Ok outcome.request

-- What a transfer ended with is an outcome, with its truth: its hops are a chain that begins with its request, each ended by the answers of
-- its link, and its code, status and parts are those of the last one. Where it is kept whole, its code is 0, and the first bytes that came
-- in that one are a response to the last request of the chain, whose content is at the parts; else its code isn't 0.
abbrev pub IsEnd : Fetched → Type 0
IsEnd (Refused _) = Unit {0}
IsEnd (Ended outcome) = IsOutcome outcome × (outcome.code ≡ code.Ok) × HasContent outcome.last
IsEnd (Failed outcome) = IsOutcome outcome × (outcome.code ≢ code.Ok)

-- rule get-ends: What `get` prints of a URL is the code of its refusal, or what a transfer of its request ended with, with its truth: one
-- end for each URL, in their order.
pub record AreEndsOf (timeout_ms max_redirects : ℕ) (urls : List (List ℕ)) (ends : List Fetched) : Type 0 where
  pub asked : map asked_of ends ≡ map (asked_for timeout_ms max_redirects) urls
  pub outcomes : All IsEnd ends
