-- What is known of a body that was written as it came.
use Rattle.std.specs.Prelude.{◌≡◌, ◌≢◌, ◌⊎◌, ℕ, Bool, true, false, List, [], ◌++◌, Option, Some, IsSome, slice_get}
use Rattle.mx_types.specs.declared.code.Code.{Code}
use Rattle.mx_types.specs.declared.code.Code.TheVariants as code
use Rattle.mx_request.specs.Request.{RequestValue}
use Rattle.mx_exchange.specs.Hops.{HasBody}
use Rattle.mx_chain.specs.Outcomes.{OutcomeValue, IsEnd}
use Rattle.mx_fetch.specs.declared.turned.Turned.{Turned}
use Rattle.mx_fetch.specs.declared.turned.Turned.TheVariants as how
use Rattle.mx_run_io.specs.declared.output.Output.{Output}
use Rattle.mx_run_io.specs.Ends.{Wrote, has_failed_write, is_pending}

-- an output, as it is and as it was at first, and the bytes that the sink got
pub record WriterSinkValue (W : Type 0) : Type 0 where
  pub output : Output W
  pub begun : Output W
  pub got : List ℕ

-- unless a write failed, what the sink got was written to its output, and nothing else, as far as it is known what its writer holds
abbrev pub IsTrue : {W : Type 0} → (W → Option (List ℕ)) → WriterSinkValue W → Type 0
IsTrue contents s = has_failed_write s.output ≡ false → Wrote contents s.begun s.output s.got

-- rule get-body: `get --body` writes a prefix of the content of the last response, and all of it where it ends with code 0.
--
-- The transfer of this request ended so. What the sink got is a prefix of what was handed on of the content of the last response. The code is
-- that of the transfer; or, where that is 0 and a write failed or some of the content is left, it says that content couldn't be written. With
-- code 0 that response is whole by RFC 9112, the sink got all of its content, no write failed, and nothing is pending.
pub record IsWritten {W : Type 0} (contents : W → Option (List ℕ)) (request : RequestValue) (outcome : OutcomeValue) (c : Code) (sink : WriterSinkValue W) : Type 0 where
  pub end : IsEnd outcome
  pub request_is : outcome.request ≡ request
  pub rest : List ℕ
  pub prefix : outcome.content ≡ sink.got ++ rest
  pub code_is : (c ≡ outcome.code)
      ⊎ ((c ≡ code.WriteError) × (outcome.code ≡ code.Ok) × ((has_failed_write sink.output ≡ true) ⊎ (rest ≢ [])))
  pub whole : c ≡ code.Ok → HasBody outcome.last × (outcome.last.content ≡ sink.got)
  pub flushed : c ≡ code.Ok → (has_failed_write sink.output ≡ false) × (is_pending sink.output ≡ false)
  pub wrote : IsTrue contents sink

-- a request; whether its end is awaited; and what its transfer ended with, once it has
pub record FetchingValue : Type 0 where
  pub request : RequestValue
  pub awaited : Bool
  pub end : Option OutcomeValue

-- where its end is awaited the request is added under number 0
abbrev pub IsAwaited : FetchingValue → List (Option RequestValue) → Type 0
IsAwaited f asked = f.awaited ≡ true → slice_get asked 0 ≡ Some (Some f.request)

-- its transfer has ended
abbrev pub HasTurned : FetchingValue → Turned → Type 0
HasTurned f how.AllEnded = IsSome f.end
HasTurned f how.HistoryFull = ⊥
HasTurned f how.Held = ⊥
