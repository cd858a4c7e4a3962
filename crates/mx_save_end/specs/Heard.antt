-- What is reported of a transfer that has ended, and what is known of it once its delivery is taken.
use Rattle.std.specs.Prelude.{◌≡◌, ◌≢◌, ◌⊎◌, ℕ, ◌-◌, ◌^◌, min, length, Bool, true, Option, None, IfSome}
use Rattle.mx_types.specs.declared.code.Code.TheVariants as codes
use Rattle.mx_chain.specs.Outcomes.{OutcomeValue, IsEnd as IsTransferEnd, hops_of}
use Rattle.mx_text.specs.declared.report.FailureReport.{FailureReport}
use Rattle.mx_text.specs.Failures.{IsFlowingWhy}
use Rattle.mx_save_rules.specs.declared.decision.Decision.{Decision}
use Rattle.mx_save_rules.specs.declared.end.Transferred.{Transferred}
use Rattle.mx_sink.specs.Sinks.{is_sink_code}
use Rattle.mx_save_end.specs.Bodies.{body_of}
use Rattle.mx_save_end.specs.Framings.{TellsFraming}

-- the length of its body, which saturates at 2 ^ 64 - 1
abbrev pub body_length : OutcomeValue → ℕ
body_length outcome = min (length (body_of outcome)) (2 ^ 64 - 1)

-- What is reported of a transfer of which this is the outcome, as it is handed to an end: the status of its last response, how many requests
-- it made, how the end of the body was found, which try it was, and the length of the body where the response is whole
pub record IsTransferred (outcome : OutcomeValue) (number : ℕ) (t : Transferred) : Type 0 where
  pub status : t.status ≡ outcome.status
  pub size : outcome.code ≡ codes.Ok → t.length ≡ body_length outcome
  pub hops : t.hops ≡ min (length (hops_of outcome)) (2 ^ 32 - 1)
  pub framing : TellsFraming outcome.last.request.method outcome.wire t.framing
  pub tries : t.tries ≡ number

-- what is done with its response, what is reported of it, why it failed, whether its code is 0 or may be that of its delivery's failure, its body
-- where it is whole, and what it ended with
pub record HeardValue : Type 0 where
  pub decision : Decision
  pub told : Transferred
  pub report : FailureReport
  pub is_sound : Bool
  pub body : Option OutcomeValue
  pub outcome : OutcomeValue

-- all that is of its outcome
pub record IsHeard (h : HeardValue) : Type 0 where
  pub end : IsTransferEnd h.outcome
  pub told : IsTransferred h.outcome h.told.tries h.told
  pub code : h.report.code ≡ h.outcome.code
  pub reason : IsFlowingWhy h.outcome h.report.reason
  pub sound : h.is_sound ≡ true → (h.outcome.code ≡ codes.Ok) ⊎ (is_sink_code h.outcome.code ≡ true)
  pub whole : h.outcome.code ≡ codes.Ok → h.is_sound ≡ true
  pub body : IfSome h.body (λ body. body ≡ h.outcome)
  pub bodiless : h.body ≡ None → h.outcome.code ≢ codes.Ok
  pub handed : h.outcome.code ≡ codes.Ok → body_of h.outcome ≡ h.outcome.content
