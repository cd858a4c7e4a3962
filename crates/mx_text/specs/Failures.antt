-- Why a transfer failed, as far as the bytes of its last hop show.
use Rattle.std.specs.Prelude.{◌≡◌, ◌≢◌, ◌⊎◌, true, false, Option, Some, None}
use Rattle.mx_types.specs.declared.code.Code.TheVariants as code
use Rattle.mx_reason.specs.declared.reason.Reason.{Reason}
use Rattle.mx_reason.specs.Reasons.{IsReason, BeginsWithAny}
use Rattle.mx_exchange.specs.Hops.{TellsReason}
use Rattle.mx_chain.specs.Outcomes.{OutcomeValue, is_unfollowed_code}

-- rule get-failures
-- The reason is that of the last hop's wire. There is none where that begins with a whole response; nor where the code may say why the hop
-- wasn't followed.
abbrev pub IsWhy : OutcomeValue → Option Reason → Type 0
IsWhy o (Some reason) = IsReason o.last.request.method o.wire reason
IsWhy o None = BeginsWithAny o.last.request.method o.wire ⊎ (is_unfollowed_code o.code ≡ true)

-- rule get-body-failures: Of a response whose content is handed on it is told which of its bytes is refused and why, or where it ends, as of one
-- that is held.
--
-- It is told of a failure alone, and not where content couldn't be written, the body is too large, or a redirect wasn't followed.
pub record HasFlowingWhy (o : OutcomeValue) (reason : Reason) : Type 0 where
  pub tells : TellsReason o.last (Some reason)
  pub failed : o.code ≢ code.Ok
  pub written : o.code ≢ code.WriteError
  pub within_limit : o.code ≢ code.FilesizeExceeded
  pub unfollowed : is_unfollowed_code o.code ≡ false

-- rule get-body-failures
-- There is none where the bytes show none, nor where the code says that content couldn't be written, or may say why a redirect wasn't followed.
abbrev pub IsFlowingWhy : OutcomeValue → Option Reason → Type 0
IsFlowingWhy o (Some reason) = HasFlowingWhy o reason
IsFlowingWhy o None = TellsReason o.last None ⊎ (is_unfollowed_code o.code ≡ true) ⊎ (o.code ≡ code.WriteError)
