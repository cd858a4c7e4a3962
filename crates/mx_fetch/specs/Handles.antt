-- A run at its multi handles.
use Rattle.std.specs.Prelude.{◌≡◌, List, Option, None, Some, IfOk, IfSome, Result}
use Rattle.mx_request.specs.Request.{RequestValue}
use Rattle.mx_desk.specs.Desks.{DeskValue}
use Rattle.mx_multi.specs.Seats.{MultiView}
use Rattle.mx_multi.specs.declared.open.Limits.{Limits}
use Rattle.mx_run_io.specs.declared.stop.Stop.{Stop}
use Rattle.mx_fetch.specs.declared.turned.Turned.{Turned}

-- the multi handle is opened with these limits: with room for their events, and with their number of idle connections for each worker
pub record IsOpenedAs {Q O : Type 0} (l : Limits) (m : MultiView Q O) : Type 0 where
  pub opening : m.engine.opening ≡ record { history = l.history; first = 0; from = 0 }
  pub limits : m.limits ≡ l

-- How a run came back from a second multi handle: where it was there it has turned so, and where it stopped nothing is said; where it didn't
-- stop, and where it couldn't be there, what is added at the desk is what it has asked for, if the desk is left.
abbrev pub IsBack : {Q : Type 0} → (List (Option RequestValue) → Type 0) → (Turned → Type 0) → Option (DeskValue Q) → Option (Result Turned Stop) → Type 0
IsBack is_asked has_turned desk None = IfSome desk (λ d. is_asked d.asked)
IsBack is_asked has_turned desk (Some turned) = IfOk turned (λ how. has_turned how × IfSome desk (λ d. is_asked d.asked))
