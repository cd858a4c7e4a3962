use Rattle.std.proofs.Common.{◌≡◌, inl}
use Rattle.std.specs.Prelude.{◌⊎◌}
use Rattle.std.proofs.lemmas.Result.{IfErr-weaker}
use Rattle.mx_run_io.specs.declared.stop.Stop.TheVariants as stop
use Rattle.mx_desk.proofs.desk.Desk.close.Goals as goal

pub returns-clause-why : goal.returns-clause-why
returns-clause-why g c = IfErr-weaker c.remove.result (λ e. e ≡ stop.OutOfMemory) (λ e. (e ≡ stop.OutOfMemory) ⊎ (e ≡ stop.NoMessage)) (λ e is. inl is) c.remove.ensures.why
