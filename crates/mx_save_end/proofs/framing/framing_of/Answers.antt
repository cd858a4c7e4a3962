use Rattle.std.proofs.Common.{subst}
use Rattle.mx_save_end.specs.Framings.{TellsFraming}
use Rattle.mx_save_end.proofs.Framings.{told_by_heads}
use Rattle.mx_save_end.proofs.framing.framing_of.Goals as goal

pub returns : goal.returns
returns g c =
    told_by_heads c.args.outcome.now.last.request.method c.args.outcome.now.wire c.heads.result.now c.framing_in.result c.heads.ensures
    (subst (λ m. TellsFraming m c.heads.result.now c.framing_in.result) c.last_method.ensures c.framing_in.ensures)
