use Rattle.std.proofs.Common.{◌∙◌, ap, sym}
use Rattle.mx_chain.specs.Outcomes.{limit_by}
use Rattle.mx_transfer_core.proofs.HandedOn.{handed_on}
use Rattle.mx_transfer_core.proofs.cores.TransferCore.poll.Goals as goal

pub end_of-requires : goal.end_of-requires
end_of-requires g c =
    let is = rw c.in-Some.is at (c.self.invariant (rw (← c.self.view_is) at c.requires)) in
    rw c.take.ensures.value (
      c.in-Ended.ensures.limit.1 ∙ is.0 ∙ ap limit_by (sym c.hand_on.ensures.flows),
      handed_on _ _ _ _ _ is.1 c.in-Ended.ensures.handed ∙ sym c.hand_on.ensures.all,
      c.hand_on.ensures.rest,
    )
