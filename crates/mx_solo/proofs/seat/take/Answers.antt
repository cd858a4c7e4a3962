use Rattle.std.proofs.Common.{ap, sym, subst, ◌∙◌}
use Rattle.mx_chain.specs.Chains.{ChainState, IsChain}
use Rattle.mx_turn.specs.Engines.{HeldView}
use Rattle.mx_solo.proofs.Steps.{as_held, claims_there}
use Rattle.mx_solo.proofs.seat.take.Goals as goal

pub returns-in-Some-claim-clause-does : goal.returns-in-Some-claim-clause-does
returns-in-Some-claim-clause-does g c =
    let e = c.in-Some-claim.ensures in
    claims_there _ c.in-Some-claim.claim c.in-Some-claim.queued _ c.in-Some.core c.claim.new.self c.in-Some.is
    (ap (λ (h : HeldView _). h.held) c.new-in-Some-claim.ensures ∙ ap (λ k. as_held k c.into_transfer-transfer.result.value) c.new.ensures ∙ ap (λ (t : ChainState _). as_held c.in-Some-claim.claim t) c.into_transfer-transfer.ensures.same)
    (subst IsChain (c.deref.ensures ∙ c.into_transfer-transfer.ensures.same) c.know.ensures.chain) (sym (ap (λ (t : ChainState _). t.code) c.into_transfer-transfer.ensures.same) ∙ c.into_transfer-transfer.ensures.running) e.some e.slot e.own e.origin e.opening e.journal e.origins e.endings e.out
