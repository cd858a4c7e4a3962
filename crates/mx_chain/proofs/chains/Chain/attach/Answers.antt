use Rattle.std.proofs.Common.{true}
use Rattle.mx_chain.proofs.Passing.{attached_chain}
use Rattle.mx_chain.proofs.chains.Chain.attach.Goals as goal

pub invariant_of-self : goal.invariant_of-self
invariant_of-self g c = record {
  most = c.self.invariant.most;
  chain = rw c.attach.ensures (attached_chain g.L.Link.history g.L.Link.asked g.L.Link.token_of _ c.args.link c.args.is_reused true _ c.know.ensures (rw (← c.self.view_is) at c.requires.wanted) c.self.invariant.chain);
}
