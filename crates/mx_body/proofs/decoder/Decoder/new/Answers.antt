use Rattle.mx_body.proofs.EmptyLemmas.{more_first}
use Rattle.mx_body.proofs.decoder.Decoder.new.Goals as goal

pub invariant_of-result : goal.invariant_of-result
invariant_of-result c = rw c.new.ensures.items (more_first c.args.method, c.new-2.ensures.head, λ e. c.new-2.ensures.progress c.args.method)

pub returns-clause-exact : goal.returns-clause-exact
returns-clause-exact c = rw c.new.ensures.items (more_first c.args.method)
