use Rattle.mx_head.proofs.LawLemmas.{one_head, heads_are_prefix_free}
use Rattle.mx_head.proofs.laws.one_head.Goals as goal

pub returns-clause-one : goal.returns-clause-one
returns-clause-one c = one_head

pub returns-clause-prefix_free : goal.returns-clause-prefix_free
returns-clause-prefix_free c = heads_are_prefix_free
