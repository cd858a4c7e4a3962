use Rattle.std.proofs.Common.{take}
use Rattle.mx_body.proofs.ProgressLemmas.{passed_none}
use Rattle.mx_body.proofs.heads.Heads.truncate.Goals as goal

pub invariant_of-self : goal.invariant_of-self
invariant_of-self c = passed_none _ c.new-self-inside.result c.new-self-inside.ensures
