use Rattle.std.proofs.Common.{rules}
use Rattle.mx_multi_tests_base.proofs.party.Chance.below.Goals as goal

pub returns : goal.returns
returns c = search rules
