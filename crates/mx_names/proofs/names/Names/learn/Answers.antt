use Rattle.std.proofs.Common.{rules, refl}
use Rattle.mx_names.proofs.Tables.{has_none}
use Rattle.mx_names.proofs.names.Names.learn.Goals as goal

pub returns-in-None : goal.returns-in-None
returns-in-None g c = (refl, has_none c.args.finding.host c.args.self.now (search rules))
