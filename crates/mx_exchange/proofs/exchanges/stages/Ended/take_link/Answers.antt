use Rattle.std.proofs.Common.{rules}
use Rattle.mx_exchange.proofs.exchanges.stages.Ended.take_link.Goals as goal

pub returns-in-Some-clause-rest : goal.returns-in-Some-clause-rest
returns-in-Some-clause-rest g c = search rules

pub returns-in-None-clause-rest : goal.returns-in-None-clause-rest
returns-in-None-clause-rest g c = search rules
