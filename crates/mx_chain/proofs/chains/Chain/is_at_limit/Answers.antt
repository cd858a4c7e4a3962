use Rattle.std.proofs.Common.{rules}
use Rattle.mx_chain.proofs.chains.Chain.is_at_limit.Goals as goal

pub returns-clause-full : goal.returns-clause-full
returns-clause-full g c = search rules

pub returns-clause-room : goal.returns-clause-room
returns-clause-room g c = search rules
