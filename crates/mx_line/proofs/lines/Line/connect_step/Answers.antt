use Rattle.mx_line.proofs.Steps.{Turn-connected, Turn-connecting, Turn-unconnected}
use Rattle.mx_line.proofs.lines.Line.connect_step.Goals as goal

pub returns-in-Done-clause-turn : goal.returns-in-Done-clause-turn
returns-in-Done-clause-turn g c = Turn-connected _ _ _ c.requires.going c.requires.unmade c.in-Done.ensures.grows c.in-Done.ensures.stands

pub returns-in-WouldBlock-clause-turn : goal.returns-in-WouldBlock-clause-turn
returns-in-WouldBlock-clause-turn g c = Turn-connecting _ _ _ c.requires.going c.requires.unmade c.in-WouldBlock.ensures.grows

pub returns-in-Fault-clause-turn : goal.returns-in-Fault-clause-turn
returns-in-Fault-clause-turn g c = Turn-unconnected _ _ _ c.requires.going c.requires.unmade c.in-Fault.ensures.grows
