use Rattle.std.proofs.Common.{sym, ap, subst, ◌∙◌}
use Rattle.mx_reader.specs.Modes.{value_of}
use Rattle.mx_reader.specs.Readers.{IsReader, IsPrefixOfEach}
use Rattle.mx_reader.proofs.HeldLemmas.{held_is}
use Rattle.mx_reader.proofs.reader.Reader.know.Goals as goal

pub returns-in-Held-clause-exact : goal.returns-in-Held-clause-exact
returns-in-Held-clause-exact c = subst IsReader (sym (ap value_of c.in-Held.is) ∙ c.self.view_is) (held_is c.in-Held.decoder c.stand-stand.ensures.exact)

pub returns-in-Flowing-clause-front : goal.returns-in-Flowing-clause-front
returns-in-Flowing-clause-front c = subst IsPrefixOfEach (sym (ap value_of c.in-Flowing.is) ∙ c.self.view_is) c.know.ensures.front
