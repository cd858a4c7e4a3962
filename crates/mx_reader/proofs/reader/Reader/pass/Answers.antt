use Rattle.std.proofs.Common.{sym, subst}
use Rattle.mx_reader.specs.contracts.reader.Reader.{the_view}
use Rattle.mx_reader.specs.Readers.{IsReader}
use Rattle.mx_reader.proofs.HeldLemmas.{held_is}
use Rattle.mx_reader.proofs.reader.Reader.pass.Goals.{in-Held, in-Flowing}
use Rattle.mx_reader.proofs.reader.Reader.pass.Goals as goal

pub returns-clause-exact : goal.returns-clause-exact
returns-clause-exact c = elim c.match-self.branch [
  | in-Held w ↦ subst (λ r. IsReader (the_view r)) (sym w.self-inside-is) (held_is _ w.stand-stand.ensures.exact)
  | in-Flowing w ↦ subst (λ r. IsReader (the_view r)) (sym w.self-inside-is) w.pass.ensures.exact
]
