use Rattle.std.proofs.Common.{◌≡◌, ◌∙◌, arith, take}
use Rattle.mx_history.specs.History.{made_by}
use Rattle.mx_journal.proofs.Retirings.{made_apart}
use Rattle.mx_journal.proofs.control.Control.made.Goals as goal

pub returns : goal.returns
returns g c =
    let j = c.self.inside.journal.items in
    let all : c.made.result ≡ made_by c.args.who j = c.made.ensures j c.self.invariant.tabled.table in
    let old : c.get.result ≡ made_by c.args.who (take c.self.inside.from j) = c.get.ensures ∙ c.self.invariant.begun.makers c.args.who c.requires in
    rw (← c.self.view_is) (omega (arith, all, old, made_apart c.args.who c.self.inside.from j))
