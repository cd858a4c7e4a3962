use Rattle.mx_save.proofs.Runs.{begun}
use Rattle.mx_save.proofs.ledger.Ledger.new.Goals as goal

pub invariant_of-result : goal.invariant_of-result
invariant_of-result g c = simp (c.of-start.ensures, c.new.ensures, c.new-2.ensures, c.new-3.ensures) (begun g.B.Body.content c.args.flush (g.F.Folder.steps c.args.folder) c.args.process 0)
