use Rattle.mx_run_save.proofs.Leaves.{leaves_truly}
use Rattle.mx_run_save.proofs.run.Saved.each_is_there.Goals as goal

pub returns : goal.returns
returns g c = λ save asking given old tells. leaves_truly save asking given old (g.F.Folder.steps c.args.self.now.folder) c.args.self.now.lines tells
