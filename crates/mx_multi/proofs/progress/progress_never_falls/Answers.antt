use Rattle.mx_multi.proofs.Progresses.{never_falls}
use Rattle.mx_multi.proofs.progress.progress_never_falls.Goals as goal

pub returns : goal.returns
returns c = never_falls
