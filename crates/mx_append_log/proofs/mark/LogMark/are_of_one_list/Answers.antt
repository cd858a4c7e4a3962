use Rattle.mx_append_log.proofs.Prefixes.{of_one_list}
use Rattle.mx_append_log.proofs.mark.LogMark.are_of_one_list.Goals as goal

pub returns : goal.returns
returns g c = of_one_list _ _ _ c.learn.ensures.all (rw (c.again-joined.ensures) at c.learn.ensures.grown)
