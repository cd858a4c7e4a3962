use Rattle.std.proofs.Common.{ap, ◌∙◌}
use Rattle.std.specs.Prelude.{codes}
use Rattle.mx_folder.specs.Paths.{before, from, behind, path_of}
use Rattle.mx_folder.proofs.paths.path_of.Goals as goal

pub returns : goal.returns
unfolding path_of
returns c =
    c.before-2.ensures
    ∙ ap (before (codes "?#")) (c.from-2.ensures
    ∙ ap (from (codes "/?#")) (c.behind-authority.ensures
    ∙ ap (behind (codes ":/")) c.from.ensures))
