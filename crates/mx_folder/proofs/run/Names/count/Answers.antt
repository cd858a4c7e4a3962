use Rattle.std.proofs.Common.{ap, ◌∙◌}
use Rattle.std.specs.Prelude.{unwrap_or}
use Rattle.mx_folder.specs.Names.{count_of}
use Rattle.mx_folder.proofs.run.Names.count.Goals as goal

pub returns : goal.returns
returns c =
    c.unwrap_or.ensures
    ∙ ap (λ o. unwrap_or o 0) (c.copied.ensures ∙ c.get.ensures.value)
    ∙ c.self.invariant c.args.base.now
    ∙ ap (λ given. count_of given c.args.base.now) c.self.view_is
