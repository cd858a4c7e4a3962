use Rattle.std.proofs.Common.{take, ap, ◌∙◌}
use Rattle.mx_flow.proofs.StageProofs.{heads_are_kept}
use Rattle.mx_flow.proofs.stage.keep_heads.Goals as goal

pub returns-clause-kept : goal.returns-clause-kept
returns-clause-kept c =
    heads_are_kept c.args.heads c.truncate.new.self.items c.args.head c.args.end (c.truncate.ensures.items ∙ ap (take c.args.end) c.into_bytes-bytes.ensures) c.requires
