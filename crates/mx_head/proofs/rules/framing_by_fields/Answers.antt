use Rattle.std.proofs.Common.{sym, ◌∙◌}
use Rattle.mx_head.proofs.SummaryLemmas.{by_kept_coded, by_kept_uncoded}
use Rattle.mx_head.proofs.rules.framing_by_fields.Goals as goal

pub returns-then-is_there : goal.returns-then-is_there
returns-then-is_there c =
    c.framing_by_coding.ensures ∙ by_kept_coded c.args.minor c.args.coding c.args.length (sym c.is_there.ensures ∙ c.if-is_there.true)

pub returns : goal.returns
returns c =
    c.framing_by_length.ensures ∙ by_kept_uncoded c.args.minor c.args.coding c.args.length (sym c.is_there.ensures ∙ c.if-is_there.false)
