use Rattle.std.proofs.Common.{inl}
use Rattle.mx_request.proofs.NextLemmas.{joined_bad, joined_by}
use Rattle.mx_request.proofs.request.join_url.Goals as goal

pub returns-in_default : goal.returns-in_default
returns-in_default c = inl (joined_bad c.args.base.now c.args.location.now c.in_default.ensures.cases.0)

pub returns-in-Ok-join : goal.returns-in-Ok-join
returns-in-Ok-join c =
    joined_by c.args.base.now c.args.location.now _ _ _ c.in-Ok.ensures.cases.0 c.in-Ok.ensures.cases.1 c.in-Ok-join.ensures c.check_joined.ensures
