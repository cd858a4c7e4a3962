use Rattle.std.proofs.Common.{◌≡◌, ◌<◌, ◌∙◌, sym, rules, true, false, length}
use Rattle.mx_history.proofs.Defined.{legal_more, illegal_at}
use Rattle.mx_history.proofs.definitions.is_legal.Goals as goal

pub returns-then-not-branch : goal.returns-then-not-branch
returns-then-not-branch c =
    let lt : c.loop-at.at < length c.args.events.now = search rules in
    let not_next : c.in_ok-may_follow.field-0 ≡ false = search rules in
    illegal_at c.args.events.now c.loop-at.at _ lt (sym c.in_ok-may_follow.ensures ∙ not_next)

pub loop-at-preserved : goal.loop-at-preserved
loop-at-preserved c =
    let lt : c.loop-at.at < length c.args.events.now = search rules in
    let next : c.in_ok-may_follow.field-0 ≡ true = search rules in
    legal_more c.args.events.now c.loop-at.at _ lt c.loop-at.invariant (sym c.in_ok-may_follow.ensures ∙ next)
