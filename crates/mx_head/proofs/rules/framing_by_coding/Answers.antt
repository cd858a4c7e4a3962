use Rattle.std.proofs.Common.{rules}
use Rattle.mx_head.proofs.rules.framing_by_coding.Goals as goal

pub returns-then-minor-eq0 : goal.returns-then-minor-eq0
returns-then-minor-eq0 c = search rules

pub returns : goal.returns
returns c = search rules
