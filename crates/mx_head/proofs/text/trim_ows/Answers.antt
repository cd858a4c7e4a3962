use Rattle.std.proofs.Common.{rules}
use Rattle.httparse.specs.Grammar.{trim_ows}
use Rattle.mx_head.proofs.text.trim_ows.Goals as goal

pub returns : goal.returns
unfolding trim_ows
returns c = search (rules)
