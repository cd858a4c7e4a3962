use Rattle.std.proofs.Common.{take}
use Rattle.mx_chain.proofs.HopLemmas.{heads_kept}
use Rattle.mx_chain.proofs.followed.heads_of.Goals as goal

pub returns : goal.returns
returns c = heads_kept c.args.hop.now.limit c.args.hop.now.wire c.kept-kept.result.now (take c.heads_len.result c.kept-kept.result.now) c.kept-kept.ensures.keeps c.heads_len.ensures.heads
