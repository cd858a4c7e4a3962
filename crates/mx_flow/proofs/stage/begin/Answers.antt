use Rattle.mx_flow.proofs.StageProofs.{refused_taken}
use Rattle.mx_flow.proofs.stage.begin.Goals as goal

pub returns-in-Err-clause-taken : goal.returns-in-Err-clause-taken
returns-in-Err-clause-taken c =
    refused_taken c.args.method c.args.limit c.args.heads c.args.len c.args.end c.keep_heads.result c.in-Err.code c.args.out.now.items c.keep_heads.ensures.bytes
    c.requires.behind c.requires.head.within
