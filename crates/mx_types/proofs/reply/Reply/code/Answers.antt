use Rattle.std.proofs.Common.{rules}
use Rattle.mx_types.proofs.reply.Reply.code.Goals as goal

pub returns-in-NotRunning : goal.returns-in-NotRunning
returns-in-NotRunning c = search rules
