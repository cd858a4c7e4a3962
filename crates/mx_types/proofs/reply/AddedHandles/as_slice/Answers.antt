use Rattle.std.proofs.Common.{rules}
use Rattle.mx_types.proofs.reply.AddedHandles.as_slice.Goals as goal

pub returns : goal.returns
returns c = search rules
