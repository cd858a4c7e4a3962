use Rattle.std.proofs.Common.{rules}
use Rattle.mx_request.proofs.fields.is_printable.Goals as goal

pub returns-then-byte-ge32 : goal.returns-then-byte-ge32
returns-then-byte-ge32 c = search rules

pub returns-else-byte-ge32 : goal.returns-else-byte-ge32
returns-else-byte-ge32 c = search rules
