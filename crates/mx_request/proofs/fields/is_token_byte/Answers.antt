use Rattle.std.proofs.Common.{rules}
use Rattle.mx_request.proofs.fields.is_token_byte.Goals as goal

pub returns-else-is_ascii_alphanumeric : goal.returns-else-is_ascii_alphanumeric
returns-else-is_ascii_alphanumeric c = search rules
