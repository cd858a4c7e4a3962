use Rattle.std.proofs.Common.{rules}
use Rattle.mx_request.proofs.request.refusal_of.Goals as goal

pub returns-then-is_body_too_large : goal.returns-then-is_body_too_large
returns-then-is_body_too_large c = search rules
