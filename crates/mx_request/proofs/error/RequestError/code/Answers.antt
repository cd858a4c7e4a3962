use Rattle.std.proofs.Common.{rules}
use Rattle.mx_request.proofs.error.RequestError.code.Goals as goal

pub returns-in-BodyTooLarge : goal.returns-in-BodyTooLarge
returns-in-BodyTooLarge c = search rules
