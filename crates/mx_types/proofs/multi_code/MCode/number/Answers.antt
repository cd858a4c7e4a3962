use Rattle.std.proofs.Common.{rules}
use Rattle.mx_types.proofs.multi_code.MCode.number.Goals as goal

pub returns-in-WakeupFailure : goal.returns-in-WakeupFailure
returns-in-WakeupFailure c = search rules
