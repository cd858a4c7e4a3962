use Rattle.std.proofs.Common.{rules}
use Rattle.mx_types.proofs.method.MethodFromStr.from_str.Goals as goal

pub returns-in-GET : goal.returns-in-GET
returns-in-GET c = search rules
