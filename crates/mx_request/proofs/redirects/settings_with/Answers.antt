use Rattle.std.proofs.Common.{rules}
use Rattle.mx_request.proofs.redirects.settings_with.Goals as goal

pub returns : goal.returns
returns c = search rules
