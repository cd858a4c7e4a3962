use Rattle.std.proofs.Common.{rules}
use Rattle.mx_types.proofs.settings.Settings.new.Goals as goal

pub returns : goal.returns
returns c = search rules
