use Rattle.std.proofs.Common.{rules}
use Rattle.mx_run_local.proofs.player.Player.call.Goals as goal

pub returns-in-Running : goal.returns-in-Running
returns-in-Running c = search rules
