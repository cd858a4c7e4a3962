use Rattle.std.proofs.Common.{rules}
use Rattle.mx_run_local.proofs.player.Player.poll.Goals as goal

pub returns-then-not-poll_ready : goal.returns-then-not-poll_ready
returns-then-not-poll_ready c = search rules
