use Rattle.mx_command.proofs.Readings.{number_read}
use Rattle.mx_command.proofs.given.long_of.Goals as goal

pub returns : goal.returns
returns c = number_read 64 _ c.get_one.result c.get_one.ensures.none c.get_one.ensures.value
