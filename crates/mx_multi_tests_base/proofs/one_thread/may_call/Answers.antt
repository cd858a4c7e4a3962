use Rattle.std.proofs.Common.{rules}
use Rattle.mx_multi_tests_base.proofs.one_thread.may_call.Goals as goal

pub returns-in-Seat : goal.returns-in-Seat
returns-in-Seat c = search rules
