use Rattle.std.proofs.Common.{take}
use Rattle.mx_multi.specs.Retiring.{AllFind, AllToldOf}
use Rattle.mx_multi.proofs.retire.all_find.Given as goal

abbrev pub invariant-loop-seat : goal.invariant-loop-seat
invariant-loop-seat g l = AllFind l.found.core.journal (take l.seat-index l.seats) × AllToldOf l.found.ties.entries (take l.seat-index l.seats)
