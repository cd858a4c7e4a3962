use Rattle.std.proofs.Common.{◌≡◌, ◌++◌, take}
use Rattle.mx_flow.proofs.flow.note_all.Given as goal

abbrev pub invariant-loop-byte : goal.invariant-loop-byte
invariant-loop-byte l = l.came ≡ l.initial.came ++ take l.byte-index l.bytes
