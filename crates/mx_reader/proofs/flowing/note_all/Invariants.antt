use Rattle.std.proofs.Common.{◌≡◌, ◌++◌, take}
use Rattle.mx_reader.proofs.flowing.note_all.Given as goal

abbrev pub invariant-loop-byte : goal.invariant-loop-byte
invariant-loop-byte l = l.noted ≡ l.initial.noted ++ take l.byte-index l.bytes
