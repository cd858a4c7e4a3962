use Rattle.std.proofs.Common.{◌≡◌, ◌++◌, take}
use Rattle.mx_folder.proofs.past.note_all.Given as goal

-- the bytes before this one were added
abbrev pub invariant-loop-byte : goal.invariant-loop-byte
invariant-loop-byte l = l.all ≡ l.initial.all ++ take l.byte-index l.bytes
