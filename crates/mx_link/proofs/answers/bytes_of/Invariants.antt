use Rattle.std.proofs.Common.{◌≡◌, take}
use Rattle.mx_link.proofs.answers.bytes_of.Given as goal

abbrev pub invariant-loop-byte : goal.invariant-loop-byte
invariant-loop-byte l = l.all ≡ take l.byte-index l.bytes
