use Rattle.std.proofs.Common.{◌≡◌, ◌++◌, take}
use Rattle.mx_run_get_body.proofs.writer_sink.note_all.Given as goal

abbrev pub invariant-loop-byte : goal.invariant-loop-byte
invariant-loop-byte l = l.got ≡ l.initial.got ++ take l.byte-index l.bytes
