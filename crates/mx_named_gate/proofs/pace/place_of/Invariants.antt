use Rattle.std.proofs.Common.{◌≡◌, ◌<◌, ◌%◌, drop, fold}
use Rattle.mx_named_gate.specs.Pace.{add_byte}
use Rattle.mx_named_gate.proofs.pace.place_of.Given as goal

abbrev pub invariant-loop-byte : goal.invariant-loop-byte
invariant-loop-byte l = record {
  rest : fold add_byte l.sum (drop l.byte-index l.byte-items) ≡ fold add_byte (l.endpoint.port % 64) l.byte-items;
  within : l.sum < 64;
}
