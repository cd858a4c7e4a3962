use Rattle.std.proofs.Common.{◌≤◌, ◌+◌, take}
use Rattle.mx_run_io.specs.Ends.{Wrote}
use Rattle.mx_run_local.specs.declared.session.Turn.TheVariants as turn
use Rattle.mx_run_local.specs.Session.{Plays}
use Rattle.mx_run_local.proofs.session.Session.take_all.Given as goal

abbrev pub invariant-loop-byte : goal.invariant-loop-byte
invariant-loop-byte g l = record {
  plays : Plays l.initial.self (take l.byte-index l.bytes) turn.On l.self (Wrote g.W.Write.contents l.initial.output l.output);
  counted : l.self.lines ≤ l.initial.self.lines + l.byte-index;
}
