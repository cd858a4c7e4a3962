use Rattle.std.proofs.Common.{◌≡◌, ◌≤◌, ◌+◌, ◌*◌, true}
use Rattle.mx_run_local.proofs.ScriptReading.{HasPlayed}
use Rattle.mx_run_local.proofs.session.Session.play_all.Given as goal

abbrev pub invariant-loop : goal.invariant-loop
invariant-loop g l = record {
  played : HasPlayed l.initial.self l.self (g.R.Read.remaining l.initial.input.reader) (g.R.Read.remaining l.input.reader)
      (g.W.Write.contents l.initial.output.writer) (g.W.Write.contents l.output.writer);
  counted : l.self.lines ≤ l.counter * 4096;
  reads : l.input.reads ≡ l.initial.input.reads + l.counter;
  most : l.input.most ≡ l.initial.input.most;
  first : l.input.failed ≡ true → l.initial.input.failed ≡ true;
}
