use Rattle.std.proofs.Common.{◌≡◌, ◌≢◌, ◌+◌, ◌<◌, ◌≤◌, true, ◌-◌}
use Rattle.mx_head.specs.Limits.{most_bytes}
use Rattle.mx_run_local.proofs.Received.{IsReading}
use Rattle.mx_run_local.proofs.reading.receive.Given as goal

-- what was read is a prefix of the input, each read gave some of it, and none failed
abbrev pub invariant-loop-len : goal.invariant-loop-len
invariant-loop-len g l = record {
  reading : IsReading (g.R.Read.remaining l.initial.input.reader) (g.R.Read.remaining l.input.reader) l.decoder l.fn.method l.len;
  few : l.len ≤ most_bytes + 1;
  reads : l.input.reads ≤ l.initial.input.reads + l.len;
  begun : l.initial.input.reads ≤ l.input.reads;
  most : l.input.most ≡ l.initial.input.most;
  alive : 0 < l.len → l.input.failed ≢ true;
  first : l.input.failed ≡ true → l.initial.input.failed ≡ true;
}

abbrev pub decreases-loop-len : goal.decreases-loop-len
decreases-loop-len g l = most_bytes + 1 - l.len
