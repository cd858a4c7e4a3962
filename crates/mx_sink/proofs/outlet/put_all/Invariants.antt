use Rattle.std.proofs.Common.{◌≡◌, ◌≤◌, ◌-◌, ◌++◌, take, length}
use Rattle.mx_sink.proofs.outlet.put_all.Given as goal

-- a prefix of the bytes was added to what the sink got
abbrev pub invariant-loop-taken : goal.invariant-loop-taken
invariant-loop-taken g l =
    record {
      within : l.taken ≤ length l.bytes;
      so_far : g.S.Sink.got l.sink ≡ g.S.Sink.got l.fn.sink ++ take l.taken l.bytes;
      target : g.S.Sink.target l.sink ≡ g.S.Sink.target l.fn.sink;
    }

abbrev pub decreases-loop-taken : goal.decreases-loop-taken
decreases-loop-taken g l = length l.bytes - l.taken
