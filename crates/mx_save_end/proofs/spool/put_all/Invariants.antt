use Rattle.std.proofs.Common.{◌≡◌, ◌≤◌, ◌-◌, ◌++◌, take, length}
use Rattle.mx_save.specs.PartSinks.{got_of}
use Rattle.mx_save_end.proofs.spool.put_all.Given as goal

-- a prefix of the bytes was added to what the sink got
abbrev pub invariant-loop-put : goal.invariant-loop-put
invariant-loop-put g l =
    record {
      within : l.put ≤ length l.bytes;
      so_far : got_of l.sink ≡ got_of l.fn.sink ++ take l.put l.bytes;
    }

abbrev pub decreases-loop-put : goal.decreases-loop-put
decreases-loop-put g l = length l.bytes - l.put
