use Rattle.std.proofs.Common.{◌≡◌, ◌≤◌, ◌-◌, ◌++◌, false, take, length}
use Rattle.mx_save.proofs.write.append_until.Given as goal

-- a prefix of the bytes was added to what the part had
abbrev pub invariant-loop-written : goal.invariant-loop-written
invariant-loop-written g l =
    let value = g.P.PartFile.value in
    record {
      within : l.written ≤ length l.bytes;
      so_far : (value l.part).bytes ≡ (value l.fn.part).bytes ++ take l.written l.bytes;
      unflushed : (value l.part).flushed ≡ false;
      named : (value l.part).name ≡ (value l.fn.part).name;
      refused : (value l.part).refused ≡ (value l.fn.part).refused;
    }

abbrev pub decreases-loop-written : goal.decreases-loop-written
decreases-loop-written g l = length l.bytes - l.written
