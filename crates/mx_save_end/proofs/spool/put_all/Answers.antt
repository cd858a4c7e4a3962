use Rattle.std.proofs.Common.{length, ap, arith}
use Rattle.std.proofs.lemmas.List.{length-drop, take_rest}
use Rattle.mx_save.specs.PartSinks.{got_of}
use Rattle.mx_save_end.proofs.Spools.{got_on}
use Rattle.mx_save_end.proofs.spool.put_all.Goals as goal

pub loop-put-preserved : goal.loop-put-preserved
loop-put-preserved g c =
    let inv = c.loop-put.invariant in
    let bytes = c.args.bytes.now in
    let w = c.loop-put.put in
    let n = c.in-Ok.n in
    let at = take_rest bytes w in
    record {
      within = omega (arith, c.in-Ok.ensures.within, ap length at, length-drop w bytes);
      so_far = got_on (got_of c.args.sink.now) bytes w n _ (got_of c.loop-put.sink) (got_of c.put.new.self) inv.so_far c.in-Ok.ensures.got at;
    }
