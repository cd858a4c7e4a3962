use Rattle.std.proofs.Common.{◌∙◌, length, ap, arith}
use Rattle.std.proofs.lemmas.List.{length-drop, take_rest}
use Rattle.mx_sink.proofs.Puts.{got_on}
use Rattle.mx_sink.proofs.outlet.put_all.Goals as goal

pub loop-taken-preserved : goal.loop-taken-preserved
loop-taken-preserved g c =
    let inv = c.loop-taken.invariant in
    let bytes = c.args.bytes.now in
    let w = c.loop-taken.taken in
    let n = c.in-Ok.n in
    let few = c.in-Ok.ensures.within in
    let at = take_rest bytes w in
    let same = c.has_room.ensures.same in
    record {
      within = omega (arith, few, ap length at, length-drop w bytes);
      so_far = got_on (g.S.Sink.got c.args.sink.now) bytes w n _ (g.S.Sink.got c.has_room.new.self) (g.S.Sink.got c.put.new.self) (same.0 ∙ inv.so_far) c.in-Ok.ensures.got at;
      target = c.put.ensures.target ∙ same.1 ∙ inv.target;
    }
