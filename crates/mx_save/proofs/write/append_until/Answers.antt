use Rattle.std.proofs.Common.{◌∙◌}
use Rattle.std.proofs.lemmas.List.{take_rest}
use Rattle.mx_save.proofs.Writes.{bytes_on, within_on, name_on, unflushed_on, refused_on}
use Rattle.mx_save.proofs.write.append_until.Goals as goal

pub loop-written-preserved : goal.loop-written-preserved
loop-written-preserved g c =
    let value = g.P.PartFile.value in
    let inv = c.loop-written.invariant in
    let bytes = c.args.bytes.now in
    let w = c.loop-written.written in
    let told = c.append.ensures.told in
    let before = value c.loop-written.part in
    let after = value c.append.new.self in
    record {
      within = within_on c.append.result bytes w _ c.append.ensures.within c.in-Ok.is (take_rest bytes w) inv.within;
      so_far = bytes_on c.append.result (value c.args.part.now).bytes bytes w _ before after inv.so_far told c.in-Ok.is (take_rest bytes w);
      unflushed = unflushed_on c.append.result _ before after told c.in-Ok.is;
      named = name_on c.append.result _ before after told c.in-Ok.is ∙ inv.named;
      refused = refused_on c.append.result _ before after told c.in-Ok.is ∙ inv.refused;
    }
