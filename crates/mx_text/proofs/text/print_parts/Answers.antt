use Rattle.std.proofs.Common.{◌<◌, length, arith, rules}
use Rattle.mx_text.proofs.Steps.{part_printed}
use Rattle.mx_text.proofs.text.print_parts.Goals as goal

pub loop-i-init : goal.loop-i-init
loop-i-init g c = search rules

pub loop-i-preserved : goal.loop-i-preserved
loop-i-preserved g c =
    let less : c.loop-i.i < length c.args.outcome.now.parts = omega (arith, c.loop-i-test.true, c.part_count-i-end.ensures) in
    let some = c.in-Some.ensures.some less in
    record {
      written = part_printed _ _ _ c.args.outcome.now.wire c.args.outcome.now.parts c.loop-i.i some.0 _ some.1 some.2
          c.loop-i.invariant.written c.in_ok-write_all.ensures.bytes;
      kept = search rules;
    }
