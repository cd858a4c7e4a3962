use Rattle.std.proofs.Common.{rules, arith}
use Rattle.std.proofs.lemmas.Grind.{common_steps}
use Rattle.mx_run_local.proofs.Gathered.{holds_on, joined_more}
use Rattle.mx_run_local.proofs.body_text.print_parts.Goals as goal

pub loop-part-preserved : goal.loop-part-preserved
loop-part-preserved g c =
    let more = joined_more c.args.input.now c.args.parts.now c.loop-part.part-index (record { start = 0; end = 0 }) (omega arith) in
    record {
      within = search rules;
      holds = rw more (holds_on _ _ _ _ _ _ _ c.loop-part.invariant.holds c.in_ok-held.ensures.bytes);
      kept = search rules;
    }

pub returns-clause-bytes : goal.returns-clause-bytes
returns-clause-bytes g c = grind (arith, common_steps)
