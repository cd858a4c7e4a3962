use Rattle.std.proofs.Common.{ℕ, List, ◌≡◌, ◌≤◌, true, length, subst, sym, ◌∙◌, inl, arith, rules}
use Rattle.std.proofs.lemmas.List.{take_all}
use Rattle.mx_head.specs.Limits.{most_bytes}
use Rattle.mx_body.specs.Decision.{first_bytes}
use Rattle.mx_body.specs.declared.progress.Phase.{Phase}
use Rattle.mx_body.specs.Progress.{IsPhase}
use Rattle.mx_body.specs.Steps.{IsFinalStepOn}
use Rattle.mx_body.specs.declared.heads.FinalStep.TheVariants.{More}
use Rattle.mx_body.proofs.ProgressLemmas.{chunks_undecided}
use Rattle.mx_body.proofs.FirstBytesLemmas.{first_is, no_final}
use Rattle.mx_body.proofs.MeetsLemmas.{headless_no_response}
use Rattle.mx_body.proofs.progress.finish.Goals as goal

all_first : (wire : List ℕ) → length wire ≤ most_bytes → wire ≡ first_bytes wire
all_first wire small = sym (take_all (length wire) wire (omega arith)) ∙ first_is wire (length wire) (omega (arith, small))

pub decode_no_head-requires : goal.decode_no_head-requires
decode_no_head-requires c =
    subst (λ (t : List ℕ). IsFinalStepOn t More) (all_first c.args.wire.now c.requires.small) (subst (IsFinalStepOn c.args.wire.now) c.in-More.is c.final_head_from.ensures.step)

pub returns-in-Fault-clause-verdict : goal.returns-in-Fault-clause-verdict
returns-in-Fault-clause-verdict c =
    let s = subst (λ (t : List ℕ). IsFinalStepOn t c.final_head_from.result) (all_first c.args.wire.now c.requires.small) c.final_head_from.ensures.step in
    let fault = subst (IsFinalStepOn _) c.in-Fault.is s in
    (headless_no_response c.args.method c.args.wire.now _ (no_final c.args.wire.now fault.0), inl (fault.1 c.args.method))

pub decode_short-requires : goal.decode_short-requires
decode_short-requires c =
    let p = subst (λ (x : Phase). IsPhase c.args.method c.args.wire.now x c.args.progress.now.reader) c.in-Chunks.is c.requires.progress in
    let d = p.0 in (
      chunks_undecided c.args.method c.args.wire.now true _ _ _ c.requires.small d p.1 p.2 p.3 p.5,
      (d.interim, d.head, d.rest, d.stands),
    )

pub returns-in-Chunks-clause-verdict : goal.returns-in-Chunks-clause-verdict
returns-in-Chunks-clause-verdict c = search rules
