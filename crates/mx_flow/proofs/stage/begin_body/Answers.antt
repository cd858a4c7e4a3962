use Rattle.std.proofs.Common.{◌≡◌, ◌-◌, ℕ, List, length, take, drop, sym, ap, subst, ◌∙◌}
use Rattle.std.proofs.lemmas.List.{take_rest}
use Rattle.mx_body.specs.Steps.{IsFinalStepOn}
use Rattle.mx_body.specs.declared.heads.FinalStep.TheVariants as final
use Rattle.mx_flow.specs.Flows.{FlowValue, IsFed}
use Rattle.mx_flow.proofs.StageProofs.{begun_taken}
use Rattle.mx_flow.proofs.stage.begin_body.Goals as goal

pub returns-in-Ok-clause-taken : goal.returns-in-Ok-clause-taken
returns-in-Ok-clause-taken c =
    let heads = c.as_slice.result.now in
    let rest : take (length heads - c.args.end) (drop c.args.end heads) ≡ drop c.args.end c.args.heads = take_rest heads c.args.end ∙ ap (drop c.args.end) c.as_slice.ensures in
    begun_taken c.args.method c.args.limit c.args.heads c.args.len c.args.end c.in-Ok.n c.keep_heads.result c.new-flow.result c.feed_open.new.flow c.args.out.now.items
    c.feed_open.new.out.items c.keep_heads.ensures.bytes c.requires.behind c.requires.head.within (ap (λ (f : FlowValue). f.came) c.new-flow.ensures.begins)
    (subst (λ (t : List ℕ). IsFed c.new-flow.result c.feed_open.new.flow c.in-Ok.n t c.args.out.now.items c.feed_open.new.out.items) rest c.in-Ok.ensures.fed)

pub returns-in-Err-clause-stage : goal.returns-in-Err-clause-stage
returns-in-Err-clause-stage c = subst (λ (t : List ℕ). IsFinalStepOn t final.More) (sym c.truncate.ensures) c.requires.open
