use Rattle.std.proofs.Common.{arith, ◌≡◌, true, sym, subst, take}
use Rattle.std.proofs.lemmas.Grind.{common_steps}
use Rattle.std.specs.List.{AllByRecursion}
use Rattle.std.proofs.lemmas.List.Elements.{filter_passes, recursion_from_All}
use Rattle.mx_link.specs.declared.answers.Write.{Write}
use Rattle.mx_link.specs.Script.{is_planned}
use Rattle.mx_link.proofs.scripted.plan_writes.Goals as goal

pub invariant_of-result : goal.invariant_of-result
invariant_of-result c =
    let all = recursion_from_All (λ (w : Write). is_planned w ≡ true) _ (filter_passes is_planned (take c.loop-write.write-index c.args.writes.now)) in
    subst (AllByRecursion (λ (w : Write). is_planned w ≡ true)) (sym c.loop-write.invariant) all

pub loop-write-preserved : goal.loop-write-preserved
loop-write-preserved c = grind (arith, common_steps)
