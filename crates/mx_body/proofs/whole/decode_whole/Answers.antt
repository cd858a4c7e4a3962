use Rattle.std.proofs.Common.{List, ℕ, subst, inl, rules}
use Rattle.mx_body.specs.Steps.{IsFinalStepOn}
use Rattle.mx_body.proofs.FirstBytesLemmas.{first_is, head_from, no_final}
use Rattle.mx_body.proofs.MeetsLemmas.{headless_no_response}
use Rattle.mx_body.proofs.whole.decode_whole.Goals as goal

pub decode_body-requires : goal.decode_body-requires
decode_body-requires c =
    let s = subst (λ (t : List ℕ). IsFinalStepOn t c.final_head.result) (first_is c.args.input.now c.min.result c.min.ensures) c.final_head.ensures in
    head_from c.args.input.now c.in-Head.head c.in-Head.end (subst (IsFinalStepOn _) c.in-Head.is s)

pub decode_no_head-requires : goal.decode_no_head-requires
decode_no_head-requires c =
    let s = subst (λ (t : List ℕ). IsFinalStepOn t c.final_head.result) (first_is c.args.input.now c.min.result c.min.ensures) c.final_head.ensures in
    subst (IsFinalStepOn _) c.in-More.is s

pub returns-in-Fault-clause-verdict : goal.returns-in-Fault-clause-verdict
returns-in-Fault-clause-verdict c =
    let s = subst (λ (t : List ℕ). IsFinalStepOn t c.final_head.result) (first_is c.args.input.now c.min.result c.min.ensures) c.final_head.ensures in
    let fault = subst (IsFinalStepOn _) c.in-Fault.is s in
    (headless_no_response c.args.method c.args.input.now c.args.ended (no_final c.args.input.now fault.0), inl (fault.1 c.args.method))

pub returns-in-Head-clause-verdict : goal.returns-in-Head-clause-verdict
returns-in-Head-clause-verdict c = search rules

pub returns-in-More-clause-verdict : goal.returns-in-More-clause-verdict
returns-in-More-clause-verdict c = search rules

pub returns-in-More-clause-memory : goal.returns-in-More-clause-memory
returns-in-More-clause-memory c = search rules
