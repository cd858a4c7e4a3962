use Rattle.std.proofs.Common.{◌≡◌, ℕ, List, length, drop, sym, subst, IfOk, OnErr}
use Rattle.mx_body.specs.Steps.{IsFinalStepOn}
use Rattle.mx_body.specs.declared.heads.FinalStep.TheVariants as final
use Rattle.mx_flow.specs.Streams.{IsTaken}
use Rattle.mx_flow.specs.Stages.{headless, at_stage}
use Rattle.mx_flow.specs.declared.stream_state.StreamState.TheVariants as stand
use Rattle.mx_flow.specs.declared.stage.Stage.TheVariants as stages
use Rattle.mx_flow.proofs.StageProofs.{before_read}
use Rattle.mx_flow.proofs.stage.feed_heads.Goals as goal

pub go_on-requires-clause-open : goal.go_on-requires-clause-open
go_on-requires-clause-open c =
    let there = before_read c.args.heads c.args.piece.now c.read.new.self c.as_slice-len.result.now c.in-Ok.ensures.bytes c.as_slice-len.ensures in
    subst (λ (t : List ℕ). IsFinalStepOn t final.More) (sym there.0) c.requires.open

pub returns-in-Ok-clause-refused : goal.returns-in-Ok-clause-refused
returns-in-Ok-clause-refused c =
    let there = before_read c.args.heads c.args.piece.now c.read.new.self c.as_slice-len.result.now c.in-Ok.ensures.bytes c.as_slice-len.ensures in
    subst (λ (t : List ℕ). OnErr c.go_on.result.1 ((c.go_on.result.0 ≡ stages.Heads t) × (c.go_on.new.out.items ≡ c.args.out.now.items))) there.0 c.go_on.ensures.refused

pub returns-in-Ok-clause-taken : goal.returns-in-Ok-clause-taken
returns-in-Ok-clause-taken c =
    let there = before_read c.args.heads c.args.piece.now c.read.new.self c.as_slice-len.result.now c.in-Ok.ensures.bytes c.as_slice-len.ensures in
    subst (λ (t : List ℕ). IfOk c.go_on.result.1 (λ (n : ℕ). IsTaken (headless c.args.method c.args.limit c.args.heads stand.More) (at_stage c.args.method c.args.limit c.go_on.result.0) n
    t c.args.out.now.items c.go_on.new.out.items)) there.1
    (subst (λ (t : List ℕ). IfOk c.go_on.result.1 (λ (n : ℕ). IsTaken (headless c.args.method c.args.limit t stand.More) (at_stage c.args.method c.args.limit c.go_on.result.0) n
    (drop (length c.as_slice-len.result.now) c.read.new.self) c.args.out.now.items c.go_on.new.out.items)) there.0 c.go_on.ensures.taken)
