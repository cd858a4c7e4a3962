use Rattle.std.proofs.Common.{◌≡◌, ℕ, sym, ap, subst, ◌∙◌, Ok, IfOk}
use Rattle.std.proofs.lemmas.Result.{IfOk-weaker, on_err_weaker}
use Rattle.mx_flow.specs.Flows.{FlowValue, IsFed}
use Rattle.mx_flow.specs.Streams.{IsTaken}
use Rattle.mx_flow.specs.Stages.{at_stage, IsStage}
use Rattle.mx_flow.specs.declared.stage.Stage.{Stage}
use Rattle.mx_flow.specs.declared.stage.Stage.TheVariants as stages
use Rattle.mx_flow.specs.declared.stream_state.StreamState.TheVariants as stand
use Rattle.mx_flow.proofs.StageProofs.{none_taken, body_taken}
use Rattle.mx_flow.proofs.stage.feed_stage.Goals as goal

pub returns-in-BadFraming-clause-taken : goal.returns-in-BadFraming-clause-taken
returns-in-BadFraming-clause-taken c =
    let refused = at_stage c.args.method c.args.limit (stages.BadFraming c.in-BadFraming.kept c.in-BadFraming.code) in
    subst (λ (s : Stage). IsTaken (at_stage c.args.method c.args.limit s) refused 0 c.args.piece.now c.args.out.now.items c.args.out.now.items) (sym c.in-BadFraming.is)
    (none_taken refused c.args.piece.now c.args.out.now.items (λ e. (let both : stand.Fault c.in-BadFraming.code ≡ stand.More = e in absurd (cc))))

pub returns-in-BadHeads-clause-taken : goal.returns-in-BadHeads-clause-taken
returns-in-BadHeads-clause-taken c =
    let refused = at_stage c.args.method c.args.limit (stages.BadHeads c.in-BadHeads.heads c.in-BadHeads.code) in
    subst (λ (s : Stage). IsTaken (at_stage c.args.method c.args.limit s) refused 0 c.args.piece.now c.args.out.now.items c.args.out.now.items) (sym c.in-BadHeads.is)
    (none_taken refused c.args.piece.now c.args.out.now.items (λ e. (let both : stand.Fault c.in-BadHeads.code ≡ stand.More = e in absurd (cc))))

pub returns-in-Body-clause-taken : goal.returns-in-Body-clause-taken
returns-in-Body-clause-taken c =
    let flow = c.feed_open-taken.new.flow in
    let before = c.args.out.now.items in
    let after = c.feed_open-taken.new.out.items in
    let body = at_stage c.args.method c.args.limit (stages.Body c.in-Body.kept flow) in
    subst (λ (s : Stage). IfOk c.feed_open-taken.result (λ (n : ℕ). IsTaken (at_stage c.args.method c.args.limit s) body n c.args.piece.now before after)) (sym c.in-Body.is)
    (IfOk-weaker c.feed_open-taken.result (λ (n : ℕ). IsFed c.in-Body.flow flow n c.args.piece.now before after)
    (λ (n : ℕ). IsTaken (at_stage c.args.method c.args.limit (stages.Body c.in-Body.kept c.in-Body.flow)) body n c.args.piece.now before after)
    (λ n fed. body_taken c.args.method c.args.limit c.in-Body.kept c.in-Body.flow flow n c.args.piece.now before after fed) c.feed_open-taken.ensures.fed)

pub returns-in-Body-clause-stage : goal.returns-in-Body-clause-stage
returns-in-Body-clause-stage c =
    let old = subst (IsStage c.args.method c.args.limit) c.in-Body.is c.requires in
    let same = c.feed_open-taken.ensures.same in (
      old.0,
      old.1 ∙ ap (λ (f : FlowValue). Ok f.framing) (sym same),
      ap (λ (f : FlowValue). f.limit) same ∙ old.2,
      c.feed_open-taken.ensures.known,
    )

pub returns-in-Body-clause-refused : goal.returns-in-Body-clause-refused
returns-in-Body-clause-refused c =
    on_err_weaker c.feed_open-taken.result (λ both. (ap (λ (f : FlowValue). stages.Body c.in-Body.kept f) both.0 ∙ sym c.in-Body.is, both.1)) c.feed_open-taken.ensures.refused
