use Rattle.std.proofs.Common.{◌≡◌, take, ap, ◌∙◌, refl}
use Rattle.mx_head.specs.declared.types.Framing.TheVariants.{Chunked}
use Rattle.mx_flow.specs.Flows.{FlowValue}
use Rattle.mx_flow.specs.Steps.{place_of}
use Rattle.mx_flow.specs.Runs.{run_data}
use Rattle.mx_flow.specs.declared.flow.BodyState.TheVariants as state
use Rattle.mx_flow.proofs.FedProofs.{chunks_are_fed, chunks_were, chunks_add}
use Rattle.mx_flow.proofs.flow.Flow.feed_chunks.Goals as goal

pub invariant_of-self : goal.invariant_of-self
invariant_of-self c =
    let f = c.self.inside in
    let run = c.in_ok-run.run' in
    let is : f.framing ≡ Chunked = ap (λ (v : FlowValue). v.framing) c.self.view_is ∙ c.requires.framing in
    let going : f.state ≡ state.More = ap (λ (v : FlowValue). v.state) c.self.view_is ∙ c.requires.going in
    let fed = chunks_are_fed f.limit f.framing f.came c.args.piece.now c.count_all-self-inside.new.came c.args.out.now.items c.pass_on.new.out.items f.place f.left run
    c.state_of_run-self-inside.result is c.count_all-self-inside.ensures.came (c.self.invariant.1 going) c.in_ok-run.ensures.run c.state_of_run-self-inside.ensures.over c.state_of_run-self-inside.ensures.at in
    let was = chunks_were f.limit f.framing f.came c.args.piece.now c.count_all-self-inside.new.came c.args.out.now.items c.pass_on.new.out.items f.place f.left run
    c.state_of_run-self-inside.result is c.count_all-self-inside.ensures.came (c.self.invariant.1 going) c.in_ok-run.ensures.run c.state_of_run-self-inside.ensures.over c.state_of_run-self-inside.ensures.at in
    (fed.0, λ more. (fed.1 more).1, was, c.count_all-self-inside.ensures.counted c.self.invariant.3)

pub returns-clause-fed : goal.returns-clause-fed
returns-clause-fed c =
    let f = c.self.inside in
    let run = c.in_ok-run.run' in
    let is : f.framing ≡ Chunked = ap (λ (v : FlowValue). v.framing) c.self.view_is ∙ c.requires.framing in
    let going : f.state ≡ state.More = ap (λ (v : FlowValue). v.state) c.self.view_is ∙ c.requires.going in
    let fed = chunks_are_fed f.limit f.framing f.came c.args.piece.now c.count_all-self-inside.new.came c.args.out.now.items c.pass_on.new.out.items f.place f.left run
    c.state_of_run-self-inside.result is c.count_all-self-inside.ensures.came (c.self.invariant.1 going) c.in_ok-run.ensures.run c.state_of_run-self-inside.ensures.over c.state_of_run-self-inside.ensures.at in
    record {
      within = c.in_ok-run.ensures.run.within;
      came = rw (← c.self.view_is) (rw c.count_all-self-inside.ensures.came refl);
      all = λ more. (fed.1 more).0;
      added = take f.left (run_data f.limit (place_of f.place) c.args.piece.now run.len);
      handed = c.in_ok-run.ensures.run.handed;
      grown = rw (← c.self.view_is) (chunks_add f.limit f.framing f.came c.args.piece.now c.count_all-self-inside.new.came c.args.out.now.items c.pass_on.new.out.items f.place f.left run is
          c.count_all-self-inside.ensures.came (c.self.invariant.1 going) c.in_ok-run.ensures.run);
    }
