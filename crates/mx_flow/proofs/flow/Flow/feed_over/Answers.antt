use Rattle.std.proofs.Common.{◌≡◌, ◌<◌, take, length, ap, ◌∙◌, refl, arith}
use Rattle.mx_head.specs.declared.types.Framing.TheVariants.{Close}
use Rattle.mx_flow.specs.Flows.{FlowValue}
use Rattle.mx_flow.specs.declared.flow.BodyState.TheVariants as state
use Rattle.mx_flow.proofs.FedProofs.{close_left, close_ends}
use Rattle.mx_flow.proofs.flow.Flow.feed_over.Goals as goal

pub invariant_of-self : goal.invariant_of-self
invariant_of-self c =
    let f = c.self.inside in
    let is : f.framing ≡ Close = ap (λ (v : FlowValue). v.framing) c.self.view_is ∙ c.requires.framing in
    let going : f.state ≡ state.More = ap (λ (v : FlowValue). v.state) c.self.view_is ∙ c.requires.going in
    let room = close_left f.limit f.framing f.came f.place f.left is (c.self.invariant.1 going) in
    let over : f.left < length c.args.piece.now =
    omega (arith, room, ap (λ (v : FlowValue). v.limit) c.self.view_is, ap (λ (v : FlowValue). length v.came) c.self.view_is, c.requires.over) in
    let ends = close_ends f.limit f.framing f.came c.args.piece.now c.count_all-self-inside.new.came f.left is c.count_all-self-inside.ensures.came room over in (
      ends.0,
      λ more. (let both : state.TooLarge ≡ state.More = more in cc),
      λ bad. absurd (let both : state.TooLarge ≡ state.Bad = bad in cc),
      c.count_all-self-inside.ensures.counted c.self.invariant.3,
    )

pub returns-clause-fed : goal.returns-clause-fed
returns-clause-fed c =
    let f = c.self.inside in
    let is : f.framing ≡ Close = ap (λ (v : FlowValue). v.framing) c.self.view_is ∙ c.requires.framing in
    let going : f.state ≡ state.More = ap (λ (v : FlowValue). v.state) c.self.view_is ∙ c.requires.going in
    let room = close_left f.limit f.framing f.came f.place f.left is (c.self.invariant.1 going) in
    let over : f.left < length c.args.piece.now =
    omega (arith, room, ap (λ (v : FlowValue). v.limit) c.self.view_is, ap (λ (v : FlowValue). length v.came) c.self.view_is, c.requires.over) in
    let ends = close_ends f.limit f.framing f.came c.args.piece.now c.count_all-self-inside.new.came f.left is c.count_all-self-inside.ensures.came room over in
    record {
      within = omega (arith, over);
      came = rw (← c.self.view_is) (rw c.count_all-self-inside.ensures.came refl);
      all = λ more. (let both : state.TooLarge ≡ state.More = more in cc);
      added = take f.left c.args.piece.now;
      handed = c.in_ok-extend_from_slice.ensures.items;
      grown = rw (← c.self.view_is) ends.1;
    }
