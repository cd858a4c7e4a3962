use Rattle.std.proofs.Common.{◌≡◌, ℕ, suc, ◌+◌, List, ◌++◌, take, ap, sym, ◌∙◌, arith}
use Rattle.mx_body.specs.Parts.{joined}
use Rattle.mx_exchange.proofs.Bodies.{joined_one}
use Rattle.mx_exchange.proofs.HopLemmas.{all_joined}
use Rattle.mx_exchange.proofs.hops.Hop.copy_body.Goals as goal

pub loop-i-preserved : goal.loop-i-preserved
loop-i-preserved c =
    let hop = c.args.self.now in
    let at = c.bytes_of.ensures in
    let next : c.loop-i.i + 1 ≡ suc c.loop-i.i = omega arith in
    let before = joined hop.kept (take c.loop-i.i hop.parts) in
    rw next (c.in_ok-extend_from_slice.ensures.items
    ∙ ap (λ (l : List ℕ). l ++ c.bytes_of.result.now) c.loop-i.invariant
    ∙ ap (λ (l : List ℕ). before ++ l) at.2
    ∙ sym (joined_one hop.kept hop.parts c.loop-i.i at.0 at.1))

pub returns : goal.returns
returns c = c.loop-i.invariant ∙ all_joined _ _ c.know.ensures (omega (arith, c.loop-i.auto.i-end, c.loop-i-test.false, c.part_count-i-end.ensures.count))
