use Rattle.std.proofs.Common.{sym, ◌∙◌, ap, ◌+◌, ℕ, List, length, arith}
use Rattle.mx_exchange.proofs.HopLemmas.{all_joined}
use Rattle.mx_exchange.proofs.hops.Hop.body_len.Goals as goal

pub loop-i-preserved : goal.loop-i-preserved
loop-i-preserved c = ap (λ (n : ℕ). n + c.part_len-len.result) c.loop-i.invariant ∙ sym c.part_len-len.ensures.next

pub returns : goal.returns
returns c = c.loop-i.invariant ∙ ap (λ (l : List ℕ). length l) (all_joined _ _ c.know.ensures (omega (arith, c.loop-i.auto.i-end, c.loop-i-test.false, c.part_count-i-end.ensures.count)))
