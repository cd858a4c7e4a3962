-- What a sink got, put after put.
use Rattle.std.proofs.Common.{◌≡◌, ℕ, ◌+◌, List, ◌++◌, take, drop, ap, sym, ◌∙◌, append_assoc}
use Rattle.std.proofs.Math.Seq.{take-add}

-- it got a prefix of some bytes, and then some of their rest
pub got_on : (first bytes : List ℕ) (w n : ℕ) (rest before after : List ℕ) → before ≡ first ++ take w bytes → after ≡ before ++ take n rest → rest ≡ drop w bytes
    → after ≡ first ++ take (w + n) bytes
got_on first bytes w n rest before after so_far told at =
    told ∙ ap (λ (b : List ℕ). b ++ take n rest) so_far ∙ append_assoc first (take w bytes) (take n rest)
    ∙ ap (λ (b : List ℕ). first ++ b) (ap (λ r. take w bytes ++ take n r) at ∙ sym (take-add w n bytes))
