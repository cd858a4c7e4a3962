-- What a sink got, put after put.
use Rattle.std.proofs.Common.{◌≡◌, ℕ, ◌+◌, List, ◌++◌, take, drop, ap, sym, ◌∙◌, append_assoc}
use Rattle.std.proofs.lemmas.List.{drop-drop, take-append-drop}
use Rattle.std.proofs.Math.Seq.{take-add}

-- it got a prefix of some bytes, and then some of their rest
pub got_on : (first bytes : List ℕ) (w n : ℕ) (rest before after : List ℕ) → before ≡ first ++ take w bytes → after ≡ before ++ take n rest → rest ≡ drop w bytes
    → after ≡ first ++ take (w + n) bytes
got_on first bytes w n rest before after so_far told at =
    told ∙ ap (λ (b : List ℕ). b ++ take n rest) so_far ∙ append_assoc first (take w bytes) (take n rest)
    ∙ ap (λ (b : List ℕ). first ++ b) (ap (λ r. take w bytes ++ take n r) at ∙ sym (take-add w n bytes))

-- of what was left it got a prefix, and the rest is still left
pub handed_on : (first items : List ℕ) (start n : ℕ) (rest after : List ℕ) → after ≡ first ++ take n rest → rest ≡ drop start items
    → after ++ drop (start + n) items ≡ first ++ drop start items
handed_on first items start n rest after told at =
    ap (λ (b : List ℕ). b ++ drop (start + n) items) told ∙ append_assoc first (take n rest) (drop (start + n) items)
    ∙ ap (λ (b : List ℕ). first ++ b) (ap (λ r. take n r ++ drop (start + n) items) at ∙ ap (λ (b : List ℕ). take n (drop start items) ++ b) (sym (drop-drop n start items))
    ∙ take-append-drop n (drop start items))
