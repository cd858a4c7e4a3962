-- What a read gave, put to behind the content of a window.
use Rattle.std.proofs.Common.{arith, ◌≡◌, ℕ, ◌+◌, ◌-◌, ◌≤◌, List, ◌++◌, length, take, drop, sym, ap, ◌∙◌, append_assoc}
use Rattle.std.proofs.lemmas.List.{drop-take, take-append-le, take-take}
use lib.Seq.{take-add, take-append_seam, drop-append_seam}

-- memory, into which a read put its bytes behind the content, and the first n bytes of these
module _ (content read left behind memory : List ℕ) (size len n count : ℕ) (is : memory ≡ take size ((content ++ (read ++ left)) ++ behind))
    (all : length content ≡ len) (fits : n ≤ length read) (room : len + n ≤ size) (counted : count ≡ n) where
  abbrev parts : List ℕ
  parts = (content ++ (read ++ left)) ++ behind

  joined : parts ≡ content ++ ((read ++ left) ++ behind)
  joined = append_assoc content (read ++ left) behind

  pub piece_is : take n read ≡ take count (drop len memory)
  piece_is = sym (
      ap (λ (k : ℕ). take k (drop len memory)) counted ∙ ap (λ (l : List ℕ). take n (drop len l)) is
      ∙ sym (drop-take len n (take size parts)) ∙ ap (λ (l : List ℕ). drop len l) (take-take (len + n) size parts room)
      ∙ drop-take len n parts ∙ ap (λ (k : ℕ). take n (drop k parts)) (sym all) ∙ ap (λ (l : List ℕ). take n (drop (length content) l)) joined
      ∙ ap (λ (l : List ℕ). take n l) (drop-append_seam content ((read ++ left) ++ behind) ∙ append_assoc read left behind)
      ∙ take-append-le n read (left ++ behind) fits)

  front_is : take len memory ≡ content
  front_is =
      ap (λ (l : List ℕ). take len l) is ∙ take-take len size parts (omega (arith, room)) ∙ ap (λ (k : ℕ). take k parts) (sym all)
      ∙ ap (λ (l : List ℕ). take (length content) l) joined ∙ take-append_seam content ((read ++ left) ++ behind)

  pub content_is : take (len + n) memory ≡ content ++ take count (drop len memory)
  content_is =
      take-add len n memory ∙ ap (λ (l : List ℕ). l ++ take n (drop len memory)) front_is
      ∙ ap (λ (k : ℕ). content ++ take k (drop len memory)) (sym counted)
