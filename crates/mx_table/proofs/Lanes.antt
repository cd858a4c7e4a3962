-- The lanes that have a number.
use Rattle.std.proofs.Common.{◌≡◌, ◌≢◌, ℕ, ◌+◌, ◌*◌, ◌<◌, ◌≤◌, ◌∙◌, sym, refl, ap, arith, length, get_or, List, [], ◌∷◌, Bool, true, false, cond, map, inl, inr}
use Rattle.std.specs.Prelude.{suc, not, ◌==◌}
use Rattle.std.specs.List.{prefix_len}
use Rattle.std.proofs.lemmas.Bool.{cases_lt, eqb-true, eqb-false}
use Rattle.std.proofs.lemmas.List.Sums.{prefix_len-le-length}
use Rattle.std.proofs.lemmas.Simd.{length-chunk, none_from_empty_mask, run_in_chunk_fails, run_in_chunk_stops, trailing_mask_l}
use lib.Lanes.{chunk, mask_l}
use lib.Count.{count_trailing_zeros}

none_set : (p : ℕ → Bool) (xs : List ℕ) → prefix_len (λ x. not (p x)) xs ≡ length xs → mask_l (map p xs) ≡ 0
none_set p [] e = refl
none_set p (x ∷ xs) e = go (p x) e (none_set p xs)
  where
    go : (b : Bool) → cond (not b) (1 + prefix_len (λ x. not (p x)) xs) 0 ≡ suc (length xs) → (prefix_len (λ x. not (p x)) xs ≡ length xs → mask_l (map p xs) ≡ 0)
        → cond b 1 0 + 2 * mask_l (map p xs) ≡ 0
    go true e later = absurd (omega (arith, e))
    go false e later = let z = later (omega (arith, e)) in omega (arith, z)

stops : (p : ℕ → Bool) (xs : List ℕ) → mask_l (map p xs) ≢ 0 → prefix_len (λ x. not (p x)) xs < length xs
stops p xs some =
    elim (cases_lt (prefix_len (λ x. not (p x)) xs) (length xs)) [
      | inl lt ↦ lt
      | inr le ↦ absurd (some (none_set p xs (omega (arith, le, prefix_len-le-length (λ x. not (p x)) xs))))
    ]

counted : (xs : List ℕ) (at w hits : ℕ) → at + 16 ≤ length xs → hits ≡ mask_l (map (λ x. x == w) (chunk at 16 xs)) → hits ≢ 0
    → count_trailing_zeros 64 hits ≡ prefix_len (λ x. not (x == w)) (chunk at 16 xs)
counted xs at w hits room mask some =
    let long : length (chunk at 16 xs) ≡ 16 = length-chunk at 16 xs room in
    let set : 0 < mask_l (map (λ x. x == w) (chunk at 16 xs)) = omega (arith, mask, some) in
    ap (count_trailing_zeros 64) mask ∙ trailing_mask_l (λ x. x == w) 64 (chunk at 16 xs) (omega (arith, long)) set

pub hit_within : (xs : List ℕ) (at w hits : ℕ) → at + 16 ≤ length xs → hits ≡ mask_l (map (λ x. x == w) (chunk at 16 xs)) → hits ≢ 0 → count_trailing_zeros 64 hits < 16
hit_within xs at w hits room mask some =
    omega (arith, counted xs at w hits room mask some, length-chunk at 16 xs room, stops (λ x. x == w) (chunk at 16 xs) (λ z. some (mask ∙ z)))

pub hit_there : (xs : List ℕ) (at w hits : ℕ) → at + 16 ≤ length xs → hits ≡ mask_l (map (λ x. x == w) (chunk at 16 xs)) → hits ≢ 0 → get_or xs (at + count_trailing_zeros 64 hits) 0 ≡ w
hit_there xs at w hits room mask some =
    eqb-true _ w (run_in_chunk_stops (λ x. x == w) xs at 16 (count_trailing_zeros 64 hits) 0 room (counted xs at w hits room mask some) (hit_within xs at w hits room mask some))

pub hit_first : (xs : List ℕ) (at w hits : ℕ) → at + 16 ≤ length xs → hits ≡ mask_l (map (λ x. x == w) (chunk at 16 xs)) → hits ≢ 0
    → (k : ℕ) → at ≤ k → k < at + count_trailing_zeros 64 hits → get_or xs k 0 ≢ w
hit_first xs at w hits room mask some k le lt =
    eqb-false _ w (run_in_chunk_fails (λ x. x == w) xs at 16 (count_trailing_zeros 64 hits) 0 room (counted xs at w hits room mask some) k le lt)

pub no_hit : (xs : List ℕ) (at w hits : ℕ) → at + 16 ≤ length xs → hits ≡ mask_l (map (λ x. x == w) (chunk at 16 xs)) → hits ≡ 0
    → (k : ℕ) → at ≤ k → k < at + 16 → get_or xs k 0 ≢ w
no_hit xs at w hits room mask zero k le lt = eqb-false _ w (none_from_empty_mask (λ x. x == w) xs at 16 0 room (sym mask ∙ zero) k le lt)
