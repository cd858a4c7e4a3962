-- Lists that begin other lists, by their first elements.
use Rattle.std.proofs.Common.{◌≡◌, ◌+◌, ◌≤◌, ◌<◌, ℕ, List, [], ◌∷◌, ◌++◌, append-nil, append_assoc, length, length-append, take, drop, get_or, sym, refl, ap, subst, ◌∙◌, ⊎_elim, inl, inr, Bool, true, false, MatchBool, arith}
use Rattle.std.specs.Prelude.{Some, slice_get, nat_le}
use Rattle.std.proofs.lemmas.List.{take_at, take_all, take-take, take_more, take-append-drop}
use Rattle.std.proofs.lemmas.Option.{slice_get_within, get_or_from_slice_get}
use Rattle.std.proofs.lemmas.Bool.{cases_lt, leb-true, leb-false}
use mathlib.Core.List.{IsPrefix}
use Rattle.mx_append_log.specs.Log.{AreOfOneList}

pub prefix_self : {X : Type 0} (xs : List X) → IsPrefix xs xs
prefix_self xs = ([], append-nil xs)

pub prefix_trans : {X : Type 0} (xs ys zs : List X) → IsPrefix xs ys → IsPrefix ys zs → IsPrefix xs zs
prefix_trans xs ys zs p q =
    let whole : IsPrefix xs ((xs ++ p.0) ++ q.0) = (p.0 ++ q.0, sym (append_assoc xs p.0 q.0)) in
    subst (IsPrefix xs) q.1 (subst (λ l. IsPrefix xs (l ++ q.0)) p.1 whole)

-- a prefix of a list is its first elements
pub prefix_takes : {X : Type 0} (xs ys : List X) → IsPrefix xs ys → take (length xs) ys ≡ xs
prefix_takes xs ys p = ap (take (length xs)) (sym p.1) ∙ take_at xs p.0 (length xs) refl

pub takes_prefix : {X : Type 0} (n : ℕ) (xs ys : List X) → take n ys ≡ xs → IsPrefix xs ys
takes_prefix n xs ys e = subst (λ l. IsPrefix l ys) e (drop n ys, take-append-drop n ys)

-- of two prefixes of one list the shorter is a prefix of the longer
pub prefix_shorter : {X : Type 0} (xs ys zs : List X) → IsPrefix xs zs → IsPrefix ys zs → length xs ≤ length ys → IsPrefix xs ys
prefix_shorter xs ys zs p q le =
    takes_prefix (length xs) xs ys (ap (take (length xs)) (sym (prefix_takes ys zs q)) ∙ take-take (length xs) (length ys) zs le ∙ prefix_takes xs zs p)

-- a prefix of a list that is no shorter is that list
pub prefix_whole : {X : Type 0} (xs ys : List X) → IsPrefix xs ys → length ys ≤ length xs → xs ≡ ys
prefix_whole xs ys p le = sym (prefix_takes xs ys p) ∙ take_all (length xs) ys le

-- a prefix, and the element after it
pub prefix_next : {X : Type 0} (xs ys : List X) (x : X) → IsPrefix xs ys → slice_get ys (length xs) ≡ Some x → IsPrefix (xs ++ x ∷ []) ys
prefix_next xs ys x p next =
    let n = length xs in
    let more = take_more ys n x (slice_get_within ys n x next) in
    takes_prefix (n + 1) (xs ++ x ∷ []) ys (more ∙ ap (λ l. l ++ get_or ys n x ∷ []) (prefix_takes xs ys p) ∙ ap (λ y. xs ++ y ∷ []) (get_or_from_slice_get ys n x x next))

-- a prefix of a list is no longer, and the element after a prefix is the list's next one
pub prefix_fits : {X : Type 0} (xs ys : List X) → IsPrefix xs ys → length xs ≤ length ys
prefix_fits xs ys p = omega (arith, ap length p.1, length-append xs p.0)

next_of : {X : Type 0} (xs rest : List X) (x : X) → slice_get ((xs ++ x ∷ []) ++ rest) (length xs) ≡ Some x
next_of [] rest x = refl
next_of (y ∷ xs) rest x = next_of xs rest x

pub prefix_shows_next : {X : Type 0} (xs ys : List X) (x : X) → IsPrefix (xs ++ x ∷ []) ys → slice_get ys (length xs) ≡ Some x
prefix_shows_next xs ys x p = ap (λ l. slice_get l (length xs)) (sym p.1) ∙ next_of xs p.0 x

-- of two prefixes of one list one is a prefix of the other
pub of_one_list : {X : Type 0} (xs ys zs : List X) → IsPrefix xs zs → IsPrefix ys zs → AreOfOneList xs ys
of_one_list xs ys zs p q = ⊎_elim (λ (lt : length xs < length ys). inl (prefix_shorter xs ys zs p q (omega (arith, lt)))) (λ (le : length ys ≤ length xs). inr (prefix_shorter ys xs zs q p le)) (cases_lt (length xs) (length ys))

-- and by their lengths: the shorter is a prefix of the longer
pub one_begins : {X : Type 0} (xs ys : List X) (m n : ℕ) → AreOfOneList xs ys → m ≡ length xs → n ≡ length ys → MatchBool (nat_le m n) (IsPrefix xs ys) (IsPrefix ys xs)
one_begins xs ys m n one em en = go (nat_le m n) refl one
  where
    go : (b : Bool) → nat_le m n ≡ b → AreOfOneList xs ys → MatchBool b (IsPrefix xs ys) (IsPrefix ys xs)
    go true is (inl p) = p
    go true is (inr p) = subst (λ l. IsPrefix l ys) (prefix_whole ys xs p (omega (arith, em, en, leb-true m n is))) (prefix_self ys)
    go false is (inl p) = subst (λ l. IsPrefix l xs) (prefix_whole xs ys p (omega (arith, em, en, leb-false m n is))) (prefix_self xs)
    go false is (inr p) = p
