-- One more answer keeps the order.
use Rattle.std.proofs.Common.{◌≡◌, ℕ, ◌+◌, ◌-◌, Bool, true, false, List, [], ◌∷◌, ◌++◌, length, take, drop, refl, sym, ◌∙◌, ap, subst, append_assoc, append-nil, length-drop}
use Rattle.std.specs.Prelude.{◌||◌, count_by}
use Rattle.std.specs.List.{list_any}
use Rattle.std.proofs.lemmas.List.Folds.{list_any-append}
use Rattle.std.proofs.lemmas.List.Sums.{sum_by-append}
use Rattle.std.proofs.lemmas.Grind.{flat_map-append}
use Rattle.std.proofs.Math.Seq.{take-length}
use Rattle.mx_link.specs.Answers.{given, given_by, taken, taken_by}
use Rattle.mx_link.specs.declared.answers.Answer.{Answer}
use Rattle.mx_line.specs.Order.{FollowInOrder, MayFollow, is_last, asked_at, asked_from}

pub taken-push : (past : List Answer) (a : Answer) → taken (past ++ a ∷ []) ≡ taken past ++ taken_by a
taken-push past a = flat_map-append taken_by past (a ∷ []) ∙ ap (λ (l : List ℕ). taken past ++ l) (append-nil (taken_by a))

pub given-push : (past : List Answer) (a : Answer) → given (past ++ a ∷ []) ≡ given past ++ given_by a
given-push past a = flat_map-append given_by past (a ∷ []) ∙ ap (λ (l : List ℕ). given past ++ l) (append-nil (given_by a))

pub given-same : (past : List Answer) (a : Answer) → given_by a ≡ [] → given (past ++ a ∷ []) ≡ given past
given-same past a none = given-push past a ∙ ap (λ (l : List ℕ). given past ++ l) none ∙ append-nil (given past)

pub taken-same : (past : List Answer) (a : Answer) → taken_by a ≡ [] → taken (past ++ a ∷ []) ≡ taken past
taken-same past a none = taken-push past a ∙ ap (λ (l : List ℕ). taken past ++ l) none ∙ append-nil (taken past)

or_false : (b : Bool) → (b || false) ≡ b
or_false b = elim b as (λ v. (v || false) ≡ v) [ true ↦ refl | false ↦ refl ]

pub any-push : (p : Answer → Bool) (past : List Answer) (a : Answer) → list_any p (past ++ a ∷ []) ≡ (list_any p past || p a)
any-push p past a = list_any-append p past (a ∷ []) ∙ ap (λ (b : Bool). list_any p past || b) (or_false (p a))

pub any-same : (p : Answer → Bool) (past : List Answer) (a : Answer) → p a ≡ false → list_any p (past ++ a ∷ []) ≡ list_any p past
any-same p past a none = any-push p past a ∙ ap (λ (b : Bool). list_any p past || b) none ∙ or_false (list_any p past)

pub count-push : (p : Answer → Bool) (past : List Answer) (a : Answer) → count_by p (past ++ a ∷ []) ≡ count_by p past + count_by p (a ∷ [])
count-push p past a = sum_by-append _ past (a ∷ [])

pub FollowInOrder-push : (reused : Bool) (bytes : List ℕ) (before rest : List Answer) (a : Answer)
    → FollowInOrder reused bytes before rest → list_any is_last (before ++ rest) ≡ false → MayFollow reused bytes (before ++ rest) a
    → FollowInOrder reused bytes before (rest ++ a ∷ [])
FollowInOrder-push reused bytes before [] a h unlast may =
    (rw append-nil at unlast, subst (λ (l : List Answer). MayFollow reused bytes l a) (append-nil before) may, tt)
FollowInOrder-push reused bytes before (x ∷ rest) a h unlast may =
    let same : (before ++ x ∷ []) ++ rest ≡ before ++ (x ∷ rest) = append_assoc before (x ∷ []) rest in (
      h.0,
      h.1,
      FollowInOrder-push reused bytes (before ++ x ∷ []) rest a h.2
          (ap (list_any is_last) same ∙ unlast)
          (subst (λ (l : List Answer). MayFollow reused bytes l a) (sym same) may),
    )

-- the last of a list, or the first argument where there is none
last_of : Answer → List Answer → Answer
last_of d [] = d
last_of d (a ∷ past) = last_of a past

last-push : (d : Answer) (past : List Answer) (a : Answer) → last_of d (past ++ a ∷ []) ≡ a
unfolding last_of
last-push d [] a = refl
last-push d (x ∷ past) a = last-push x past a

-- lists that are equal end in the same
pub same-last : (past bs : List Answer) (a b : Answer) → past ++ a ∷ [] ≡ bs ++ b ∷ [] → a ≡ b
same-last past bs a b e = sym (last-push a past a) ∙ ap (last_of a) e ∙ last-push a bs b

pub pushed : (was is next more : List Answer) (a : Answer) → is ≡ was ++ more → next ≡ is ++ a ∷ [] → next ≡ was ++ (more ++ a ∷ [])
pushed was is next more a e f = f ∙ ap (λ (l : List Answer). l ++ a ∷ []) e ∙ append_assoc was more (a ∷ [])

-- what a slice from an index on has
pub rest_of : (n : ℕ) (xs : List ℕ) → take (length xs - n) (drop n xs) ≡ drop n xs
rest_of n xs = rw (← length-drop n xs) (take-length (drop n xs))

-- how much is asked for with one more answer
pub asked_from-push : (bytes : List ℕ) (before rest : List Answer) (a : Answer) → asked_from bytes before (rest ++ a ∷ []) ≡ asked_from bytes before rest ++ asked_at bytes (before ++ rest) a ∷ []
asked_from-push bytes before [] a = ap (λ (l : List Answer). asked_at bytes l a ∷ []) (sym (append-nil before))
asked_from-push bytes before (x ∷ rest) a =
    ap (λ (l : List ℕ). asked_at bytes before x ∷ l) (asked_from-push bytes (before ++ x ∷ []) rest a
    ∙ ap (λ (l : List Answer). asked_from bytes (before ++ x ∷ []) rest ++ asked_at bytes l a ∷ []) (append_assoc before (x ∷ []) rest))

-- the last of answers that came in order may have come
pub FollowInOrder-last : (reused : Bool) (bytes : List ℕ) (before rest : List Answer) (a : Answer) → FollowInOrder reused bytes before (rest ++ a ∷ []) → MayFollow reused bytes (before ++ rest) a
FollowInOrder-last reused bytes before [] a h = subst (λ (l : List Answer). MayFollow reused bytes l a) (sym (append-nil before)) h.1
FollowInOrder-last reused bytes before (x ∷ rest) a h =
    subst (λ (l : List Answer). MayFollow reused bytes l a) (append_assoc before (x ∷ []) rest) (FollowInOrder-last reused bytes (before ++ x ∷ []) rest a h.2)
