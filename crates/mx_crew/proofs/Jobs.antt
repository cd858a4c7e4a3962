-- What comes of jobs that are started from the last to the first, and of which the one that was started last is joined first.
use Rattle.std.proofs.Common.{◌≡◌, ◌∙◌, ap, sym, subst, List, [], ◌∷◌, ◌++◌, map}
use Rattle.std.specs.Prelude.{reverse}
use Rattle.std.specs.List.{AllZip}
use Rattle.std.proofs.lemmas.List.{append_assoc, map-append, reverse-append}

-- one more of each
zip_push : {A B : Type 0} (R : A → B → Type 0) (xs : List A) (ys : List B) (x : A) (y : B) → AllZip R xs ys → R x y
    → AllZip R (xs ++ x ∷ []) (ys ++ y ∷ [])
zip_push R [] [] x y all one = (one, tt)
zip_push R [] (b ∷ ys) x y all one = absurd all
zip_push R (a ∷ xs) [] x y all one = absurd all
zip_push R (a ∷ xs) (b ∷ ys) x y all one = (all.0, zip_push R xs ys x y all.1 one)

-- where the last of those that are left is taken, it comes next
next_of : {A : Type 0} (all before left rest : List A) (x : A) → all ≡ before ++ reverse left → left ≡ rest ++ x ∷ []
    → all ≡ (before ++ x ∷ []) ++ reverse rest
next_of all before left rest x is last =
    is ∙ (ap (λ l. before ++ reverse l) last ∙ (ap (λ l. before ++ l) (reverse-append rest (x ∷ [])) ∙ sym (append_assoc before (x ∷ []) (reverse rest))))

-- one more is joined
pub next_joined : {A B D : Type 0} (f : A → B) (R : B → D → Type 0) (all left rest : List A) (was is : List D) (x : A) (d : D)
    → ((ended : List B) × (reverse (map f all) ≡ ended ++ reverse (map f left)) × AllZip R ended was)
    → left ≡ rest ++ x ∷ [] → is ≡ was ++ d ∷ [] → R (f x) d
    → ((ended : List B) × (reverse (map f all) ≡ ended ++ reverse (map f rest)) × AllZip R ended is)
next_joined f R all left rest was is x d joined last more gives = (
  joined.0 ++ f x ∷ [],
  next_of (reverse (map f all)) joined.0 (map f left) (map f rest) (f x) joined.1 (ap (map f) last ∙ map-append f rest (x ∷ [])),
  subst (AllZip R (joined.0 ++ f x ∷ [])) (sym more) (zip_push R joined.0 was (f x) d joined.2 gives),
)
