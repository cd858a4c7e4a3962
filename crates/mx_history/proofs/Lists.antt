-- Facts on each element of a list, on its tickets, and on its filters.
use Rattle.std.proofs.Common.{◌≡◌, ℕ, ◌∙◌, sym, refl, ap, subst, List, [], ◌∷◌, ◌++◌, append-nil, Bool, true, false, cond}
use Rattle.std.specs.Prelude.{◌||◌}
use Rattle.std.specs.List.{filter, list_any, AllByRecursion}
use Rattle.std.proofs.lemmas.Bool.{eqb-true, eq-eqb, false≢true, or_left, or_right}
use Rattle.std.proofs.lemmas.List.Folds.{list_any-append}
use Rattle.mx_types.specs.declared.names.Ticket.{Ticket}
use Rattle.mx_history.specs.History.{same_ticket, has_ticket}

pub Each-map : {X : Type 0} (P Q : X → Type 0) → ((x : X) → P x → Q x) → (xs : List X) → AllByRecursion P xs → AllByRecursion Q xs
Each-map P Q h [] a = tt
Each-map P Q h (x ∷ xs) a = (h x a.0, Each-map P Q h xs a.1)

pub Each-append : {X : Type 0} (P : X → Type 0) (xs ys : List X) → AllByRecursion P xs → AllByRecursion P ys → AllByRecursion P (xs ++ ys)
Each-append P [] ys a b = b
Each-append P (x ∷ xs) ys a b = (a.0, Each-append P xs ys a.1 b)

each_kept : {X : Type 0} (Q : X → Type 0) (x : X) (xs : List X) (b : Bool) → (b ≡ true → Q x) → AllByRecursion Q xs → AllByRecursion Q (cond b (x ∷ xs) xs)
each_kept Q x xs true h a = (h refl, a)
each_kept Q x xs false h a = a

-- what a filter keeps, where the test may be used
pub Each-filter : {X : Type 0} (p : X → Bool) (P Q : X → Type 0) → ((x : X) → p x ≡ true → P x → Q x) → (xs : List X)
    → AllByRecursion P xs → AllByRecursion Q (filter p xs)
Each-filter p P Q h [] a = tt
Each-filter p P Q h (x ∷ xs) a = each_kept Q x (filter p xs) (p x) (λ is. h x is a.0) (Each-filter p P Q h xs a.1)

pub filter_true : {X : Type 0} (xs : List X) → filter (λ _. true) xs ≡ xs
filter_true [] = refl
filter_true (x ∷ xs) = ap (λ z. x ∷ z) (filter_true xs)

pub filter_idle : {X : Type 0} (xs : List X) → filter (λ _. true) xs ++ [] ≡ xs
filter_idle xs = append-nil _ ∙ filter_true xs

-- tests that agree on each element keep the same
pub filter_where : {X : Type 0} (P : X → Type 0) (p q : X → Bool) → ((x : X) → P x → p x ≡ q x) → (xs : List X) → AllByRecursion P xs → filter p xs ≡ filter q xs
filter_where P p q h [] a = refl
filter_where P p q h (x ∷ xs) a = ap (λ b. cond b (x ∷ filter p xs) (filter p xs)) (h x a.0) ∙ ap (λ z. cond (q x) (x ∷ z) z) (filter_where P p q h xs a.1)

-- tickets
pub same-is : (t u : Ticket) → same_ticket t u ≡ true → t ≡ u
same-is t u h = let T : ℕ → Ticket = λ n. record { 0 = n } in ap T (eqb-true t.0 u.0 h)

pub same-refl : (t : Ticket) → same_ticket t t ≡ true
same-refl t = eq-eqb t.0 t.0 refl

has_or : (t u : Ticket) (b c : Bool) (P : Ticket → Type 0) → same_ticket t u ≡ b → (b || c) ≡ true → P u → (c ≡ true → P t) → P t
has_or t u true c P is h a r = subst P (sym (same-is t u is)) a
has_or t u false c P is h a r = r h

-- what holds of each ticket of a list holds of one that is in it
pub at_ticket : (P : Ticket → Type 0) (t : Ticket) (xs : List Ticket) → AllByRecursion P xs → has_ticket t xs ≡ true → P t
at_ticket P t [] a h = absurd (false≢true h)
at_ticket P t (u ∷ xs) a h = has_or t u (same_ticket t u) (has_ticket t xs) P refl h a.0 (λ k. at_ticket P t xs a.1 k)

filter_or : (t u : Ticket) (p : Ticket → Bool) (b s c r : Bool) → p u ≡ b → same_ticket t u ≡ s
    → list_any (same_ticket t) (cond b (u ∷ []) []) ≡ cond b (s || false) false
filter_or t u p true s c r e is = ap (λ z. z || false) is
filter_or t u p false s c r e is = refl

has_kept : (t u : Ticket) (p : Ticket → Bool) (ys xs : List Ticket) (b : Bool) → p u ≡ b
    → (has_ticket t ys ≡ true → (has_ticket t xs ≡ true) × (p t ≡ true))
    → has_ticket t (cond b (u ∷ ys) ys) ≡ true → (has_ticket t (u ∷ xs) ≡ true) × (p t ≡ true)
has_kept t u p ys xs true e r h = go (same_ticket t u) refl h where
  go : (s : Bool) → same_ticket t u ≡ s → (s || has_ticket t ys) ≡ true → ((same_ticket t u || has_ticket t xs) ≡ true) × (p t ≡ true)
  go true is k = (or_left _ _ is, ap p (same-is t u is) ∙ e)
  go false is k = (or_right _ _ (r k).0, (r k).1)
has_kept t u p ys xs false e r h = (or_right _ _ (r h).0, (r h).1)

-- a ticket that a filter kept
pub has-filter : (t : Ticket) (p : Ticket → Bool) (xs : List Ticket) → has_ticket t (filter p xs) ≡ true → (has_ticket t xs ≡ true) × (p t ≡ true)
has-filter t p [] h = absurd (false≢true h)
has-filter t p (u ∷ xs) h = has_kept t u p (filter p xs) xs (p u) refl (has-filter t p xs) h

pub has-append_left : (t : Ticket) (xs ys : List Ticket) → has_ticket t xs ≡ true → has_ticket t (xs ++ ys) ≡ true
has-append_left t xs ys h = list_any-append (same_ticket t) xs ys ∙ or_left _ _ h

stays : (t u : Ticket) (p : Ticket → Bool) (ys : List Ticket) (c b s : Bool) → p u ≡ b → p t ≡ true → same_ticket t u ≡ s
    → (c ≡ true → has_ticket t ys ≡ true) → (s || c) ≡ true → has_ticket t (cond b (u ∷ ys) ys) ≡ true
stays t u p ys c true true e is same r k = or_left _ _ same
stays t u p ys c true false e is same r k = or_right _ _ (r k)
stays t u p ys c false true e is same r k = absurd (false≢true (sym e ∙ sym (ap p (same-is t u same)) ∙ is))
stays t u p ys c false false e is same r k = r k

-- a ticket that passes is kept
pub has-stays : (t : Ticket) (p : Ticket → Bool) (xs : List Ticket) → has_ticket t xs ≡ true → p t ≡ true → has_ticket t (filter p xs) ≡ true
has-stays t p [] h is = absurd (false≢true h)
has-stays t p (u ∷ xs) h is = stays t u p (filter p xs) (has_ticket t xs) (p u) (same_ticket t u) refl is refl (λ k. has-stays t p xs k is) h

pub Each-both : {X : Type 0} (P Q R : X → Type 0) → ((x : X) → P x → Q x → R x) → (xs : List X) → AllByRecursion P xs → AllByRecursion Q xs → AllByRecursion R xs
Each-both P Q R h [] a b = tt
Each-both P Q R h (x ∷ xs) a b = (h x a.0 b.0, Each-both P Q R h xs a.1 b.1)
