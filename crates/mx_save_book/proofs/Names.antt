-- Names of a run.
use Rattle.std.proofs.Common.{◌≡◌, ◌≢◌, ◌∙◌, ap, sym, subst, ℕ, ◌<◌, ◌^◌, suc, zero, List, [], ◌∷◌, ◌++◌, map, length, arith, append_assoc, append-nil, inl, inr}
use Rattle.std.specs.Prelude.{◌⊎◌, slice_index_or}
use Rattle.std.specs.List.{Contains, AllByRecursion}
use Rattle.std.proofs.lemmas.List.Elements.{Contains-append_left, Contains-push}
use Rattle.mx_chain.specs.Outcomes.{OutcomeValue}
use Rattle.mx_folder.specs.Names.{base_name, count_of, names_from, names_of, numbered}
use Rattle.mx_folder.specs.Laws.{AreDistinct, NamesAreDistinct}
use Rattle.mx_save.specs.Ledgers.{IsFresh}
use Rattle.mx_save_book.specs.Jobs.{AreWhole, GrowsBy, Saves}

from_more : (earlier urls : List (List ℕ)) (url : List ℕ)
    → names_from earlier (urls ++ url ∷ []) ≡ names_from earlier urls ++ numbered (base_name url) (count_of (earlier ++ map base_name urls) (base_name url)) ∷ []
from_more earlier [] url = ap (λ l. numbered (base_name url) (count_of l (base_name url)) ∷ []) (sym (append-nil earlier))
from_more earlier (u ∷ urls) url =
    ap (λ l. numbered (base_name u) (count_of earlier (base_name u)) ∷ l)
    (from_more (earlier ++ base_name u ∷ []) urls url
    ∙ ap (λ l. names_from (earlier ++ base_name u ∷ []) urls ++ numbered (base_name url) (count_of l (base_name url)) ∷ []) (append_assoc earlier (base_name u ∷ []) (map base_name urls)))

-- one name more
pub names_more : (urls : List (List ℕ)) (url : List ℕ) → names_of (urls ++ url ∷ []) ≡ names_of urls ++ numbered (base_name url) (count_of (map base_name urls) (base_name url)) ∷ []
names_more urls url = from_more [] urls url

last_of : (names : List (List ℕ)) (name n : List ℕ) → AllByRecursion (λ other. n ≢ other) (names ++ name ∷ []) → n ≢ name
last_of [] name n all = all.0
last_of (m ∷ names) name n all = last_of names name n all.1

-- the first, or one after it
at_front : {X : Type 0} (k : ℕ) (head x : X) (rest : List X) → k < length (head ∷ rest) → slice_index_or (head ∷ rest) k x ≡ x → (head ≡ x) ⊎ Contains rest x
at_front zero head x rest lt is = inl is
at_front (suc k) head x rest lt is = inr (k, omega (arith, lt), is)

last_differs : (names : List (List ℕ)) (name other : List ℕ) → AreDistinct (names ++ name ∷ []) → Contains names other → name ≢ other
last_differs [] name other distinct has = absurd (omega (arith, has.1))
last_differs (n ∷ names) name other distinct has =
    elim (at_front has.0 n other names has.1 has.2) [
      | inl e ↦ λ same. last_of names name n distinct.0 (e ∙ sym same)
      | inr more ↦ last_differs names name other distinct.1 more
    ]

-- a new name is none of those that were given
pub is_new : NamesAreDistinct → (urls : List (List ℕ)) (url name other : List ℕ) → length (urls ++ url ∷ []) < 2 ^ 64
    → name ≡ numbered (base_name url) (count_of (map base_name urls) (base_name url)) → Contains (names_of urls) other → name ≢ other
is_new law urls url name other few is has =
    let distinct = subst AreDistinct (names_more urls url) (law (urls ++ url ∷ []) few) in
    λ same. last_differs (names_of urls) (numbered (base_name url) (count_of (map base_name urls) (base_name url))) other distinct has (sym is ∙ same)

-- so nothing was saved under it
pub is_fresh : (names : List (List ℕ)) (name : List ℕ) (saves : Saves) → ((other : List ℕ) → Contains names other → name ≢ other)
    → AllByRecursion (λ e. Contains names e.0) saves → IsFresh name saves
is_fresh names name [] apart given = tt
is_fresh names name (e ∷ saves) apart given = (apart e.0 given.0, is_fresh names name saves apart given.1)

-- what was given still is, and the new name is
pub given_more : (urls : List (List ℕ)) (url name : List ℕ) → Contains (names_of urls) name → Contains (names_of (urls ++ url ∷ [])) name
given_more urls url name has =
    subst (λ l. Contains l name) (sym (names_more urls url)) (Contains-append_left (names_of urls) (numbered (base_name url) (count_of (map base_name urls) (base_name url)) ∷ []) name has)

pub given_new : (urls : List (List ℕ)) (url name : List ℕ) → name ≡ numbered (base_name url) (count_of (map base_name urls) (base_name url)) → Contains (names_of (urls ++ url ∷ [])) name
given_new urls url name is =
    subst (λ l. Contains l name) (sym (names_more urls url)) (subst (λ n. Contains (names_of urls ++ n ∷ []) name) is (Contains-push (names_of urls) name))

pub all_given_more : (urls : List (List ℕ)) (url : List ℕ) (saves : Saves) → AllByRecursion (λ e. Contains (names_of urls) e.0) saves → AllByRecursion (λ e. Contains (names_of (urls ++ url ∷ [])) e.0) saves
all_given_more urls url [] all = tt
all_given_more urls url (e ∷ saves) all = (given_more urls url e.0 all.0, all_given_more urls url saves all.1)

-- another name stays fresh where the saves grow by one
pub fresh_on : (name other : List ℕ) (old new : Saves) → name ≢ other → IsFresh name old → GrowsBy other old new → IsFresh name new
fresh_on name other old new apart fresh grows =
    elim grows [
      | inl same ↦ subst (IsFresh name) (sym same) fresh
      | inr one ↦ subst (IsFresh name) (sym one.2) (apart, fresh)
    ]

pub given_on : (names : List (List ℕ)) (name : List ℕ) (old new : Saves) → Contains names name → AllByRecursion (λ e. Contains names e.0) old → GrowsBy name old new
    → AllByRecursion (λ e. Contains names e.0) new
given_on names name old new has all grows =
    elim grows [
      | inl same ↦ subst (AllByRecursion (λ e. Contains names e.0)) (sym same) all
      | inr one ↦ subst (AllByRecursion (λ e. Contains names e.0)) (sym one.2) (has, all)
    ]

-- what was saved still is
pub saved_on : (name : List ℕ) (old new : Saves) (entry : List ℕ × OutcomeValue) → GrowsBy name old new → Contains old entry → Contains new entry
saved_on name old new entry grows has =
    elim grows [
      | inl same ↦ subst (λ l. Contains l entry) (sym same) has
      | inr one ↦ subst (λ l. Contains l entry) (sym one.2) (let k = has.0 in (suc k, omega (arith, has.1), has.2))
    ]

-- and each body that was saved is whole
pub whole_on : (name : List ℕ) (old new : Saves) → AreWhole old → GrowsBy name old new → AreWhole new
whole_on name old new whole grows =
    elim grows [
      | inl same ↦ subst AreWhole (sym same) whole
      | inr one ↦ subst AreWhole (sym one.2) (one.1, whole)
    ]
