-- Each step keeps the rule of the progress words.
use Rattle.std.proofs.Common.{◌≡◌, ◌≢◌, ◌<◌, ◌≤◌, ◌+◌, ◌==◌, ℕ, zero, suc, List, [], ◌∷◌, ◌++◌, length, refl, ap, sym, subst, ◌∙◌, ⊎_elim, cond, eq-eqb, ne_eqb, arith}
use Rattle.std.specs.Prelude.{slice_set, slice_index, max, replicate}
use Rattle.std.specs.List.{sum_by}
use Rattle.std.proofs.lemmas.List.{length-set, get_or-set_same, get_or-set_other, length-replicate, get_or-replicate}
use Rattle.std.proofs.lemmas.List.Sums.{sum_by-append}
use Rattle.std.proofs.lemmas.Grind.{flat_map-append}
use Rattle.mx_types.specs.Limits.{most_handles}
use mathlib.Core.Option.{some, some-ne-none, some-injective}
use mathlib.Core.Logic.{dite}
use native.Mathlib.Decide.{ℕ_discrete}
use lib.ListN.{get_elem?}
use Rattle.atomic_table.proofs.Lists.{at_set, at_snoc, set_else}
use Rattle.mx_board.specs.declared.note.Note.{Note}
use Rattle.mx_board.specs.declared.note.NoteView.{NoteView}
use Rattle.mx_board.specs.Progress.{note, greatest, all_noted, IsSeat, IsKept, view_with, first_seat, without_one, one_of, both_of, spent_seat}

-- 1. The greatest word.

greatest-append : (k : ℕ) (xs ys : List Note) → greatest k (xs ++ ys) ≡ max (greatest k xs) (greatest k ys)
greatest-append k [] ys = omega arith
greatest-append k (x ∷ xs) ys = omega (arith, greatest-append k xs ys)

-- a note of the slot, and one of another
greatest_here : (k x : ℕ) (ns : List Note) → greatest k (ns ++ note k x ∷ []) ≡ max (greatest k ns) x
greatest_here k x ns =
    let hit : cond (k == k) x 0 ≡ x = ap (λ b. cond b x 0) (eq-eqb k k refl) in
    omega (arith, greatest-append k ns (note k x ∷ []), hit)

greatest_else : (j k x : ℕ) (ns : List Note) → j ≢ k → greatest k (ns ++ note j x ∷ []) ≡ greatest k ns
greatest_else j k x ns apart =
    let miss : cond (j == k) x 0 ≡ 0 = ap (λ b. cond b x 0) (ne_eqb j k apart) in
    omega (arith, greatest-append k ns (note j x ∷ []), miss)

-- each seat has noted no more than all have
noted_bound : (k : ℕ) (views : List NoteView) (j : ℕ) (v : NoteView) → get_elem? views j ≡ some v → greatest k v.noted ≤ greatest k (all_noted views)
noted_bound k [] j v at = absurd (some-ne-none v (sym at))
noted_bound k (x ∷ views) zero v at =
    let same : greatest k x.noted ≡ greatest k v.noted = ap (λ (u : NoteView). greatest k u.noted) (some-injective x v at) in
    omega (arith, greatest-append k x.noted (all_noted views), same)
noted_bound k (x ∷ views) (suc j) v at = omega (arith, greatest-append k x.noted (all_noted views), noted_bound k views j v at)

noted_least : (k n : ℕ) (views : List NoteView) → ((j : ℕ) (v : NoteView) → get_elem? views j ≡ some v → greatest k v.noted ≤ n) → greatest k (all_noted views) ≤ n
noted_least k n [] each = omega arith
noted_least k n (x ∷ views) each =
    omega (arith, greatest-append k x.noted (all_noted views), each zero x refl, noted_least k n views (λ j v at. each (suc j) v at))

-- a seat has noted more; a seat has lost what it had noted
noted_more : (k : ℕ) (views : List NoteView) (id : ℕ) (v w : NoteView) → get_elem? views id ≡ some v → greatest k v.noted ≤ greatest k w.noted
    → greatest k (all_noted (slice_set views id w)) ≡ max (greatest k (all_noted views)) (greatest k w.noted)
noted_more k [] id v w at le = absurd (some-ne-none v (sym at))
noted_more k (x ∷ views) zero v w at le =
    let same : greatest k x.noted ≡ greatest k v.noted = ap (λ (u : NoteView). greatest k u.noted) (some-injective x v at) in
    omega (arith, le, same, greatest-append k x.noted (all_noted views), greatest-append k w.noted (all_noted views))
noted_more k (x ∷ views) (suc id) v w at le =
    omega (arith, noted_more k views id v w at le, greatest-append k x.noted (all_noted views), greatest-append k x.noted (all_noted (slice_set views id w)))

noted_less : (k : ℕ) (views : List NoteView) (id : ℕ) (v w : NoteView) → get_elem? views id ≡ some v → w.noted ≡ []
    → max (greatest k (all_noted (slice_set views id w))) (greatest k v.noted) ≡ greatest k (all_noted views)
noted_less k [] id v w at none = absurd (some-ne-none v (sym at))
noted_less k (x ∷ views) zero v w at none =
    let same : greatest k x.noted ≡ greatest k v.noted = ap (λ (u : NoteView). greatest k u.noted) (some-injective x v at) in
    omega (arith, same, ap (greatest k) none, greatest-append k x.noted (all_noted views), greatest-append k w.noted (all_noted views))
noted_less k (x ∷ views) (suc id) v w at none =
    omega (arith, noted_less k views id v w at none, greatest-append k x.noted (all_noted views), greatest-append k x.noted (all_noted (slice_set views id w)))

-- 2. How many seats are joined.

abbrev joined_in : List NoteView → ℕ
joined_in views = sum_by (λ (u : NoteView). u.joined) views

joined_step : (x : NoteView) (views : List NoteView) → joined_in (x ∷ views) ≡ x.joined + joined_in views
joined_step x views = let all = sum_by-append (λ (u : NoteView). u.joined) (x ∷ []) views in all ∙ ap (λ k. k + joined_in views) (omega arith)

joined_set : (views : List NoteView) (id : ℕ) (v w : NoteView) → get_elem? views id ≡ some v → joined_in (slice_set views id w) + v.joined ≡ joined_in views + w.joined
joined_set [] id v w at = absurd (some-ne-none v (sym at))
joined_set (x ∷ views) zero v w at =
    let same : x.joined ≡ v.joined = ap (λ (u : NoteView). u.joined) (some-injective x v at) in
    omega (arith, same, joined_step x views, joined_step w views)
joined_set (x ∷ views) (suc id) v w at = omega (arith, joined_set views id v w at, joined_step x views, joined_step x (slice_set views id w))

joined_bound : (views : List NoteView) (j : ℕ) (v : NoteView) → get_elem? views j ≡ some v → v.joined ≤ joined_in views
joined_bound [] j v at = absurd (some-ne-none v (sym at))
joined_bound (x ∷ views) zero v at =
    let same : x.joined ≡ v.joined = ap (λ (u : NoteView). u.joined) (some-injective x v at) in omega (arith, same, joined_step x views)
joined_bound (x ∷ views) (suc j) v at = omega (arith, joined_bound views j v at, joined_step x views)

-- where all seats are joined in one, no other has noted anything
noted_alone : (k n : ℕ) (ws : List ℕ) (views : List NoteView) (id : ℕ) (v : NoteView) → IsKept n ws views → get_elem? views id ≡ some v → v.joined ≡ n
    → greatest k (all_noted views) ≡ greatest k v.noted
noted_alone k n ws views id v kept at all =
    let other : (j : ℕ) (u : NoteView) → get_elem? views j ≡ some u → greatest k u.noted ≤ greatest k v.noted =
    λ j u there. dite (ℕ_discrete j id)
    (λ same.
    let is : u ≡ v = some-injective u v (sym there ∙ ap (get_elem? views) same ∙ at) in
    omega (arith, ap (λ (x : NoteView). greatest k x.noted) is))
    (λ apart.
    let still = set_else views id j spent_seat apart ∙ there in
    let few = joined_bound (slice_set views id spent_seat) j u still in
    let none : u.joined ≡ 0 = omega (arith, few, joined_set views id v spent_seat at, kept.joined, all) in
    omega (arith, ap (greatest k) ((kept.each j u there).spent none))) in
    omega (arith, noted_least k (greatest k v.noted) views other, noted_bound k views id v at)

-- 3. The steps.

set_there : (views : List NoteView) (id : ℕ) (v w : NoteView) → get_elem? views id ≡ some v → get_elem? (slice_set views id w) id ≡ some w
set_there [] id v w at = absurd (some-ne-none v (sym at))
set_there (x ∷ views) zero v w at = refl
set_there (x ∷ views) (suc id) v w at = set_there views id v w at

-- a word that is written back, and one that is raised
word_set : (ws : List ℕ) (i k x : ℕ) → slice_index ws i ≤ x → i < length ws → (slice_index ws k ≤ slice_index (slice_set ws i x) k) × (k ≢ i → slice_index (slice_set ws i x) k ≡ slice_index ws k)
word_set ws i k x le lt =
    dite (ℕ_discrete k i)
    (λ same. (rw same (subst (λ y. slice_index ws i ≤ y) (sym (get_or-set_same ws i x 0 lt)) le), λ apart. absurd (apart same)))
    (λ apart. let e = get_or-set_other ws i k x 0 apart in (omega (arith, e), λ _. e))

-- a seat's view changes, and its slot's word rises to what all have noted then
stepped : (n : ℕ) (ws : List ℕ) (views : List NoteView) (id : ℕ) (v w : NoteView) (i x : ℕ) → IsKept n ws views → get_elem? views id ≡ some v → i < most_handles
    → slice_index ws i ≤ x → x ≡ greatest i (all_noted (slice_set views id w)) → ((k : ℕ) → k ≢ i → greatest k w.noted ≡ greatest k v.noted)
    → greatest i v.noted ≤ greatest i w.noted → w.joined ≡ v.joined → IsSeat n (slice_set ws i x) w → IsKept n (slice_set ws i x) (slice_set views id w)
stepped n ws views id v w i x kept at lt up is else_same more joined seat =
    let wide : i < length ws = omega (arith, kept.wide) in record {
      wide = length-set ws i x ∙ kept.wide;
      words = λ k few. dite (ℕ_discrete k i)
          (λ same. rw same (get_or-set_same ws i x 0 wide ∙ is))
          (λ apart. (word_set ws i k x up wide).1 apart ∙ kept.words k few ∙ omega (arith, else_same k apart, noted_more k views id v w at (omega (arith, else_same k apart)), noted_bound k views id v at));
      each = λ j u there. ⊎_elim (λ (t : (j ≡ id) × (w ≡ u)). subst (IsSeat n (slice_set ws i x)) t.1 seat)
          (λ (t : (j ≢ id) × (get_elem? views j ≡ some u)). let s = kept.each j u t.1 in record { seats = s.seats; read = λ k few. omega (arith, s.read k few, (word_set ws i k x up wide).0); spent = s.spent })
          (at_set views id j w u there);
      joined = omega (arith, joined_set views id v w at, joined, kept.joined);
    }

pub opening_keeps : (n : ℕ) → IsKept n (replicate most_handles 0) (first_seat n ∷ [])
opening_keeps n = record {
  wide = length-replicate {A = ℕ} most_handles 0;
  words = λ k few. get_or-replicate {A = ℕ} most_handles k 0 0 few;
  each = λ j v there. first_only j v there;
  joined = omega arith;
}
  where
    first : IsSeat n (replicate most_handles 0) (first_seat n)
    first = record { seats = λ _. refl; read = λ k few. omega arith; spent = λ _. refl }

    first_only : (j : ℕ) (v : NoteView) → get_elem? (first_seat n ∷ []) j ≡ some v → IsSeat n (replicate most_handles 0) v
    first_only zero v there = subst (IsSeat n (replicate most_handles 0)) (some-injective (first_seat n) v there) first
    first_only (suc j) v there = absurd (some-ne-none v (sym there))

word_up : (ws : List ℕ) (i k x : ℕ) → length ws ≡ most_handles → slice_index ws i ≤ x → i < most_handles → slice_index ws k ≤ slice_index (slice_set ws i x) k
word_up ws i k x wide le lt = (word_set ws i k x le (omega (arith, wide))).0

pub noting_keeps : (n : ℕ) (ws : List ℕ) (views : List NoteView) (id : ℕ) (v : NoteView) (i x : ℕ) → IsKept n ws views → get_elem? views id ≡ some v → i < most_handles → 0 < v.joined
    → IsKept n (slice_set ws i (max (slice_index ws i) x)) (slice_set views id (view_with v (v.noted ++ note i x ∷ []) v.read))
noting_keeps n ws views id v i x kept at lt some_seats =
    let w = view_with v (v.noted ++ note i x ∷ []) v.read in
    let s = kept.each id v at in
    let up : slice_index ws i ≤ max (slice_index ws i) x = omega arith in
    let here = greatest_here i x v.noted in
    let more : greatest i v.noted ≤ greatest i w.noted = omega (arith, here) in
    stepped n ws views id v w i (max (slice_index ws i) x) kept at lt up
    (omega (arith, here, kept.words i lt, noted_more i views id v w at more, noted_bound i views id v at))
    (λ k apart. greatest_else i k x v.noted (λ e. apart (sym e)))
    more
    refl
    (record { seats = s.seats; read = λ k few. omega (arith, s.read k few, word_up ws i k (max (slice_index ws i) x) kept.wide up lt); spent = λ none. absurd (omega (arith, none, some_seats)) })

pub loading_keeps : (n : ℕ) (ws : List ℕ) (views : List NoteView) (id : ℕ) (v : NoteView) (i : ℕ) → IsKept n ws views → get_elem? views id ≡ some v → i < most_handles
    → IsKept n (slice_set ws i (slice_index ws i)) (slice_set views id (view_with v v.noted (v.read ++ note i (slice_index ws i) ∷ [])))
    × (greatest i v.noted ≤ slice_index ws i) × (greatest i v.read ≤ slice_index ws i) × (0 < v.joined → v.joined ≡ v.seats → slice_index ws i ≡ greatest i v.noted)
loading_keeps n ws views id v i kept at lt =
    let x = slice_index ws i in
    let w = view_with v v.noted (v.read ++ note i x ∷ []) in
    let s = kept.each id v at in
    let same : slice_index ws i ≤ x = omega arith in
    let bound = noted_bound i views id v at in
    let reads : (k : ℕ) → k < most_handles → greatest k w.read ≤ slice_index (slice_set ws i x) k =
    λ k few. dite (ℕ_discrete k i)
    (λ e. rw e (omega (arith, greatest_here i x v.read, s.read i lt, word_up ws i i x kept.wide same lt)))
    (λ apart. omega (arith, greatest_else i k x v.read (λ e. apart (sym e)), s.read k few, word_up ws i k x kept.wide same lt)) in (
      stepped n ws views id v w i x kept at lt same
          (omega (arith, kept.words i lt, noted_more i views id v w at (omega arith), bound))
          (λ k apart. refl)
          (omega arith)
          refl
          (record { seats = s.seats; read = reads; spent = s.spent }),
      omega (arith, bound, kept.words i lt),
      s.read i lt,
      λ some_seats all. kept.words i lt ∙ noted_alone i n ws views id v kept at (all ∙ s.seats some_seats),
    )

pub splitting_keeps : (n : ℕ) (ws : List ℕ) (views : List NoteView) (id : ℕ) (v : NoteView) → IsKept n ws views → get_elem? views id ≡ some v → 1 < v.joined
    → IsKept n ws (slice_set views id (without_one v) ++ one_of v ∷ [])
splitting_keeps n ws views id v kept at several =
    let s = kept.each id v at in
    let left = slice_set views id (without_one v) in
    let right : IsSeat n ws (one_of v) = record { seats = λ _. s.seats (omega (arith, several)); read = λ k few. omega arith; spent = λ none. refl } in
    let rest : IsSeat n ws (without_one v) = record { seats = λ _. s.seats (omega (arith, several)); read = s.read; spent = λ none. absurd (omega (arith, none, several)) } in
    let all : (k : ℕ) → greatest k (all_noted (left ++ one_of v ∷ [])) ≡ greatest k (all_noted views) =
    λ k. ap (greatest k) (flat_map-append (λ (u : NoteView). u.noted) left (one_of v ∷ [])) ∙ omega (arith, greatest-append k (all_noted left) [], noted_more k views id v (without_one v) at (omega arith), noted_bound k views id v at) in
    record {
      wide = kept.wide;
      words = λ k few. kept.words k few ∙ sym (all k);
      each = λ j u there. ⊎_elim (λ was. ⊎_elim (λ (t : (j ≡ id) × (without_one v ≡ u)). subst (IsSeat n ws) t.1 rest) (λ (t : (j ≢ id) × (get_elem? views j ≡ some u)). kept.each j u t.1) (at_set views id j (without_one v) u was))
          (λ (same : one_of v ≡ u). subst (IsSeat n ws) same right) (at_snoc left (one_of v) u j there);
      joined = sum_by-append (λ (u : NoteView). u.joined) left (one_of v ∷ []) ∙ omega (arith, joined_set views id v (without_one v) at, kept.joined, several);
    }

pub joining_keeps : (n : ℕ) (ws : List ℕ) (views : List NoteView) (id : ℕ) (v : NoteView) (other : ℕ) (u : NoteView) → IsKept n ws views → get_elem? views id ≡ some v → 0 < v.joined
    → ¬ (other ≡ id) → get_elem? (slice_set views id (both_of v u)) other ≡ some u
    → IsKept n ws (slice_set (slice_set views id (both_of v u)) other spent_seat)
joining_keeps n ws views id v other u kept at some_seats apart there =
    let both = both_of v u in
    let mid = slice_set views id both in
    let left = slice_set mid other spent_seat in
    let was : get_elem? views other ≡ some u = sym (set_else views id other both apart) ∙ there in
    let s = kept.each id v at in
    let t = kept.each other u was in
    let seat : IsSeat n ws both = record { seats = λ _. s.seats some_seats; read = λ k few. omega (arith, greatest-append k v.read u.read, s.read k few, t.read k few); spent = λ none. absurd (omega (arith, none, some_seats)) } in
    let spent : IsSeat n ws spent_seat = record { seats = λ more. absurd (omega (arith, more)); read = λ k few. omega arith; spent = λ _. refl } in
    let still : get_elem? left id ≡ some both = set_else mid other id spent_seat (λ e. apart (sym e)) ∙ set_there views id v both at in
    let all : (k : ℕ) → greatest k (all_noted left) ≡ greatest k (all_noted views) =
    λ k.
    let joined = greatest-append k v.noted u.noted in
    omega (arith, joined, noted_more k views id v both at (omega (arith, joined)), noted_less k mid other u spent_seat there refl, noted_bound k left id both still, noted_bound k views id v at, noted_bound k views other u was) in
    record {
      wide = kept.wide;
      words = λ k few. kept.words k few ∙ sym (all k);
      each = λ j x here. ⊎_elim (λ (e : (j ≡ other) × (spent_seat ≡ x)). subst (IsSeat n ws) e.1 spent)
          (λ (e : (j ≢ other) × (get_elem? mid j ≡ some x)). ⊎_elim (λ (f : (j ≡ id) × (both ≡ x)). subst (IsSeat n ws) f.1 seat) (λ (f : (j ≢ id) × (get_elem? views j ≡ some x)). kept.each j x f.1) (at_set views id j both x e.1))
          (at_set mid other j spent_seat x here);
      joined = omega (arith, joined_set mid other u spent_seat there, joined_set views id v both at, kept.joined);
    }
