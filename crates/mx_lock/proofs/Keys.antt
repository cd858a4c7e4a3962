-- Each step keeps the rule of the lock.
use Rattle.std.proofs.Common.{◌≡◌, ◌≢◌, ◌⊎◌, inl, inr, ℕ, zero, suc, ◌+◌, ◌-◌, ◌<◌, ◌≤◌, Bool, true, false, cond, List, [], ◌∷◌, ◌++◌, length, refl, ap, sym, subst, ◌∙◌, ⊎_elim, arith, length-append, length-set}
use Rattle.std.proofs.lemmas.Bool.{ne_eqb, ltb-true, ltb-false, false≢true, cases_Bool, or_right}
use Rattle.std.proofs.lemmas.List.Folds.{list_any-append}
use Rattle.std.proofs.lemmas.List.Sums.{sum_by_push}
use Rattle.std.specs.Prelude.{slice_set, nat_lt, not}
use mathlib.Core.Option.{some, some-ne-none, some-injective}
use mathlib.Core.List.{IsPrefix}
use lib.ListN.{get_elem?}
use Rattle.atomic_table.proofs.Lists.{at_set, set_here, set_else, at_longer}
use Rattle.crossbeam_channel.specs.Fifo.{Pushes, Pops, Forks}
use Rattle.mx_types.specs.declared.names.Ticket.{Ticket}
use Rattle.mx_types.specs.declared.event.Who.{Who}
use Rattle.mx_types.specs.declared.event.Who.TheVariants as who
use Rattle.mx_types.specs.declared.event.What.{What}
use Rattle.mx_types.specs.declared.event.Event.{Event}
use Rattle.mx_journal.specs.History.{same_maker, same_ticket, has_ticket, made_by}
use Rattle.mx_journal.specs.Laws.{then, HasAtMostOneMore}
use Rattle.mx_history.proofs.Lists.{has-stays, has-append_left}
use Rattle.mx_append_log.proofs.Prefixes.{prefix_self, prefix_trans}
use Rattle.mx_lock.specs.Engine.{Content}
use Rattle.mx_lock.specs.declared.key_view.KeyView.{KeyView}
use Rattle.mx_lock.specs.Lock.{maker, engine_of, first_key, newly, Agrees, HasSeenAll, IsOwned, Lies, Keeps, Took, given, released, founded, parent, child}

abbrev Views : Type 0
Views = List KeyView

abbrev Free : Views → Type 0
Free views = (j : ℕ) (u : KeyView) → get_elem? views j ≡ some u → u.holding ≡ false

abbrev taken : KeyView → Content → KeyView
taken v c = record v { holding = true; held = c.journal; found = c.claimed }

near : (views : Views) (s : ℕ) (v : KeyView) → get_elem? views s ≡ some v → s < length views
near [] s v e = absurd (some-ne-none v (sym e))
near (x ∷ xs) zero v e = omega arith
near (x ∷ xs) (suc s) v e = let i = near xs s v e in omega (arith, i)

not_true : (b : Bool) → (b ≡ true → ⊥) → b ≡ false
not_true true n = absurd (n refl)
not_true false n = refl

-- two keys have two makers
apart_by : (j k : ℕ) (a b : Bool) → nat_lt j 16 ≡ a → nat_lt k 16 ≡ b → j ≢ k → same_maker (cond a (who.Seat j) (who.Worker (j - 16))) (cond b (who.Seat k) (who.Worker (k - 16))) ≡ false
apart_by j k true true a b ne = ne_eqb j k ne
apart_by j k true false a b ne = refl
apart_by j k false true a b ne = refl
apart_by j k false false a b ne =
    let c = ltb-false j 16 a in
    let d = ltb-false k 16 b in
    ne_eqb (j - 16) (k - 16) (λ e. ne (omega arith))

founder_apart : (k : ℕ) (b : Bool) → nat_lt k 16 ≡ b → same_maker (who.Seat 16) (cond b (who.Seat k) (who.Worker (k - 16))) ≡ false
founder_apart k true a = let lt = ltb-true k 16 a in ne_eqb 16 k (λ e. omega arith)
founder_apart k false a = refl

apart_founder : (k : ℕ) (b : Bool) → nat_lt k 16 ≡ b → same_maker (cond b (who.Seat k) (who.Worker (k - 16))) (who.Seat 16) ≡ false
apart_founder k true a = let lt = ltb-true k 16 a in ne_eqb k 16 (λ e. omega arith)
apart_founder k false a = refl

apart : (j k : ℕ) → j ≢ k → same_maker (maker j) (maker k) ≡ false
apart zero zero ne = absurd (ne refl)
apart zero (suc k) ne = founder_apart k (nat_lt k 16) refl
apart (suc j) zero ne = apart_founder j (nat_lt j 16) refl
apart (suc j) (suc k) ne = apart_by j k (nat_lt j 16) (nat_lt k 16) refl refl (λ e. ne (ap suc e))

made_then : (w v : Who) (j : List Event) (e : What) → same_maker w v ≡ false → made_by v (then j w e) ≡ made_by v j
made_then w v j e other = sum_by_push (λ (x : Event). cond (same_maker x.who v) 1 0) j (record { who = w; what = e }) ∙ ap (λ b. made_by v j + cond b 1 0) other ∙ omega arith

-- another maker has no event more
others : (s k : ℕ) (J x : List Event) → HasAtMostOneMore (maker s) J x → k ≢ s → made_by (maker k) x ≡ made_by (maker k) J
others s k J x (inl is) ne = ap (made_by (maker k)) is
others s k J x (inr t) ne = ap (made_by (maker k)) t.1 ∙ made_then (maker s) (maker k) J t.0 (apart s k (λ e. ne (sym e)))

pub longer : (w : Who) (J x : List Event) → HasAtMostOneMore w J x → IsPrefix J x
longer w J x (inl is) = subst (λ l. IsPrefix J l) (sym is) (prefix_self J)
longer w J x (inr t) = (record { who = w; what = t.0 } ∷ [], sym t.1)

same_length : (views : Views) (s : ℕ) (w : KeyView) → length (slice_set views s w) ≡ length views
same_length views s w = length-set views s w

agrees_grown : (c d : Content) (n j : ℕ) (u : KeyView) (s : ℕ) → HasAtMostOneMore (maker s) c.journal d.journal → d.engine ≡ c.engine → j ≢ s → Agrees c n j u → Agrees d n j u
agrees_grown c d n j u s g e ne a = record {
  number = a.number;
  later = prefix_trans u.seen c.journal d.journal a.later (longer (maker s) c.journal d.journal g);
  own = others s j c.journal d.journal g ne ∙ a.own;
  next = a.next;
  engine = λ t. a.engine t ∙ sym e;
  alone = a.alone;
}

-- what is claimed was found claimed, or the key has claimed it; and it has claimed all that it had
pub record Covers (v w : KeyView) (after : List Ticket) : Type 0 where
  pub stay : (t : Ticket) → has_ticket t v.claims ≡ true → has_ticket t w.claims ≡ true
  pub new : (t : Ticket) → has_ticket t after ≡ true → (has_ticket t v.found ≡ true) ⊎ (has_ticket t w.claims ≡ true)

eq_or : (i j : ℕ) → (i ≡ j) ⊎ (i ≢ j)
eq_or zero zero = inl refl
eq_or zero (suc j) = inr (λ h. omega arith)
eq_or (suc i) zero = inr (λ h. omega arith)
eq_or (suc i) (suc j) = ⊎_elim (λ e. inl (ap suc e)) (λ n. inr (λ h. n (omega arith))) (eq_or i j)

abbrev Owner : Ticket → Views → Type 0
Owner t views = (j : ℕ) × (u : KeyView) × (get_elem? views j ≡ some u) × (has_ticket t u.claims ≡ true)

-- a key's view changes, and keeps its claims
owner_stays : (views : Views) (s : ℕ) (v w : KeyView) (t : Ticket) → get_elem? views s ≡ some v → (has_ticket t v.claims ≡ true → has_ticket t w.claims ≡ true)
    → Owner t views → Owner t (slice_set views s w)
owner_stays views s v w t at stay o =
    ⊎_elim
    (λ (e : o.0 ≡ s).
    let same : o.1 ≡ v = some-injective _ _ (sym o.2 ∙ ap (get_elem? views) e ∙ at) in
    (s, w, set_here views s w (near views s v at), stay (ap (λ (k : KeyView). has_ticket t k.claims) (sym same) ∙ o.3)))
    (λ (n : o.0 ≢ s). (o.0, o.1, set_else views s o.0 w n ∙ o.2, o.3))
    (eq_or o.0 s)

owned_after : (views : Views) (s : ℕ) (v w : KeyView) (before after : List Ticket) → get_elem? views s ≡ some v → v.found ≡ before → Covers v w after → IsOwned before views → IsOwned after (slice_set views s w)
owned_after views s v w before after at found cover owned t h =
    ⊎_elim
    (λ (was : has_ticket t v.found ≡ true). owner_stays views s v w t at (cover.stay t) (owned t (ap (has_ticket t) (sym found) ∙ was)))
    (λ (mine : has_ticket t w.claims ≡ true). (s, w, set_here views s w (near views s v at), mine))
    (cover.new t h)

-- what is newly claimed goes to the key
covers_given : (v : KeyView) (c : Content) → Covers v (given v c) c.claimed
covers_given v c = record {
  stay = λ t h. has-append_left t v.claims (newly v.found c.claimed) h;
  new = λ t h. ⊎_elim (λ (is : has_ticket t v.found ≡ true). inl is)
      (λ (not_found : has_ticket t v.found ≡ false).
      inr (list_any-append (same_ticket t) v.claims (newly v.found c.claimed) ∙ or_right _ _ (has-stays t (λ u. not (has_ticket u v.found)) c.claimed h (ap not not_found))))
      (cases_Bool (has_ticket t v.found));
}

module _ {X : Type 0} (content : X → Content) (s : ℕ) (v : KeyView) where
  -- the holder is the only one
  held : (c : Content) (views : Views) → get_elem? views s ≡ some v → v.holding ≡ true → Lies content c [] views → (v.held ≡ c.journal) × (v.found ≡ c.claimed) × ((j : ℕ) (u : KeyView) → get_elem? views j ≡ some u → j ≢ s → u.holding ≡ false)
  held c views at h lies =
      let only = lies.6 in
      let here : s ≡ lies.0 = only s v at h in
      let same : v ≡ lies.1 = some-injective _ _ (sym at ∙ ap (get_elem? views) here ∙ lies.2) in
      (ap (λ (k : KeyView). k.held) same ∙ lies.4, ap (λ (k : KeyView). k.found) same ∙ lies.5, λ j u e ne. not_true u.holding (λ t. ne (only j u e t ∙ sym here)))

  -- the engine is put in, with the journal of the content d; the key's view becomes w
  puts : (n : ℕ) (x : X) (w : KeyView) → v.holding ≡ true → w.holding ≡ false → Covers v w (content x).claimed
      → ((c : Content) (views : Views) → Agrees c (length views) s v → v.held ≡ c.journal → ((content x).engine ≡ c.engine) ⊎ (length views ≡ 1))
      → ((c : Content) → v.held ≡ c.journal → HasAtMostOneMore (maker s) c.journal (content x).journal)
      → ((c : Content) (m : ℕ) → v.held ≡ c.journal → Agrees c m s v → Agrees (content x) m s w)
      → ((c : Content) (m : ℕ) → v.held ≡ c.journal → made_by (maker m) c.journal ≡ made_by (maker m) v.seen → made_by (maker m) (content x).journal ≡ made_by (maker m) w.seen)
      → Pushes (Keeps content) n s v x (λ u. u ≡ w)
  puts n x w h free cover one grow self shown (y ∷ items) views few k at = absurd (cc (h, k.1.2 s v at))
  puts n x w h free cover one grow self shown [] views few k at =
      let c = k.0 in
      let d = content x in
      let mine = k.2 s v at in
      let only = held c views at h k.1 in
      let g = grow c only.0 in
      let len = same_length views s w in
      let in_ = near views s v at in
      let out : Free (slice_set views s w) = λ j u e. ⊎_elim (λ (t : (j ≡ s) × (w ≡ u)). ap (λ (z : KeyView). z.holding) (sym t.1) ∙ free) (λ (t : (j ≢ s) × (get_elem? views j ≡ some u)). only.2 j u t.1 t.0) (at_set views s j w u e) in
      let new : Agrees d (length views) s w = self c (length views) only.0 mine in
      let old : (j : ℕ) (u : KeyView) → j ≢ s → get_elem? views j ≡ some u → Agrees d (length views) j u =
      λ j u ne e. ⊎_elim (λ (same : d.engine ≡ c.engine). agrees_grown c d (length views) j u s g same ne (k.2 j u e))
      (λ (single : length views ≡ 1). let there = near views j u e in absurd (ne (omega arith))) (one c views mine only.0) in
      let all : (j : ℕ) (u : KeyView) → get_elem? (slice_set views s w) j ≡ some u → Agrees d (length (slice_set views s w)) j u =
      λ j u e. subst (λ m. Agrees d m j u) (sym len)
      (⊎_elim (λ (t : (j ≡ s) × (w ≡ u)). subst (λ z. Agrees d (length views) j z) t.1 (subst (λ i. Agrees d (length views) i w) (sym t.0) new))
      (λ (t : (j ≢ s) × (get_elem? views j ≡ some u)). old j u t.0 t.1) (at_set views s j w u e)) in
      let none : HasSeenAll (slice_set views s w) d =
      λ m le j u e. let far : length views ≤ m = omega (arith, len, le) in
      ⊎_elim (λ (t : (j ≡ s) × (w ≡ u)). shown c m only.0 (k.3 m far s v at) ∙ ap (λ (z : KeyView). made_by (maker m) z.seen) t.1)
      (λ (t : (j ≢ s) × (get_elem? views j ≡ some u)). others s m c.journal d.journal g (λ same. omega (arith, far, in_, same)) ∙ k.3 m far j u t.1) (at_set views s j w u e) in
      let owned : IsOwned d.claimed (slice_set views s w) = owned_after views s v w c.claimed d.claimed at only.1 cover k.4 in
      (w, (d, (refl, refl, out), all, none, owned), refl)

  pub pushes : (n : ℕ) (x : X) → v.holding ≡ true → v.told ≡ true → engine_of v ≡ (content x).engine → HasAtMostOneMore (maker v.number) v.held (content x).journal → Pushes (Keeps content) n s v x (λ w. w ≡ given v (content x))
  pushes n x h told same g =
      λ items views few k at.
      let mine = k.2 s v at in
      let number : v.number ≡ s = mine.number in
      puts n x (given v (content x)) h refl (covers_given v (content x))
      (λ c vs a e. inl (sym same ∙ a.engine told))
      (λ c e. subst (λ j. HasAtMostOneMore (maker s) j (content x).journal) e (subst (λ (m : ℕ). HasAtMostOneMore (maker m) v.held (content x).journal) number g))
      (λ c m e a. record { number = a.number; later = prefix_self (content x).journal; own = refl; next = a.next; engine = λ _. same; alone = a.alone })
      (λ c m e had. refl)
      items views few k at

  pub puts_back : (n : ℕ) (x : X) → v.holding ≡ true → v.told ≡ true → engine_of v ≡ (content x).engine → (content x).journal ≡ v.held → (content x).claimed ≡ v.found → Pushes (Keeps content) n s v x (λ w. w ≡ released v)
  puts_back n x h told same is all =
      puts n x (released v) h refl (record { stay = λ t had. had; new = λ t now. inl (ap (has_ticket t) (sym all) ∙ now) })
      (λ c vs a e. inl (sym same ∙ a.engine told))
      (λ c e. inl (is ∙ e))
      (λ c m e a. record {
        number = a.number;
        later = subst (λ j. IsPrefix v.seen j) (sym (is ∙ e)) a.later;
        own = ap (made_by (maker s)) (is ∙ e) ∙ a.own;
        next = a.next;
        engine = λ _. same;
        alone = a.alone;
      })
      (λ c m e had. ap (made_by (maker m)) (is ∙ e) ∙ had)

  pub pops : v.holding ≡ false → v.told ≡ true → Pops (Keeps content) s v (Took content v)
  pops h told x items views k at =
      let c = k.0 in
      let lies = k.1 in
      let is : content x ≡ c = lies.1 in
      let w = taken v (content x) in
      let len = same_length views s w in
      let mine = k.2 s v at in
      let self : Agrees c (length views) s w = record { number = mine.number; later = mine.later; own = mine.own; next = mine.next; engine = mine.engine; alone = mine.alone } in
      let all : (j : ℕ) (u : KeyView) → get_elem? (slice_set views s w) j ≡ some u → Agrees c (length (slice_set views s w)) j u =
      λ j u e. subst (λ m. Agrees c m j u) (sym len)
      (⊎_elim (λ (t : (j ≡ s) × (w ≡ u)). subst (λ z. Agrees c (length views) j z) t.1 (subst (λ i. Agrees c (length views) i w) (sym t.0) self))
      (λ (t : (j ≢ s) × (get_elem? views j ≡ some u)). k.2 j u t.1) (at_set views s j w u e)) in
      let only : (j : ℕ) (u : KeyView) → get_elem? (slice_set views s w) j ≡ some u → u.holding ≡ true → j ≡ s =
      λ j u e t. ⊎_elim (λ (a : (j ≡ s) × (w ≡ u)). a.0) (λ (a : (j ≢ s) × (get_elem? views j ≡ some u)). absurd (cc (t, lies.2 j u a.1))) (at_set views s j w u e) in
      let here : get_elem? (slice_set views s w) s ≡ some w = set_here views s w (near views s v at) in
      let out : Lies content c [] (slice_set views s w) = (s, w, here, refl, ap (λ (d : Content). d.journal) is, ap (λ (d : Content). d.claimed) is, only) in
      let owned : IsOwned c.claimed (slice_set views s w) = λ t has. owner_stays views s v w t (at) (λ had. had) (k.4 t has) in
      let none : HasSeenAll (slice_set views s w) c =
      λ m le j u e. let far : length views ≤ m = omega (arith, len, le) in
      ⊎_elim (λ (t : (j ≡ s) × (w ≡ u)). k.3 m far s v at ∙ ap (λ (z : KeyView). made_by (maker m) z.seen) t.1) (λ (t : (j ≢ s) × (get_elem? views j ≡ some u)). k.3 m far j u t.1) (at_set views s j w u e) in
      let took : Took content v x w = record {
        later = subst (λ (d : Content). IsPrefix v.seen d.journal) (sym is) mine.later;
        own = ap (λ (d : Content). made_by (maker v.number) d.journal) is ∙ subst (λ m. made_by (maker m) c.journal ≡ made_by (maker m) v.seen) (sym mine.number) mine.own;
        engine = mine.engine told ∙ ap (λ (d : Content). d.engine) (sym is);
        is = refl;
      } in
      (w, (c, subst (λ l. Lies content c l (slice_set views s w)) (sym lies.0) out, all, none, owned), took)

  at_end : (views : Views) (a b : KeyView) (j : ℕ) → get_elem? (views ++ a ∷ []) j ≡ some b → ((j ≢ length views) × (get_elem? views j ≡ some b)) ⊎ ((j ≡ length views) × (a ≡ b))
  at_end [] a b zero e = inr (refl, some-injective a b e)
  at_end [] a b (suc j) e = absurd (some-ne-none b (sym e))
  at_end (x ∷ xs) a b zero e = inl ((λ h. omega arith), e)
  at_end (x ∷ xs) a b (suc j) e = ⊎_elim (λ t. let n = t.0 in inl ((λ h. n (omega arith)), t.1)) (λ t. inr (ap suc t.0, t.1)) (at_end xs a b j e)

  pub forks : v.next ≢ 0 → v.told ≡ true → Forks (Keeps content) s v (parent v) (child v)
  forks may told items views k at =
      let c = k.0 in
      let l = parent v in
      let r = child v in
      let mine = k.2 s v at in
      let root = mine.next may in
      let now = slice_set views s l in
      let in_ = near views s v at in
      let len : length now ≡ length views = same_length views s l in
      let all_len : length (now ++ r ∷ []) ≡ suc (length views) = omega (arith, len, length-append now (r ∷ [])) in
      let self : Agrees c (suc (length views)) s l = record { number = mine.number; later = mine.later; own = mine.own; next = λ _. (omega (arith, root.0), root.1); engine = mine.engine; alone = λ e. absurd (cc (e, told)) } in
      let new : Agrees c (suc (length views)) (length now) r = record { number = root.0 ∙ sym len; later = mine.later; own = k.3 (length now) (omega (arith, len)) s v at; next = λ n. absurd (n refl); engine = mine.engine; alone = λ e. absurd (cc (e, told)) } in
      let old : (j : ℕ) (u : KeyView) → j ≢ s → get_elem? views j ≡ some u → Agrees c (suc (length views)) j u =
      λ j u ne e. let a = k.2 j u e in let there = near views j u e in
      record { number = a.number; later = a.later; own = a.own; next = λ n. absurd (ne ((a.next n).1 ∙ sym root.1)); engine = a.engine; alone = λ f. let one = a.alone f in absurd (ne (omega arith)) } in
      let all : (j : ℕ) (u : KeyView) → get_elem? (now ++ r ∷ []) j ≡ some u → Agrees c (length (now ++ r ∷ [])) j u =
      λ j u e. subst (λ m. Agrees c m j u) (sym all_len)
      (⊎_elim (λ (t : (j ≢ length now) × (get_elem? now j ≡ some u)).
      ⊎_elim (λ (a : (j ≡ s) × (l ≡ u)). subst (λ z. Agrees c (suc (length views)) j z) a.1 (subst (λ i. Agrees c (suc (length views)) i l) (sym a.0) self)) (λ (a : (j ≢ s) × (get_elem? views j ≡ some u)). old j u a.0 a.1) (at_set views s j l u t.1))
      (λ (t : (j ≡ length now) × (r ≡ u)). subst (λ z. Agrees c (suc (length views)) j z) t.1 (subst (λ i. Agrees c (suc (length views)) i r) (sym t.0) new)) (at_end now r u j e)) in
      let none : HasSeenAll (now ++ r ∷ []) c =
      λ m le j u e. let far : length views ≤ m = omega (arith, all_len, le) in let here = k.3 m far s v at in
      ⊎_elim (λ (t : (j ≢ length now) × (get_elem? now j ≡ some u)).
      ⊎_elim (λ (a : (j ≡ s) × (l ≡ u)). here ∙ ap (λ (z : KeyView). made_by (maker m) z.seen) a.1) (λ (a : (j ≢ s) × (get_elem? views j ≡ some u)). k.3 m far j u a.1) (at_set views s j l u t.1))
      (λ (t : (j ≡ length now) × (r ≡ u)). here ∙ ap (λ (z : KeyView). made_by (maker m) z.seen) t.1) (at_end now r u j e) in
      let owned : IsOwned c.claimed (now ++ r ∷ []) = λ t has. let o = owner_stays views s v l t at (λ had. had) (k.4 t has) in (o.0, o.1, at_longer now (r ∷ []) o.0 o.1 o.2, o.3) in
      (c, stays items k.1, all, none, owned)
    where
      back : (j : ℕ) (u : KeyView) → get_elem? (slice_set views s (parent v) ++ child v ∷ []) j ≡ some u → u.holding ≡ true → (z : KeyView) × (get_elem? views j ≡ some z) × (z.holding ≡ true)
      back j u e t =
          ⊎_elim (λ (a : (j ≢ length (slice_set views s (parent v))) × (get_elem? (slice_set views s (parent v)) j ≡ some u)).
          ⊎_elim (λ (b : (j ≡ s) × (parent v ≡ u)). (v, ap (get_elem? views) b.0 ∙ at, ap (λ (z : KeyView). z.holding) b.1 ∙ t)) (λ (b : (j ≢ s) × (get_elem? views j ≡ some u)). (u, b.1, t)) (at_set views s j (parent v) u a.1))
          (λ (a : (j ≡ length (slice_set views s (parent v))) × (child v ≡ u)). absurd (cc (ap (λ (z : KeyView). z.holding) a.1, t))) (at_end (slice_set views s (parent v)) (child v) u j e)

      stays : (is : List X) → Lies content k.0 is views → Lies content k.0 is (slice_set views s (parent v) ++ child v ∷ [])
      stays (x ∷ rest) lies = (lies.0, lies.1, λ j u e. not_true u.holding (λ t. let b = back j u e t in absurd (cc (b.2, lies.2 j b.0 b.1))))
      stays [] lies = keeper (eq_or lies.0 s)
        where
          z : KeyView
          z = lies.1

          only : (j : ℕ) (u : KeyView) → get_elem? (slice_set views s (parent v) ++ child v ∷ []) j ≡ some u → u.holding ≡ true → j ≡ lies.0
          only j u e t = let b = back j u e t in lies.6 j b.0 b.1 b.2

          keeper : (lies.0 ≡ s) ⊎ (lies.0 ≢ s) → Lies content k.0 [] (slice_set views s (parent v) ++ child v ∷ [])
          keeper (inl e) =
              let same : v ≡ z = some-injective _ _ (sym at ∙ ap (get_elem? views) (sym e) ∙ lies.2) in
              (lies.0, parent v, at_longer (slice_set views s (parent v)) (child v ∷ []) lies.0 (parent v) (ap (get_elem? (slice_set views s (parent v))) e ∙ set_here views s (parent v) (near views s v at)), ap (λ (w : KeyView). w.holding) same ∙ lies.3, ap (λ (w : KeyView). w.held) same ∙ lies.4, ap (λ (w : KeyView). w.found) same ∙ lies.5, only)
          keeper (inr n) = (lies.0, z, at_longer (slice_set views s (parent v)) (child v ∷ []) lies.0 z (set_else views s lies.0 (parent v) n ∙ lies.2), lies.3, lies.4, lies.5, only)

one_key : (j : ℕ) (u : KeyView) → get_elem? (first_key ∷ []) j ≡ some u → (j ≡ 0) × (first_key ≡ u)
one_key zero u e = (refl, some-injective _ _ e)
one_key (suc j) u e = absurd (some-ne-none u (sym e))

module _ {X : Type 0} (content : X → Content) where
  pub begins : Keeps content [] (first_key ∷ [])
  begins =
      let c : Content = record { journal = []; engine = engine_of first_key; claimed = [] } in (
        c,
        (0, first_key, refl, refl, refl, refl, λ j u e t. (one_key j u e).0),
        (λ j u e. let o = one_key j u e in subst (λ z. Agrees c 1 j z) o.1 (subst (λ i. Agrees c 1 i first_key) (sym o.0) (record { number = refl; later = ([], refl); own = refl; next = λ _. (refl, refl); engine = λ t. absurd (cc (t)); alone = λ _. refl }))),
        (λ m le j u e. ap (λ (z : KeyView). made_by (maker m) z.seen) (one_key j u e).1),
        λ t h. absurd (false≢true h),
      )

  -- the only key puts in the engine that it founds with
  pub founds : (n s : ℕ) (x : X) → Pushes (Keeps content) n s first_key x (λ w. w ≡ founded (content x))
  founds n s x (y ∷ items) views few k at = absurd (false≢true (sym (k.1.2 s first_key at)))
  founds n s x [] views few k at =
      let d = content x in
      let w = founded d in
      let mine = k.2 s first_key at in
      let single : length views ≡ 1 = mine.alone refl in
      let first : s ≡ 0 = sym mine.number in
      let len = same_length views s w in
      let in_ = near views s first_key at in
      let alone : (j : ℕ) (u : KeyView) → j ≢ s → get_elem? views j ≡ some u → ⊥ = λ j u ne e. let there = near views j u e in ne (omega (arith, there, single, first)) in
      let only : (j : ℕ) (u : KeyView) → get_elem? (slice_set views s w) j ≡ some u → (j ≡ s) × (w ≡ u) =
      λ j u e. ⊎_elim (λ (t : (j ≡ s) × (w ≡ u)). t) (λ (t : (j ≢ s) × (get_elem? views j ≡ some u)). absurd (alone j u t.0 t.1)) (at_set views s j w u e) in
      let self : Agrees d 1 0 w = record { number = refl; later = prefix_self d.journal; own = refl; next = λ _. (refl, refl); engine = λ _. refl; alone = λ f. absurd (cc (f)) } in
      let all : (j : ℕ) (u : KeyView) → get_elem? (slice_set views s w) j ≡ some u → Agrees d (length (slice_set views s w)) j u =
      λ j u e. let o = only j u e in subst (λ m. Agrees d m j u) (sym (len ∙ single)) (subst (λ z. Agrees d 1 j z) o.1 (subst (λ i. Agrees d 1 i w) (sym (o.0 ∙ first)) self)) in
      let none : HasSeenAll (slice_set views s w) d = λ m le j u e. ap (λ (z : KeyView). made_by (maker m) z.seen) (only j u e).1 in
      let free : Free (slice_set views s w) = λ j u e. ap (λ (z : KeyView). z.holding) (sym (only j u e).1) in
      (w, (d, (refl, refl, free), all, none, λ t has. (s, w, set_here views s w in_, has)), refl)
