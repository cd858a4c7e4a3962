-- The slots of a legal history.
use Rattle.std.proofs.Common.{◌≡◌, ℕ, ◌+◌, ◌<◌, ◌≤◌, ◌∙◌, sym, refl, ap, subst, List, [], ◌∷◌, ◌++◌, append-nil, append_assoc, length, Bool, true, false, cond, map, arith, inl, inr}
use Rattle.std.specs.Prelude.{nat_le, zero, suc, not, ◌&&◌, ◌||◌, ◌==◌, nat_lt, Option, Some, None}
use Rattle.std.specs.List.{filter, list_any, find}
use Rattle.std.specs.Option.{IsSomeAnd, option_map, unwrap_or}
use Rattle.std.proofs.lemmas.Bool.{cases_eq, cases_Bool, eqb-true, eqb-false, ne_eqb, ltb-true, leb-true, and_parts, false_from_ne_true, false≢true, or_left, or_right}
use Rattle.std.proofs.lemmas.List.{map-append, length-map}
use Rattle.std.proofs.lemmas.List.Folds.{list_any-append}
use Rattle.std.proofs.lemmas.List.Sums.{length-filter, count_by-le-length}
use Rattle.mx_types.specs.Limits.{most_handles}
use Rattle.mx_types.specs.declared.names.HandleId.{HandleId}
use Rattle.mx_types.specs.declared.names.Ticket.{Ticket}
use Rattle.mx_types.specs.declared.event.Who.{Who}
use Rattle.mx_types.specs.declared.event.What.{What}
use Rattle.mx_types.specs.declared.event.What.TheVariants as what
use Rattle.mx_types.specs.declared.event.Event.{Event}
use Rattle.mx_history.specs.History.{Addition, same_ticket, added, beyond, has_handle, has_ticket, may_follow, is_legal, is_legal_after}
use Rattle.mx_history.specs.Slots.{has_slot, free_from, lowest_free, slots_after, slots_from, slots, slot_of}
use Rattle.mx_history.specs.Laws.{then, IsOncePerSlot, HasOwnSlots, SlotsDiffer, IsLeastFree, AdditionTakesLeastSlot}
use Rattle.mx_history.proofs.Snoc.{legal-snoc}
use Rattle.mx_history.proofs.Lists.{Each-append, Each-filter, filter_true, filter_idle, same-refl}
use Rattle.mx_history.proofs.Histories.{tickets, laws, below}
use Rattle.mx_history.proofs.Tickets.{queued-filter, tickets-then}
use Rattle.mx_history.proofs.SlotLists.{free_from-none, free_from-taken, free_from-free, lowest_free-is}

-- 1. The least free slot.

-- what a search of n numbers from `start` on finds: none is free, or the first that is
abbrev Searched : ℕ → ℕ → List (Ticket × ℕ) → Option ℕ → Type 0
Searched start n s None = (k : ℕ) → start ≤ k → k < start + n → has_slot k s ≡ true
Searched start n s (Some m) = (m < start + n) × (has_slot m s ≡ false) × ((k : ℕ) → start ≤ k → k < m → has_slot k s ≡ true)

past_first : (start k : ℕ) (s : List (Ticket × ℕ)) → has_slot start s ≡ true → start ≤ k → (start + 1 ≤ k → has_slot k s ≡ true) → has_slot k s ≡ true
past_first start k s h from later =
    elim (cases_eq start k) [
      | inl e ↦ subst (λ n. has_slot n s ≡ true) e h
      | inr ne ↦ elim (cases_Bool (start == k)) [ inl e ↦ absurd (ne (eqb-true start k e)) | inr off ↦ later (past start k ne from) ]
    ]
  where
    past : (a b : ℕ) → (a ≡ b → ⊥) → a ≤ b → a + 1 ≤ b
    past a b ne le = omega (arith, ne, le)

searched_more : (start n : ℕ) (s : List (Ticket × ℕ)) (o : Option ℕ) → has_slot start s ≡ true → Searched (start + 1) n s o → Searched start (suc n) s o
searched_more start n s None h a = λ k from lt. past_first start k s h from (λ past. a k past (omega arith))
searched_more start n s (Some m) h a = let b = a.0 in (omega arith, a.1, λ k from lt. past_first start k s h from (λ past. a.2 k past lt))

searched : (start n : ℕ) (s : List (Ticket × ℕ)) → Searched start n s (free_from start n s)
searched start zero s = subst (Searched start zero s) (sym (free_from-none start s)) (λ k from lt. absurd (omega arith))
searched start (suc n) s =
    elim (cases_Bool (has_slot start s)) [
      | inl h ↦ subst (Searched start (suc n) s) (sym (free_from-taken start n s h)) (searched_more start n s (free_from (start + 1) n s) h (searched (start + 1) n s))
      | inr h ↦ subst (Searched start (suc n) s) (sym (free_from-free start n s h)) (omega arith, h, λ k from lt. absurd (omega arith))
    ]

-- a filter drops what is in the list
left_over : (p : Ticket × ℕ → Bool) (s : List (Ticket × ℕ)) → length (filter (λ x. not (p x)) s) ≤ length s
left_over p s = omega (arith, length-filter (λ x. not (p x)) s, count_by-le-length (λ x. not (p x)) s)

fewer_left : (p : Ticket × ℕ → Bool) (s : List (Ticket × ℕ)) → list_any p s ≡ true → length (filter (λ x. not (p x)) s) + 1 ≤ length s
fewer_left p [] h = absurd (false≢true h)
fewer_left p (x ∷ s) h = go (p x) h (fewer_left p s) (left_over p s) where
  go : (b : Bool) → (b || list_any p s) ≡ true → (list_any p s ≡ true → length (filter (λ y. not (p y)) s) + 1 ≤ length s) → length (filter (λ y. not (p y)) s) ≤ length s
      → length (cond (not b) (x ∷ filter (λ y. not (p y)) s) (filter (λ y. not (p y)) s)) + 1 ≤ length (x ∷ s)
  go true k r le = omega arith
  go false k r le = let l = r k in omega arith

-- another slot stays
slot_stays : (k n : ℕ) (s : List (Ticket × ℕ)) → k < n → has_slot k s ≡ true → has_slot k (filter (λ x. not (x.1 == n)) s) ≡ true
slot_stays k n [] lt h = h
slot_stays k n (x ∷ s) lt h = go (x.1 == n) (x.1 == k) refl refl h (slot_stays k n s lt) where
  go : (b c : Bool) → (x.1 == n) ≡ b → (x.1 == k) ≡ c → (c || has_slot k s) ≡ true → (has_slot k s ≡ true → has_slot k (filter (λ y. not (y.1 == n)) s) ≡ true)
      → has_slot k (cond (not b) (x ∷ filter (λ y. not (y.1 == n)) s) (filter (λ y. not (y.1 == n)) s)) ≡ true
  go true true e d h r = let y = eqb-true x.1 n e in let z = eqb-true x.1 k d in absurd (omega arith)
  go true false e d h r = r h
  go false true e d h r = or_left _ _ d
  go false false e d h r = or_right _ _ (r h)

-- n slots that are taken are taken by n tickets
all_taken : (n : ℕ) (s : List (Ticket × ℕ)) → ((k : ℕ) → k < n → has_slot k s ≡ true) → n ≤ length s
all_taken zero s h = omega arith
all_taken (suc n) s h =
    let k = all_taken n (filter (λ x. not (x.1 == n)) s) (λ k lt. slot_stays k n s lt (h k (omega arith))) in
    let l = fewer_left (λ x. x.1 == n) s (h n (omega arith)) in
    omega (arith, k, l)

pub lowest_is_least : (s : List (Ticket × ℕ)) → length s < most_handles → IsLeastFree s (lowest_free s)
lowest_is_least s few = subst (IsLeastFree s) (lowest_free-is s) (go (free_from 0 most_handles s) (searched 0 most_handles s)) where
  go : (o : Option ℕ) → Searched 0 most_handles s o → IsLeastFree s (unwrap_or o 255)
  go None a = absurd (let k = all_taken most_handles s (λ k lt. a k (omega arith) (omega arith)) in omega (arith, k, few))
  go (Some m) a = let b = a.0 in record { below = omega arith; free = a.1; least = λ k lt. a.2 k (omega arith) lt }

-- 2. The slots after an event.

pub slots_from-snoc : (s : List (Ticket × ℕ)) (j : List Event) (e : Event) → slots_from s (j ++ e ∷ []) ≡ slots_after (slots_from s j) e.what
slots_from-snoc s [] e = refl
slots_from-snoc s (x ∷ j) e = slots_from-snoc (slots_after s x.what) j e

pub slots-then : (j : List Event) (w : Who) (e : What) → slots (then j w e) ≡ slots_after (slots j) e
slots-then j w e = slots_from-snoc [] j (record { who = w; what = e })

either_off : (a b : Bool) → (a || b) ≡ false → (a ≡ false) × (b ≡ false)
either_off false false h = (refl, refl)
either_off false true h = absurd (false≢true (sym h))
either_off true b h = absurd (false≢true (sym h))

slot_flip : (m n : ℕ) → (m == n) ≡ false → (n == m) ≡ false
slot_flip m n h = ne_eqb n m (λ e. eqb-false m n h (sym e))

once_push : (s : List (Ticket × ℕ)) (t : Ticket) (n : ℕ) → IsOncePerSlot s → has_slot n s ≡ false → IsOncePerSlot (s ++ (t, n) ∷ [])
once_push [] t n o h = (refl, tt)
once_push (x ∷ s) t n o h =
    let k = either_off (x.1 == n) (has_slot n s) h in (
      list_any-append (λ (y : Ticket × ℕ). y.1 == x.1) s ((t, n) ∷ []) ∙ ap (λ b. b || ((n == x.1) || false)) o.0 ∙ ap (λ b. b || false) (slot_flip x.1 n k.0),
      once_push s t n o.1 k.1,
    )

slot_off : (n : ℕ) (p : Ticket × ℕ → Bool) (s : List (Ticket × ℕ)) → has_slot n s ≡ false → has_slot n (filter p s) ≡ false
slot_off n p [] h = refl
slot_off n p (x ∷ s) h = let k = either_off (x.1 == n) (has_slot n s) h in go (p x) k.0 (slot_off n p s k.1) where
  go : (b : Bool) → (x.1 == n) ≡ false → has_slot n (filter p s) ≡ false → has_slot n (cond b (x ∷ filter p s) (filter p s)) ≡ false
  go true off r = ap (λ b. b || has_slot n (filter p s)) off ∙ r
  go false off r = r

once_filter : (p : Ticket × ℕ → Bool) (s : List (Ticket × ℕ)) → IsOncePerSlot s → IsOncePerSlot (filter p s)
once_filter p [] o = tt
once_filter p (x ∷ s) o = go (p x) (slot_off x.1 p s o.0) (once_filter p s o.1) where
  go : (b : Bool) → has_slot x.1 (filter p s) ≡ false → IsOncePerSlot (filter p s) → IsOncePerSlot (cond b (x ∷ filter p s) (filter p s))
  go true off r = (off, r)
  go false off r = r

-- as many slots as added handles
slots_few : (j : List Event) → HasOwnSlots j → length (slots j) ≡ length (added j)
slots_few j o =
    sym (length-map (slots j) (λ (x : Ticket × ℕ). x.0)) ∙ ap length o.tickets ∙ length-map (added j) (λ (a : Addition). a.ticket)

pub may_add_few : (j : List Event) (h : HandleId) (t : Ticket) → may_follow j (what.Added h t) ≡ true → (length (added j) < most_handles) × (beyond j ≤ t.0)
may_add_few j h t m =
    let k = and_parts (not (has_handle h (added j)) && nat_lt (length (added j)) most_handles) (nat_le (beyond j) t.0) m in
    (ltb-true (length (added j)) most_handles (and_parts (not (has_handle h (added j))) (nat_lt (length (added j)) most_handles) k.0).1, leb-true (beyond j) t.0 k.1)

-- an event that adds and removes nothing
own_same : (j : List Event) (w : Who) (e : What) → slots_after (slots j) e ≡ slots j → tickets (then j w e) ≡ tickets j → HasOwnSlots j → HasOwnSlots (then j w e)
own_same j w e same kept o =
    let s : slots (then j w e) ≡ slots j = slots-then j w e ∙ same in
    record {
      tickets = ap (map (λ (x : Ticket × ℕ). x.0)) s ∙ o.tickets ∙ sym kept;
      below = rw s o.below;
      differ = rw s o.differ;
    }

own-then : (j : List Event) (w : Who) (e : What) → may_follow j e ≡ true → HasOwnSlots j → HasOwnSlots (then j w e)
own-then j w (what.Added h t) m o =
    let e = what.Added h t in
    let few = (may_add_few j h t m).0 in
    let l = lowest_is_least (slots j) (omega (arith, few, slots_few j o)) in
    record {
      tickets = ap (map (λ (x : Ticket × ℕ). x.0)) (slots-then j w e) ∙ map-append (λ (x : Ticket × ℕ). x.0) (slots j) ((t, lowest_free (slots j)) ∷ [])
          ∙ ap (λ z. z ++ t ∷ []) o.tickets ∙ sym (tickets-then j w e ∙ ap (λ z. z ++ t ∷ []) (filter_true (tickets j)));
      below = rw (slots-then j w e) (Each-append (λ (x : Ticket × ℕ). x.1 < most_handles) (slots j) ((t, lowest_free (slots j)) ∷ []) o.below (l.below, tt));
      differ = rw (slots-then j w e) (once_push (slots j) t (lowest_free (slots j)) o.differ l.free);
    }
own-then j w (what.Removed h t) m o =
    let e = what.Removed h t in
    record {
      tickets = ap (map (λ (x : Ticket × ℕ). x.0)) (slots-then j w e) ∙ queued-filter (λ u. not (same_ticket u t)) (slots j)
          ∙ ap (filter (λ u. not (same_ticket u t))) o.tickets ∙ sym (tickets-then j w e ∙ append-nil _);
      below = rw (slots-then j w e) (Each-filter (λ (x : Ticket × ℕ). not (same_ticket x.0 t)) (λ x. x.1 < most_handles) (λ x. x.1 < most_handles) (λ _ _ lt. lt) (slots j) o.below);
      differ = rw (slots-then j w e) (once_filter (λ x. not (same_ticket x.0 t)) (slots j) o.differ);
    }
own-then j w (what.Done t c n) m o = own_same j w (what.Done t c n) refl (tickets-then j w (what.Done t c n) ∙ filter_idle (tickets j)) o
own-then j w (what.Read t) m o = own_same j w (what.Read t) refl (tickets-then j w (what.Read t) ∙ filter_idle (tickets j)) o
own-then j w (what.Paused t) m o = own_same j w (what.Paused t) refl (tickets-then j w (what.Paused t) ∙ filter_idle (tickets j)) o
own-then j w (what.Resumed t) m o = own_same j w (what.Resumed t) refl (tickets-then j w (what.Resumed t) ∙ filter_idle (tickets j)) o
own-then j w what.Wake m o = own_same j w what.Wake refl (tickets-then j w what.Wake ∙ filter_idle (tickets j)) o

own_from : (f j : List Event) → HasOwnSlots f → is_legal_after f j ≡ true → HasOwnSlots (f ++ j)
own_from f [] o h = rw (append-nil f) o
own_from f (e ∷ j) o h =
    let k = and_parts (may_follow f e.what) (is_legal_after (f ++ e ∷ []) j) h in
    rw (← append_assoc f (e ∷ []) j) (own_from (f ++ e ∷ []) j (own-then f e.who e.what k.0 o) k.1)

pub slots_differ : SlotsDiffer
slots_differ j h = own_from [] j (record { tickets = refl; below = tt; differ = tt }) h

-- 3. A new addition's slot.

has_in : (t : Ticket) (s : List (Ticket × ℕ)) → has_ticket t (map (λ x. x.0) s) ≡ list_any (λ x. same_ticket t x.0) s
has_in t [] = refl
has_in t (x ∷ s) = ap (λ b. same_ticket t x.0 || b) (has_in t s)

found_last : (t : Ticket) (n : ℕ) (s : List (Ticket × ℕ)) → list_any (λ x. same_ticket t x.0) s ≡ false → find (λ (x : Ticket × ℕ). same_ticket t x.0) (s ++ (t, n) ∷ []) ≡ Some (t, n)
found_last t n [] h = ap (λ (b : Bool). cond {A = Option (Ticket × ℕ)} b (Some (t, n)) None) (same-refl t)
found_last t n (x ∷ s) h =
    let k = either_off (same_ticket t x.0) (list_any (λ x. same_ticket t x.0) s) h in
    ap (λ (b : Bool). cond {A = Option (Ticket × ℕ)} b (Some x) (find (λ (y : Ticket × ℕ). same_ticket t y.0) (s ++ (t, n) ∷ []))) k.0 ∙ found_last t n s k.1

pub addition_takes_least_slot : AdditionTakesLeastSlot
addition_takes_least_slot j w h t l =
    let e = what.Added h t in
    let k = and_parts (is_legal j) (may_follow j e) (sym (legal-snoc j (record { who = w; what = e })) ∙ l) in
    let o = slots_differ j k.0 in
    let m = may_add_few j h t k.1 in
    let least = lowest_is_least (slots j) (omega (arith, m.0, slots_few j o)) in
    let fresh : has_ticket t (tickets j) ≡ false =
    false_from_ne_true _ (λ y. let lt = below j (laws j k.0) t y in omega (arith, lt, m.1)) in
    let none : list_any (λ x. same_ticket t x.0) (slots j) ≡ false = sym (has_in t (slots j)) ∙ ap (has_ticket t) o.tickets ∙ fresh in
    let is : slot_of t (then j w e) ≡ Some (lowest_free (slots j)) =
    ap (λ (s : List (Ticket × ℕ)). option_map (λ (x : Ticket × ℕ). x.1) (find (λ (x : Ticket × ℕ). same_ticket t x.0) s)) (slots-then j w e)
    ∙ ap (option_map (λ (x : Ticket × ℕ). x.1)) (found_last t (lowest_free (slots j)) (slots j) none) in
    subst (λ (q : Option ℕ). IsSomeAnd q (IsLeastFree (slots j))) (sym is) least
