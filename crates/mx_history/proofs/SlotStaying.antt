-- An added ticket keeps its slot.
use Rattle.std.proofs.Common.{◌≡◌, ℕ, ◌<◌, ◌∙◌, ◌⊎◌, inl, inr, sym, refl, ap, List, [], ◌∷◌, ◌++◌, append-nil, append_assoc, Bool, true, false, cond, map, arith}
use Rattle.std.specs.Prelude.{not, ◌||◌, Option, Some, None}
use Rattle.std.specs.List.{filter, find}
use Rattle.std.specs.Option.{is_some, option_map, unwrap_or}
use Rattle.std.proofs.lemmas.Bool.{cases_Bool, ne_eqb, and_parts, false≢true, or_left, or_right}
use Rattle.mx_types.specs.declared.names.Ticket.{Ticket}
use Rattle.mx_types.specs.declared.event.Who.{Who}
use Rattle.mx_types.specs.declared.event.What.{What}
use Rattle.mx_types.specs.declared.event.What.TheVariants as what
use Rattle.mx_types.specs.declared.event.Event.{Event}
use Rattle.mx_history.specs.History.{same_ticket, beyond, has_ticket, may_follow, is_legal_after}
use Rattle.mx_history.specs.Slots.{slots, slots_after, slot_of, lowest_free}
use Rattle.mx_history.specs.Laws.{then, SlotStays}
use Rattle.mx_history.proofs.Lists.{same-is}
use Rattle.mx_history.proofs.Histories.{laws, below, beyond-then}
use Rattle.mx_history.proofs.LegalLaws.{prefix_is_legal, after_split}
use Rattle.mx_history.proofs.SlotLaws.{slots_differ, slots-then, may_add_few}
use Rattle.mx_history.proofs.Tickets.{same-sym}

abbrev at_slots : Ticket → List (Ticket × ℕ) → Option ℕ
at_slots t s = option_map (λ x. x.1) (find (λ x. same_ticket t x.0) s)

-- another ticket's slot after the others
at_more : (t : Ticket) (s : List (Ticket × ℕ)) (x : Ticket × ℕ) → same_ticket t x.0 ≡ false → at_slots t (s ++ x ∷ []) ≡ at_slots t s
at_more t [] x h = ap (λ b. option_map (λ (y : Ticket × ℕ). y.1) (cond {A = Option (Ticket × ℕ)} b (Some x) None)) h
at_more t (y ∷ s) x h = go (same_ticket t y.0) (at_more t s x h) where
  go : (b : Bool) → at_slots t (s ++ x ∷ []) ≡ at_slots t s
      → option_map (λ (z : Ticket × ℕ). z.1) (cond {A = Option (Ticket × ℕ)} b (Some y) (find (λ z. same_ticket t z.0) (s ++ x ∷ [])))
      ≡ option_map (λ (z : Ticket × ℕ). z.1) (cond {A = Option (Ticket × ℕ)} b (Some y) (find (λ z. same_ticket t z.0) s))
  go true r = refl
  go false r = r

-- without another ticket
at_less : (t u : Ticket) (s : List (Ticket × ℕ)) → same_ticket t u ≡ false → at_slots t (filter (λ x. not (same_ticket x.0 u)) s) ≡ at_slots t s
at_less t u [] h = refl
at_less t u (y ∷ s) h = go (same_ticket y.0 u) (same_ticket t y.0) refl refl (at_less t u s h) where
  go : (b c : Bool) → same_ticket y.0 u ≡ b → same_ticket t y.0 ≡ c → at_slots t (filter (λ x. not (same_ticket x.0 u)) s) ≡ at_slots t s
      → at_slots t (cond (not b) (y ∷ filter (λ x. not (same_ticket x.0 u)) s) (filter (λ x. not (same_ticket x.0 u)) s))
      ≡ option_map (λ (z : Ticket × ℕ). z.1) (cond {A = Option (Ticket × ℕ)} c (Some y) (find (λ z. same_ticket t z.0) s))
  go true true e d r = absurd (false≢true (sym h ∙ ap (same_ticket t) (sym (same-is y.0 u e)) ∙ d))
  go true false e d r = r
  go false true e d r = ap (λ b. option_map (λ (z : Ticket × ℕ). z.1) (cond {A = Option (Ticket × ℕ)} b (Some y) (find (λ z. same_ticket t z.0) (filter (λ x. not (same_ticket x.0 u)) s)))) d
  go false false e d r =
      ap (λ b. option_map (λ (z : Ticket × ℕ). z.1) (cond {A = Option (Ticket × ℕ)} b (Some y) (find (λ z. same_ticket t z.0) (filter (λ x. not (same_ticket x.0 u)) s)))) d ∙ r

-- without the ticket itself
at_none : (t : Ticket) (s : List (Ticket × ℕ)) → at_slots t (filter (λ x. not (same_ticket x.0 t)) s) ≡ None
at_none t [] = refl
at_none t (y ∷ s) = go (same_ticket y.0 t) refl (at_none t s) where
  go : (b : Bool) → same_ticket y.0 t ≡ b → at_slots t (filter (λ x. not (same_ticket x.0 t)) s) ≡ None
      → at_slots t (cond (not b) (y ∷ filter (λ x. not (same_ticket x.0 t)) s) (filter (λ x. not (same_ticket x.0 t)) s)) ≡ None
  go true e r = r
  go false e r =
      ap (λ b. option_map (λ (z : Ticket × ℕ). z.1) (cond {A = Option (Ticket × ℕ)} b (Some y) (find (λ z. same_ticket t z.0) (filter (λ x. not (same_ticket x.0 t)) s)))) (same-sym y.0 t e) ∙ r

has_at : (t : Ticket) (n : ℕ) (s : List (Ticket × ℕ)) → at_slots t s ≡ Some n → has_ticket t (map (λ x. x.0) s) ≡ true
has_at t n [] h = absurd (false≢true (ap is_some h))
has_at t n (y ∷ s) h = go (same_ticket t y.0) refl h (has_at t n s) where
  go : (b : Bool) → same_ticket t y.0 ≡ b → option_map (λ (z : Ticket × ℕ). z.1) (cond {A = Option (Ticket × ℕ)} b (Some y) (find (λ z. same_ticket t z.0) s)) ≡ Some n
      → (at_slots t s ≡ Some n → has_ticket t (map (λ x. x.0) s) ≡ true) → (same_ticket t y.0 || has_ticket t (map (λ x. x.0) s)) ≡ true
  go true e k r = or_left _ _ e
  go false e k r = or_right _ _ (r k)

-- the ticket was added; it has this slot, or none any more
record Keeps (t : Ticket) (n : ℕ) (j : List Event) : Type 0 where
  made : t.0 < beyond j
  at : (slot_of t j ≡ Some n) ⊎ (slot_of t j ≡ None)

keeps_by : (t : Ticket) (n : ℕ) (j : List Event) (w : Who) (e : What) → Keeps t n j → at_slots t (slots_after (slots j) e) ≡ slot_of t j → Keeps t n (then j w e)
keeps_by t n j w e k same =
    let at : slot_of t (then j w e) ≡ slot_of t j = ap (at_slots t) (slots-then j w e) ∙ same in
    record {
      made = omega (arith, k.made, beyond-then j w e);
      at = elim k.at [ inl h ↦ inl (at ∙ h) | inr h ↦ inr (at ∙ h) ];
    }

keeps-then : (t : Ticket) (n : ℕ) (j : List Event) (w : Who) (e : What) → Keeps t n j → may_follow j e ≡ true → Keeps t n (then j w e)
keeps-then t n j w (what.Added h u) k m =
    keeps_by t n j w (what.Added h u) k (at_more t (slots j) (u, lowest_free (slots j)) (ne_eqb t.0 u.0 (λ e. let a = (may_add_few j h u m).1 in omega (arith, e, a, k.made))))
keeps-then t n j w (what.Removed h u) k m =
    elim (cases_Bool (same_ticket t u)) [
      | inl same ↦ record {
        made = omega (arith, k.made, beyond-then j w (what.Removed h u));
        at = inr (ap (at_slots t) (slots-then j w (what.Removed h u)) ∙ ap (λ v. at_slots t (filter (λ x. not (same_ticket x.0 v)) (slots j))) (sym (same-is t u same)) ∙ at_none t (slots j));
      }
      | inr other ↦ keeps_by t n j w (what.Removed h u) k (at_less t u (slots j) other)
    ]
keeps-then t n j w (what.Done u c s) k m = keeps_by t n j w (what.Done u c s) k refl
keeps-then t n j w (what.Read u) k m = keeps_by t n j w (what.Read u) k refl
keeps-then t n j w (what.Paused u) k m = keeps_by t n j w (what.Paused u) k refl
keeps-then t n j w (what.Resumed u) k m = keeps_by t n j w (what.Resumed u) k refl
keeps-then t n j w what.Wake k m = keeps_by t n j w what.Wake k refl

keeps_from : (t : Ticket) (n : ℕ) (f j : List Event) → Keeps t n f → is_legal_after f j ≡ true → Keeps t n (f ++ j)
keeps_from t n f [] k h = rw (append-nil f) k
keeps_from t n f (e ∷ j) k h =
    let x = and_parts (may_follow f e.what) (is_legal_after (f ++ e ∷ []) j) h in
    rw (← append_assoc f (e ∷ []) j) (keeps_from t n (f ++ e ∷ []) j (keeps-then t n f e.who e.what k x.0) x.1)

the_same : (a : Option ℕ) (n m : ℕ) → (a ≡ Some n) ⊎ (a ≡ None) → a ≡ Some m → n ≡ m
the_same a n m (inl h) k = ap (λ o. unwrap_or o n) (sym h ∙ k)
the_same a n m (inr h) k = absurd (false≢true (ap is_some (sym h ∙ k)))

pub slot_stays : SlotStays
slot_stays j more t n m legal at later =
    let l = prefix_is_legal j more legal in
    let has = has_at t n (slots j) at in
    let made = below j (laws j l) t (ap (has_ticket t) (sym (slots_differ j l).tickets) ∙ has) in
    let k = keeps_from t n j more (record { made = made; at = inl at }) (after_split [] j more legal) in
    the_same (slot_of t (j ++ more)) n m k.at later
