-- What retiring keeps of a legal history.
use Rattle.std.proofs.Common.{◌≡◌, ℕ, ◌+◌, ◌<◌, ◌≤◌, ◌∙◌, sym, refl, ap, subst, List, [], ◌∷◌, ◌++◌, append-nil, length, Bool, true, false, cond, map, arith, inl, inr}
use Rattle.std.specs.Prelude.{◌⊎◌, max, not, ◌&&◌, ◌||◌, nat_lt, nat_le, Option, Some, None}
use Rattle.std.specs.List.{filter, find, list_any, AllByRecursion, sum_by}
use Rattle.std.specs.Option.{option_map, option_or, option_to_list}
use Rattle.std.proofs.lemmas.Bool.{and_parts, and_from, false_from_ne_true, false≢true, leb-true, le-leb, ltb-true, lt-ltb, not-true, not_from_false, or_left, or_right, or_cases}
use Rattle.std.proofs.lemmas.List.Elements.{filter-append}
use Rattle.std.proofs.lemmas.List.Sums.{length-filter, count_by-le-length, sum_by-cons}
use Rattle.mx_types.specs.Limits.{most_handles}
use Rattle.mx_types.specs.declared.code.Code.{Code}
use Rattle.mx_types.specs.declared.names.HandleId.{HandleId}
use Rattle.mx_types.specs.declared.names.Ticket.{Ticket}
use Rattle.mx_types.specs.declared.event.What.{What}
use Rattle.mx_types.specs.declared.event.What.TheVariants as what
use Rattle.mx_types.specs.declared.event.Event.{Event}
use Rattle.mx_types.specs.declared.reply.State.{State}
use Rattle.mx_types.specs.declared.reply.State.TheVariants as state
use Rattle.mx_history.specs.History.{Addition, Message, addition_of, message_of, same_handle, same_ticket, occurs, removes, ends, reads, pauses, resumes, standing, added, waiting, running, paused, past, beyond, last_is_pause, has_handle, has_ticket, is_first, may_follow, is_legal_after, due_of, end_by, end_of, phase_by, phase_of, ticket_in, is_of_such, only_of, retire}
use Rattle.mx_history.specs.Answers.{state_at, state_of, ticket_of}
use Rattle.mx_history.specs.Laws.{RetiringKeeps}
use Rattle.mx_history.proofs.Lists.{Each-map, has-filter, has-stays, same-is, same-refl}
use Rattle.mx_history.proofs.Histories.{tickets, laws, map-filter_tickets, has_addition}
use Rattle.mx_history.proofs.Tickets.{found_any, parts_false}

-- 1. Events of such tickets. A test is about a ticket where only events of that ticket pass.

abbrev IsAbout : Ticket → (What → Bool) → Type 0
IsAbout t test = (e : What) → test e ≡ true → ticket_in e ≡ Some t

some_same : (t u : Ticket) → same_ticket t u ≡ true → Some u ≡ Some t
some_same t u h = ap Some (sym (same-is t u h))

removes_about : (t : Ticket) → IsAbout t (removes t)
removes_about t (what.Removed _ u) h = some_same t u h
removes_about t (what.Added _ _) h = absurd (false≢true h)
removes_about t (what.Done _ _ _) h = absurd (false≢true h)
removes_about t (what.Read _) h = absurd (false≢true h)
removes_about t (what.Paused _) h = absurd (false≢true h)
removes_about t (what.Resumed _) h = absurd (false≢true h)
removes_about t what.Wake h = absurd (false≢true h)

ends_about : (t : Ticket) → IsAbout t (ends t)
ends_about t (what.Done u _ _) h = some_same t u h
ends_about t (what.Added _ _) h = absurd (false≢true h)
ends_about t (what.Removed _ _) h = absurd (false≢true h)
ends_about t (what.Read _) h = absurd (false≢true h)
ends_about t (what.Paused _) h = absurd (false≢true h)
ends_about t (what.Resumed _) h = absurd (false≢true h)
ends_about t what.Wake h = absurd (false≢true h)

reads_about : (t : Ticket) → IsAbout t (reads t)
reads_about t (what.Read u) h = some_same t u h
reads_about t (what.Added _ _) h = absurd (false≢true h)
reads_about t (what.Removed _ _) h = absurd (false≢true h)
reads_about t (what.Done _ _ _) h = absurd (false≢true h)
reads_about t (what.Paused _) h = absurd (false≢true h)
reads_about t (what.Resumed _) h = absurd (false≢true h)
reads_about t what.Wake h = absurd (false≢true h)

pauses_about : (t : Ticket) → IsAbout t (pauses t)
pauses_about t (what.Paused u) h = some_same t u h
pauses_about t (what.Added _ _) h = absurd (false≢true h)
pauses_about t (what.Removed _ _) h = absurd (false≢true h)
pauses_about t (what.Done _ _ _) h = absurd (false≢true h)
pauses_about t (what.Read _) h = absurd (false≢true h)
pauses_about t (what.Resumed _) h = absurd (false≢true h)
pauses_about t what.Wake h = absurd (false≢true h)

resumes_about : (t : Ticket) → IsAbout t (resumes t)
resumes_about t (what.Resumed u) h = some_same t u h
resumes_about t (what.Added _ _) h = absurd (false≢true h)
resumes_about t (what.Removed _ _) h = absurd (false≢true h)
resumes_about t (what.Done _ _ _) h = absurd (false≢true h)
resumes_about t (what.Read _) h = absurd (false≢true h)
resumes_about t (what.Paused _) h = absurd (false≢true h)
resumes_about t what.Wake h = absurd (false≢true h)

either_about : (t : Ticket) (one other : What → Bool) → IsAbout t one → IsAbout t other → IsAbout t (λ e. one e || other e)
either_about t one other a b e h = elim (or_cases (one e) (other e) h) [ inl k ↦ a e k | inr k ↦ b e k ]

abbrev passes : (Ticket → Bool) → Option Ticket → Bool
passes p o = elim o [ None ↦ false | Some t ↦ p t ]

-- an event that is dropped is not about a ticket that passes
off_of : (p : Ticket → Bool) (t : Ticket) (test : What → Bool) → IsAbout t test → p t ≡ true → (e : What) → is_of_such p e ≡ false → test e ≡ false
off_of p t test about is e off = false_from_ne_true _ (λ k. false≢true (sym off ∙ ap (passes p) (about e k) ∙ is))

occurs-only : (p : Ticket → Bool) (t : Ticket) (test : What → Bool) → IsAbout t test → p t ≡ true → (j : List Event) → occurs test (only_of p j) ≡ occurs test j
occurs-only p t test about is [] = refl
occurs-only p t test about is (e ∷ j) = go (is_of_such p e.what) refl (occurs-only p t test about is j)
  where
    go : (b : Bool) → is_of_such p e.what ≡ b → occurs test (only_of p j) ≡ occurs test j
        → occurs test (cond b (e ∷ only_of p j) (only_of p j)) ≡ (test e.what || occurs test j)
    go true k r = ap (λ b. test e.what || b) r
    go false k r = r ∙ sym (ap (λ b. b || occurs test j) (off_of p t test about is e.what k))

-- 2. What stays, of such tickets.

one_kept : {X : Type 0} (q : X → Bool) (x : X) (b : Bool) → q x ≡ true → cond b (x ∷ []) [] ≡ filter q (cond b (x ∷ []) [])
one_kept q x true is = sym (ap (λ c. cond c (x ∷ []) []) is)
one_kept q x false is = refl

one_gone : {X : Type 0} (q : X → Bool) (x : X) (b : Bool) → q x ≡ false → [] ≡ filter q (cond b (x ∷ []) [])
one_gone q x true is = sym (ap (λ c. cond c (x ∷ []) []) is)
one_gone q x false is = refl

standing-only : {X : Type 0} (p : Ticket → Bool) (gives : What → Option X) (takes : X → What → Bool) (of : X → Ticket)
    → ((e : What) (x : X) → gives e ≡ Some x → ticket_in e ≡ Some (of x)) → ((x : X) → IsAbout (of x) (takes x))
    → (j : List Event) → standing gives takes (only_of p j) ≡ filter (λ x. p (of x)) (standing gives takes j)
standing-only p gives takes of g a [] = refl
standing-only {X} p gives takes of g a (e ∷ j) = go (is_of_such p e.what) refl (standing-only p gives takes of g a j)
  where
    left : List Event → List X
    left k = filter (λ x. not (occurs (takes x) k)) (option_to_list (gives e.what))

    kept : is_of_such p e.what ≡ true → (o : Option X) → gives e.what ≡ o
        → filter (λ x. not (occurs (takes x) (only_of p j))) (option_to_list o) ≡ filter (λ x. p (of x)) (filter (λ x. not (occurs (takes x) j)) (option_to_list o))
    kept is None k = refl
    kept is (Some x) k =
        let own : p (of x) ≡ true = sym (ap (passes p) (g e.what x k)) ∙ is in
        ap (λ b. cond (not b) (x ∷ []) []) (occurs-only p (of x) (takes x) (a x) own j) ∙ one_kept (λ y. p (of y)) x (not (occurs (takes x) j)) own

    gone : is_of_such p e.what ≡ false → (o : Option X) → gives e.what ≡ o
        → [] ≡ filter (λ x. p (of x)) (filter (λ x. not (occurs (takes x) j)) (option_to_list o))
    gone is None k = refl
    gone is (Some x) k = one_gone (λ y. p (of y)) x (not (occurs (takes x) j)) (sym (ap (passes p) (g e.what x k)) ∙ is)

    go : (b : Bool) → is_of_such p e.what ≡ b → standing gives takes (only_of p j) ≡ filter (λ x. p (of x)) (standing gives takes j)
        → standing gives takes (cond b (e ∷ only_of p j) (only_of p j)) ≡ filter (λ x. p (of x)) (left j ++ standing gives takes j)
    go true is r =
        ap (λ z. z ++ standing gives takes (only_of p j)) (kept is (gives e.what) refl) ∙ ap (λ z. filter (λ x. p (of x)) (left j) ++ z) r
        ∙ sym (filter-append (λ x. p (of x)) (left j) (standing gives takes j))
    go false is r =
        r ∙ ap (λ z. z ++ filter (λ x. p (of x)) (standing gives takes j)) (gone is (gives e.what) refl)
        ∙ sym (filter-append (λ x. p (of x)) (left j) (standing gives takes j))

added_of : (e : What) (x : Addition) → addition_of e ≡ Some x → ticket_in e ≡ Some x.ticket
added_of (what.Added h t) x k = let same : record { handle = h; ticket = t } ≡ x = cc in ap (λ (y : Addition). Some y.ticket) same
added_of (what.Removed _ _) x k = cc
added_of (what.Done _ _ _) x k = cc
added_of (what.Read _) x k = cc
added_of (what.Paused _) x k = cc
added_of (what.Resumed _) x k = cc
added_of what.Wake x k = cc

message_in : (e : What) (x : Message) → message_of e ≡ Some x → ticket_in e ≡ Some x.ticket
message_in (what.Done t c n) x k = let same : record { ticket = t; code = c; size = n } ≡ x = cc in ap (λ (y : Message). Some y.ticket) same
message_in (what.Added _ _) x k = cc
message_in (what.Removed _ _) x k = cc
message_in (what.Read _) x k = cc
message_in (what.Paused _) x k = cc
message_in (what.Resumed _) x k = cc
message_in what.Wake x k = cc

added-only : (p : Ticket → Bool) (j : List Event) → added (only_of p j) ≡ filter (λ a. p a.ticket) (added j)
added-only p j = standing-only p addition_of (λ a. removes a.ticket) (λ a. a.ticket) added_of (λ a. removes_about a.ticket) j

waiting-only : (p : Ticket → Bool) (j : List Event) → waiting (only_of p j) ≡ filter (λ m. p m.ticket) (waiting j)
waiting-only p j =
    standing-only p message_of (λ m e. reads m.ticket e || removes m.ticket e) (λ m. m.ticket) message_in
    (λ m. either_about m.ticket (reads m.ticket) (removes m.ticket) (reads_about m.ticket) (removes_about m.ticket)) j

tickets-only : (p : Ticket → Bool) (j : List Event) → tickets (only_of p j) ≡ filter p (tickets j)
tickets-only p j = ap (map (λ (a : Addition). a.ticket)) (added-only p j) ∙ map-filter_tickets p (added j)

-- tests that agree on what passes keep the same of it
filter_swap : (p q r : Ticket → Bool) → ((t : Ticket) → p t ≡ true → r t ≡ q t) → (ts : List Ticket) → filter r (filter p ts) ≡ filter p (filter q ts)
filter_swap p q r same [] = refl
filter_swap p q r same (t ∷ ts) = go (p t) (q t) refl refl (filter_swap p q r same ts)
  where
    go : (b c : Bool) → p t ≡ b → q t ≡ c → filter r (filter p ts) ≡ filter p (filter q ts)
        → filter r (cond b (t ∷ filter p ts) (filter p ts)) ≡ filter p (cond c (t ∷ filter q ts) (filter q ts))
    go true true x y k =
        ap (λ d. cond d (t ∷ filter r (filter p ts)) (filter r (filter p ts))) (same t x ∙ y) ∙ ap (λ z. t ∷ z) k
        ∙ sym (ap (λ d. cond d (t ∷ filter p (filter q ts)) (filter p (filter q ts))) x)
    go true false x y k = ap (λ d. cond d (t ∷ filter r (filter p ts)) (filter r (filter p ts))) (same t x ∙ y) ∙ k
    go false true x y k = k ∙ sym (ap (λ d. cond d (t ∷ filter p (filter q ts)) (filter p (filter q ts))) x)
    go false false x y k = k

running-only : (p : Ticket → Bool) (j : List Event) → running (only_of p j) ≡ filter p (running j)
running-only p j =
    ap (filter (λ t. not (occurs (ends t) (only_of p j)))) (tickets-only p j)
    ∙ filter_swap p (λ t. not (occurs (ends t) j)) (λ t. not (occurs (ends t) (only_of p j))) (λ t is. ap not (occurs-only p t (ends t) (ends_about t) is j)) (tickets j)

turns : Ticket → What → Bool
turns t x = pauses t x || resumes t x

turns_about : (t : Ticket) → IsAbout t (λ x. pauses t x || resumes t x)
turns_about t = either_about t (pauses t) (resumes t) (pauses_about t) (resumes_about t)

quiet_last : (t : Ticket) (j : List Event) → occurs (λ x. pauses t x || resumes t x) j ≡ false → last_is_pause t j ≡ false
quiet_last t [] h = refl
quiet_last t (e ∷ j) h =
    let k = parts_false (pauses t e.what || resumes t e.what) (occurs (λ x. pauses t x || resumes t x) j) h in
    ap (λ b. cond b (last_is_pause t j) (pauses t e.what)) k.1 ∙ (parts_false (pauses t e.what) (resumes t e.what) k.0).0

last-only : (p : Ticket → Bool) (t : Ticket) → p t ≡ true → (j : List Event) → last_is_pause t (only_of p j) ≡ last_is_pause t j
last-only p t is [] = refl
last-only p t is (e ∷ j) = go (is_of_such p e.what) refl (last-only p t is j)
  where
    go : (b : Bool) → is_of_such p e.what ≡ b → last_is_pause t (only_of p j) ≡ last_is_pause t j
        → last_is_pause t (cond b (e ∷ only_of p j) (only_of p j)) ≡ cond (occurs (λ x. pauses t x || resumes t x) j) (last_is_pause t j) (pauses t e.what)
    go true k r =
        ap (λ b. cond b (last_is_pause t (only_of p j)) (pauses t e.what)) (occurs-only p t (λ x. pauses t x || resumes t x) (turns_about t) is j)
        ∙ ap (λ l. cond (occurs (λ x. pauses t x || resumes t x) j) l (pauses t e.what)) r
    go false k r = r ∙ quiet (occurs (λ x. pauses t x || resumes t x) j) refl (off_of p t (pauses t) (pauses_about t) is e.what k)
      where
        quiet : (b : Bool) → occurs (λ x. pauses t x || resumes t x) j ≡ b → pauses t e.what ≡ false → last_is_pause t j ≡ cond b (last_is_pause t j) (pauses t e.what)
        quiet true h off = refl
        quiet false h off = quiet_last t j h ∙ sym off

paused-only : (p : Ticket → Bool) (j : List Event) → paused (only_of p j) ≡ filter p (paused j)
paused-only p j =
    ap (filter (λ t. last_is_pause t (only_of p j))) (running-only p j)
    ∙ filter_swap p (λ t. last_is_pause t j) (λ t. last_is_pause t (only_of p j)) (λ t is. last-only p t is j) (running j)

beyond-only : (p : Ticket → Bool) (j : List Event) → beyond (only_of p j) ≤ beyond j
beyond-only p [] = omega arith
beyond-only p (e ∷ j) = go (is_of_such p e.what) (beyond-only p j)
  where
    go : (b : Bool) → beyond (only_of p j) ≤ beyond j → beyond (cond b (e ∷ only_of p j) (only_of p j)) ≤ max (past e.what) (beyond j)
    go true r = omega arith
    go false r = omega arith

-- 3. What may follow may follow among the events of such tickets.

any_gone : {X : Type 0} (q p : X → Bool) (xs : List X) → list_any q xs ≡ false → list_any q (filter p xs) ≡ false
any_gone q p [] h = refl
any_gone q p (x ∷ xs) h = go (p x) (parts_false (q x) (list_any q xs) h).0 (any_gone q p xs (parts_false (q x) (list_any q xs) h).1)
  where
    go : (b : Bool) → q x ≡ false → list_any q (filter p xs) ≡ false → list_any q (cond b (x ∷ filter p xs) (filter p xs)) ≡ false
    go true k r = ap (λ b. b || list_any q (filter p xs)) k ∙ r
    go false k r = r

any_kept : {X : Type 0} (q p : X → Bool) → ((x : X) → q x ≡ true → p x ≡ true) → (xs : List X) → list_any q xs ≡ true → list_any q (filter p xs) ≡ true
any_kept q p sub [] h = h
any_kept q p sub (x ∷ xs) h = go (p x) refl (or_cases (q x) (list_any q xs) h) (any_kept q p sub xs)
  where
    go : (b : Bool) → p x ≡ b → (q x ≡ true) ⊎ (list_any q xs ≡ true) → (list_any q xs ≡ true → list_any q (filter p xs) ≡ true)
        → list_any q (cond b (x ∷ filter p xs) (filter p xs)) ≡ true
    go true is (inl k) r = or_left (q x) _ k
    go true is (inr k) r = or_right (q x) _ (r k)
    go false is (inl k) r = absurd (false≢true (sym is ∙ sub x k))
    go false is (inr k) r = r k

first_kept : (p : Ticket → Bool) (t : Ticket) (ms : List Message) → p t ≡ true → is_first t ms ≡ true → is_first t (filter (λ m. p m.ticket) ms) ≡ true
first_kept p t [] is h = h
first_kept p t (m ∷ ms) is h =
    let own : p m.ticket ≡ true = subst (λ u. p u ≡ true) (same-is t m.ticket h) is in
    ap (λ b. is_first t (cond b (m ∷ filter (λ x. p x.ticket) ms) (filter (λ x. p x.ticket) ms))) own ∙ h

unhad : (p : Ticket → Bool) (t : Ticket) (ts : List Ticket) → has_ticket t ts ≡ false → has_ticket t (filter p ts) ≡ false
unhad p t ts h = any_gone (same_ticket t) p ts h

shorter_only : (p : Ticket → Bool) (f : List Event) → length (added (only_of p f)) ≤ length (added f)
shorter_only p f =
    omega (arith, ap length (added-only p f), length-filter (λ (a : Addition). p a.ticket) (added f), count_by-le-length (λ (a : Addition). p a.ticket) (added f))

may-only : (p : Ticket → Bool) (f : List Event) (e : What) → may_follow f e ≡ true → is_of_such p e ≡ true → may_follow (only_of p f) e ≡ true
may-only p f (what.Added h t) m is =
    let k = and_parts (not (has_handle h (added f)) && nat_lt (length (added f)) most_handles) (nat_le (beyond f) t.0) m in
    let n = and_parts (not (has_handle h (added f))) (nat_lt (length (added f)) most_handles) k.0 in
    let off : has_handle h (added (only_of p f)) ≡ false = ap (has_handle h) (added-only p f) ∙ any_gone (λ (a : Addition). same_handle h a.handle) (λ a. p a.ticket) (added f) (not-true _ n.0) in
    let few : length (added (only_of p f)) < most_handles = omega (arith, ltb-true (length (added f)) most_handles n.1, shorter_only p f) in
    let new : beyond (only_of p f) ≤ t.0 = omega (arith, leb-true (beyond f) t.0 k.1, beyond-only p f) in
    and_from _ _ (and_from _ _ (not_from_false _ off) (lt-ltb (length (added (only_of p f))) most_handles few)) (le-leb (beyond (only_of p f)) t.0 new)
may-only p f (what.Removed h t) m is =
    ap (list_any (λ a. same_handle h a.handle && same_ticket t a.ticket)) (added-only p f)
    ∙ any_kept (λ (a : Addition). same_handle h a.handle && same_ticket t a.ticket) (λ a. p a.ticket)
    (λ a k. subst (λ u. p u ≡ true) (same-is t a.ticket (and_parts (same_handle h a.handle) (same_ticket t a.ticket) k).1) is) (added f) m
may-only p f (what.Done t c n) m is = ap (has_ticket t) (running-only p f) ∙ has-stays t p (running f) m is
may-only p f (what.Read t) m is = ap (is_first t) (waiting-only p f) ∙ first_kept p t (waiting f) is m
may-only p f (what.Paused t) m is =
    let k = and_parts (has_ticket t (running f)) (not (has_ticket t (paused f))) m in
    and_from _ _ (ap (has_ticket t) (running-only p f) ∙ has-stays t p (running f) k.0 is)
    (not_from_false _ (ap (has_ticket t) (paused-only p f) ∙ unhad p t (paused f) (not-true _ k.1)))
may-only p f (what.Resumed t) m is = ap (has_ticket t) (paused-only p f) ∙ has-stays t p (paused f) m is
may-only p f what.Wake m is = absurd (false≢true is)

-- the events of such tickets are a legal history, whatever the tickets
legal-only : (p : Ticket → Bool) (f j : List Event) → is_legal_after f j ≡ true → is_legal_after (only_of p f) (only_of p j) ≡ true
legal-only p f [] h = refl
legal-only p f (e ∷ j) h =
    let k = and_parts (may_follow f e.what) (is_legal_after (f ++ e ∷ []) j) h in
    go (is_of_such p e.what) refl k.0 (subst (λ g. is_legal_after g (only_of p j) ≡ true) (filter-append (λ (x : Event). is_of_such p x.what) f (e ∷ [])) (legal-only p (f ++ e ∷ []) j k.1))
  where
    go : (b : Bool) → is_of_such p e.what ≡ b → may_follow f e.what ≡ true → is_legal_after (only_of p f ++ cond (is_of_such p e.what) (e ∷ []) []) (only_of p j) ≡ true
        → is_legal_after (only_of p f) (cond b (e ∷ only_of p j) (only_of p j)) ≡ true
    go true is m r = and_from _ _ (may-only p f e.what m is) (subst (λ c. is_legal_after (only_of p f ++ cond c (e ∷ []) []) (only_of p j) ≡ true) is r)
    go false is m r =
        subst (λ g. is_legal_after g (only_of p j) ≡ true) (append-nil (only_of p f))
        (subst (λ c. is_legal_after (only_of p f ++ cond c (e ∷ []) []) (only_of p j) ≡ true) is r)

-- 4. The phase of an addition.

end_by-only : (p : Ticket → Bool) (t : Ticket) → p t ≡ true → (e : What) (j : List Event) → end_by t e (only_of p j) ≡ end_by t e j
end_by-only p t is (what.Done u c n) j =
    ap (λ (b : Bool). cond {A = Option (Code × Bool)} (same_ticket t u) (Some (c, b)) None) (occurs-only p t (reads t) (reads_about t) is j)
end_by-only p t is _ j = refl

end_by_off : (t : Ticket) (e : What) (j : List Event) → ends t e ≡ false → end_by t e j ≡ None
end_by_off t (what.Done u c n) j h = ap (λ (b : Bool). cond {A = Option (Code × Bool)} b (Some (c, occurs (reads t) j)) None) h
end_by_off t _ j h = refl

end-only : (p : Ticket → Bool) (t : Ticket) → p t ≡ true → (j : List Event) → end_of t (only_of p j) ≡ end_of t j
end-only p t is [] = refl
end-only p t is (e ∷ j) = go (is_of_such p e.what) refl (end-only p t is j)
  where
    go : (b : Bool) → is_of_such p e.what ≡ b → end_of t (only_of p j) ≡ end_of t j
        → end_of t (cond b (e ∷ only_of p j) (only_of p j)) ≡ option_or (end_by t e.what j) (end_of t j)
    go true k r = ap (λ o. option_or o (end_of t (only_of p j))) (end_by-only p t is e.what j) ∙ ap (option_or (end_by t e.what j)) r
    go false k r = r ∙ sym (ap (λ o. option_or o (end_of t j)) (end_by_off t e.what j (off_of p t (ends t) (ends_about t) is e.what k)))

phase-only : (p : Ticket → Bool) (t : Ticket) → p t ≡ true → (j : List Event) → phase_of t (only_of p j) ≡ phase_of t j
phase-only p t is j = ap (λ o. phase_by o (last_is_pause t (only_of p j))) (end-only p t is j) ∙ ap (phase_by (end_of t j)) (last-only p t is j)

due_of-only : (p : Ticket → Bool) (t : Ticket) → p t ≡ true → (j : List Event) → due_of t (only_of p j) ≡ due_of t j
due_of-only p t is j =
    rw (occurs-only p t (ends t) (ends_about t) is j, occurs-only p t (reads t) (reads_about t) is j, occurs-only p t (removes t) (removes_about t) is j) refl

-- 5. What is kept.

filter_each : {X : Type 0} (q : X → Bool) (xs : List X) → AllByRecursion (λ x. q x ≡ true) xs → filter q xs ≡ xs
filter_each q [] a = refl
filter_each q (x ∷ xs) a = ap (λ b. cond b (x ∷ filter q xs) (filter q xs)) a.0 ∙ ap (λ z. x ∷ z) (filter_each q xs a.1)

each_in : (all : List Ticket) (xs : List Addition) → ((t : Ticket) → has_ticket t (map (λ a. a.ticket) xs) ≡ true → has_ticket t all ≡ true)
    → AllByRecursion (λ (a : Addition). has_ticket a.ticket all ≡ true) xs
each_in all [] h = tt
each_in all (a ∷ xs) h =
    (h a.ticket (or_left (same_ticket a.ticket a.ticket) _ (same-refl a.ticket)), each_in all xs (λ t k. h t (or_right (same_ticket t a.ticket) _ k)))

each_had : (all ts : List Ticket) → ((t : Ticket) → has_ticket t ts ≡ true → has_ticket t all ≡ true) → AllByRecursion (λ t. has_ticket t all ≡ true) ts
each_had all [] h = tt
each_had all (u ∷ ts) h = (h u (or_left (same_ticket u u) _ (same-refl u)), each_had all ts (λ t k. h t (or_right (same_ticket t u) _ k)))

sum_each : (f g : Addition → ℕ) (xs : List Addition) → AllByRecursion (λ a. f a ≡ g a) xs → sum_by f xs ≡ sum_by g xs
sum_each f g [] a = refl
sum_each f g (x ∷ xs) a = sum_by-cons f x xs ∙ ap (λ n. n + sum_by f xs) a.0 ∙ ap (λ n. g x + n) (sum_each f g xs a.1) ∙ sym (sum_by-cons g x xs)

abbrev state_by : List Event → Option Ticket → State
state_by j o = elim o [ None ↦ state.NotAdded | Some u ↦ state_at u (phase_of u j) ]

pub retiring_keeps : RetiringKeeps
retiring_keeps j l =
    let p : Ticket → Bool = λ t. has_ticket t (tickets j) in
    let k = retire j in
    let all_added = each_in (tickets j) (added j) (λ t h. h) in
    let all_running = each_had (tickets j) (running j) (λ t h. (has-filter t (λ u. not (occurs (ends u) j)) (tickets j) h).0) in
    let all_paused = each_had (tickets j) (paused j)
    (λ t h. (has-filter t (λ u. not (occurs (ends u) j)) (tickets j) (has-filter t (λ u. last_is_pause u j) (running j) h).0).0) in
    let adds : added k ≡ added j = added-only p j ∙ filter_each (λ (a : Addition). p a.ticket) (added j) all_added in
    record {
      legal = legal-only p [] j l;
      added = adds;
      running = running-only p j ∙ filter_each p (running j) all_running;
      paused = paused-only p j ∙ filter_each p (paused j) all_paused;
      waiting = waiting-only p j ∙ filter_each (λ (m : Message). p m.ticket) (waiting j)
          (Each-map (λ m. (phase_of m.ticket j ≡ _) × (has_ticket m.ticket (tickets j) ≡ true)) (λ m. p m.ticket ≡ true) (λ m x. x.1) (waiting j) (laws j l).waits);
      states = λ h. states h adds;
      due = ap (sum_by (λ (a : Addition). due_of a.ticket k)) adds
          ∙ sum_each (λ (a : Addition). due_of a.ticket k) (λ (a : Addition). due_of a.ticket j) (added j)
          (Each-map (λ (a : Addition). p a.ticket ≡ true) (λ (a : Addition). due_of a.ticket k ≡ due_of a.ticket j) (λ a is. due_of-only p a.ticket is j) (added j) all_added);
      shorter = omega (arith, length-filter (λ (e : Event). is_of_such p e.what) j, count_by-le-length (λ (e : Event). is_of_such p e.what) j);
      tickets = beyond-only p j;
    }
  where
    states : (h : HandleId) → added (retire j) ≡ added j → state_of h (retire j) ≡ state_of h j
    states h adds =
        let same : ticket_of h (retire j) ≡ ticket_of h j = ap (λ (xs : List Addition). option_map (λ (a : Addition). a.ticket) (find (λ (a : Addition). same_handle h a.handle) xs)) adds in
        ap (state_by (retire j)) same ∙ go (ticket_of h j) refl
      where
        go : (o : Option Ticket) → o ≡ ticket_of h j → state_by (retire j) o ≡ state_by j o
        go None e = refl
        go (Some t) e =
            let has : has_ticket t (tickets j) ≡ true = has_addition t h (added j) (found_any (λ a. same_handle h a.handle) t (added j) e) in
            ap (state_at t) (phase-only (λ u. has_ticket u (tickets j)) t has j)
