-- Executable definitions over lists of events.
use Rattle.std.proofs.Common.{◌≡◌, ℕ, ◌+◌, ◌<◌, ◌≤◌, ◌∙◌, sym, refl, ap, arith, List, [], ◌∷◌, ◌++◌, length, length-append, Bool, true, false, cond, map, take, drop, get_or}
use Rattle.std.specs.Prelude.{max, not, ◌&&◌, ◌||◌, nat_lt, nat_le, Option, Some, None}
use Rattle.std.specs.List.{filter, find, list_any, sum_by}
use Rattle.std.specs.Option.{option_map, option_to_list}
use Rattle.std.proofs.lemmas.Bool.{and_parts, and_from, false_from_ne_true, false≢true}
use Rattle.std.proofs.lemmas.List.{length-map, take-append-drop, take_more}
use Rattle.std.proofs.lemmas.List.Sums.{sum_by_push}
use Rattle.mx_types.specs.Limits.{most_handles}
use Rattle.mx_types.specs.declared.names.HandleId.{HandleId}
use Rattle.mx_types.specs.declared.names.Ticket.{Ticket}
use Rattle.mx_types.specs.declared.event.What.TheVariants as what
use Rattle.mx_types.specs.declared.event.Event.{Event}
use Rattle.mx_history.specs.History.{Addition, addition_of, due, due_of, same_handle, same_ticket, occurs, removes, pauses, resumes, added, past, beyond, last_is_pause, may_follow, is_legal}
use Rattle.mx_history.specs.Definitions.{addition_pair}
use Rattle.mx_history.specs.Answers.{ticket_of}
use Rattle.mx_history.specs.Slots.{slots, slots_after}
use Rattle.mx_history.proofs.SlotLaws.{slots_from-snoc}
use Rattle.mx_history.proofs.Tables.{find-map, option_map_map, sum-mapped}
use Rattle.mx_history.proofs.Histories.{beyond-then}
use Rattle.mx_history.proofs.Snoc.{last_is_pause-snoc, legal-snoc}
use Rattle.mx_history.proofs.LegalLaws.{prefix_is_legal}

pub left_gone : (h : HandleId) (t : Ticket) (later : List Event) → occurs (removes t) later ≡ true
    → ◌≡◌ {A = List (HandleId × Ticket)} [] (map addition_pair (filter (λ a. not (occurs (removes a.ticket) later)) (record { handle = h; ticket = t } ∷ [])))
left_gone h t later e = rw e refl

pub left_there : (h : HandleId) (t : Ticket) (later : List Event) → occurs (removes t) later ≡ false
    → ◌≡◌ {A = List (HandleId × Ticket)} ((h, t) ∷ []) (map addition_pair (filter (λ a. not (occurs (removes a.ticket) later)) (record { handle = h; ticket = t } ∷ [])))
left_there h t later e = rw e refl

-- the first n events, and the one after them
pub take_next : (j : List Event) (i : ℕ) (d : Event) → i < length j → take (i + 1) j ≡ take i j ++ get_or j i d ∷ []
take_next j i d lt = take_more j i d lt

pub last_more : (t : Ticket) (j : List Event) (i : ℕ) (d : Event) → i < length j
    → last_is_pause t (take (i + 1) j) ≡ cond (pauses t (get_or j i d).what || resumes t (get_or j i d).what) (pauses t (get_or j i d).what) (last_is_pause t (take i j))
last_more t j i d lt = ap (last_is_pause t) (take_next j i d lt) ∙ last_is_pause-snoc t (take i j) (get_or j i d)

any_mapped : (p : HandleId × Ticket → Bool) (xs : List Addition) → list_any p (map addition_pair xs) ≡ list_any (λ a. p (addition_pair a)) xs
any_mapped p [] = refl
any_mapped p (x ∷ xs) = ap (λ b. p (addition_pair x) || b) (any_mapped p xs)

pub tickets_paired : (xs : List Addition) → map (λ (x : HandleId × Ticket). x.1) (map addition_pair xs) ≡ map (λ a. a.ticket) xs
tickets_paired [] = refl
tickets_paired (x ∷ xs) = ap (λ z. x.ticket ∷ z) (tickets_paired xs)

pub may_add_by : (j : List Event) (h : HandleId) (t : Ticket) (list : List (HandleId × Ticket)) (above : ℕ) → list ≡ map addition_pair (added j) → above ≡ beyond j
    → (not (list_any (λ (a : HandleId × Ticket). same_handle h a.0) list) && nat_lt (length list) most_handles && nat_le above t.0) ≡ may_follow j (what.Added h t)
may_add_by j h t list above e n =
    rw (e, n, any_mapped (λ (a : HandleId × Ticket). same_handle h a.0) (added j), length-map (added j) addition_pair) refl

pub may_remove_by : (j : List Event) (h : HandleId) (t : Ticket) (list : List (HandleId × Ticket)) → list ≡ map addition_pair (added j)
    → list_any (λ (a : HandleId × Ticket). same_handle h a.0 && same_ticket t a.1) list ≡ may_follow j (what.Removed h t)
may_remove_by j h t list e = ap (list_any (λ (a : HandleId × Ticket). same_handle h a.0 && same_ticket t a.1)) e ∙ any_mapped (λ a. same_handle h a.0 && same_ticket t a.1) (added j)

pub legal_more : (j : List Event) (i : ℕ) (d : Event) → i < length j → is_legal (take i j) ≡ true → may_follow (take i j) (get_or j i d).what ≡ true → is_legal (take (i + 1) j) ≡ true
legal_more j i d lt l m = ap is_legal (take_next j i d lt) ∙ legal-snoc (take i j) (get_or j i d) ∙ and_from _ _ l m

pub illegal_at : (j : List Event) (i : ℕ) (d : Event) → i < length j → may_follow (take i j) (get_or j i d).what ≡ false → false ≡ is_legal j
illegal_at j i d lt m =
    sym (false_from_ne_true _ (λ l.
    let p = prefix_is_legal (take (i + 1) j) (drop (i + 1) j) (ap is_legal (take-append-drop (i + 1) j) ∙ l) in
    let k = and_parts (is_legal (take i j)) (may_follow (take i j) (get_or j i d).what) (sym (ap is_legal (take_next j i d lt) ∙ legal-snoc (take i j) (get_or j i d)) ∙ p) in
    false≢true (sym m ∙ k.1)))

-- the ticket of a handle among the additions
pub ticket_by : (j : List Event) (h : HandleId) (list : List (HandleId × Ticket)) → list ≡ map addition_pair (added j)
    → option_map (λ (a : HandleId × Ticket). a.1) (find (λ (a : HandleId × Ticket). same_handle h a.0) list) ≡ ticket_of h j
ticket_by j h list e =
    ap (λ (xs : List (HandleId × Ticket)). option_map (λ (a : HandleId × Ticket). a.1) (find (λ (a : HandleId × Ticket). same_handle h a.0) xs)) e
    ∙ ap (option_map (λ (a : HandleId × Ticket). a.1)) (find-map addition_pair (λ a. same_handle h a.0) (added j))
    ∙ option_map_map (λ (a : HandleId × Ticket). a.1) addition_pair (find (λ (a : Addition). same_handle h a.handle) (added j))

-- what is due, ticket by ticket
pub due_by : (j : List Event) → sum_by (λ (t : Ticket). due_of t j) (map (λ (a : Addition). a.ticket) (added j)) ≡ due j
due_by j = sum-mapped (λ (a : Addition). a.ticket) (λ t. due_of t j) (added j)

pub sum_next : (n : Ticket → ℕ) (xs : List Ticket) (i : ℕ) (d : Ticket) → i < length xs → sum_by n (take (i + 1) xs) ≡ sum_by n (take i xs) + n (get_or xs i d)
sum_next n xs i d lt = ap (sum_by n) (take_more xs i d lt) ∙ sum_by_push n (take i xs) (get_or xs i d)

one_at_most : {X : Type 0} (p : X → Bool) (o : Option X) → length (filter p (option_to_list o)) ≤ 1
one_at_most p None = omega arith
one_at_most p (Some x) = go (p x)
  where
    go : (b : Bool) → length (cond b (x ∷ []) []) ≤ 1
    go true = omega arith
    go false = omega arith

-- there are no more additions than events
pub added_few : (j : List Event) → length (map (λ (a : Addition). a.ticket) (added j)) ≤ length j
added_few j = omega (arith, length-map (added j) (λ (a : Addition). a.ticket), few j)
  where
    few : (k : List Event) → length (added k) ≤ length k
    few [] = omega arith
    few (e ∷ k) =
        let new = filter (λ (a : Addition). not (occurs (removes a.ticket) k)) (option_to_list (addition_of e.what)) in
        omega (arith, length-append new (added k), one_at_most (λ (a : Addition). not (occurs (removes a.ticket) k)) (addition_of e.what), few k)

-- the slots with one event more
pub slots_next : (j : List Event) (i : ℕ) (d : Event) → i < length j → slots (take (i + 1) j) ≡ slots_after (slots (take i j)) (get_or j i d).what
slots_next j i d lt = ap slots (take_next j i d lt) ∙ slots_from-snoc [] (take i j) (get_or j i d)

-- the greatest ticket with one event more
pub beyond_next : (j : List Event) (i : ℕ) (d : Event) → i < length j → beyond (take (i + 1) j) ≡ max (beyond (take i j)) (past (get_or j i d).what)
beyond_next j i d lt = ap beyond (take_next j i d lt) ∙ beyond-then (take i j) (get_or j i d).who (get_or j i d).what
