-- What every legal history keeps.
use Rattle.std.proofs.Common.{◌≡◌, ◌+◌, ◌<◌, ◌≤◌, ◌∙◌, sym, refl, ap, List, [], ◌∷◌, ◌++◌, append-nil, append_assoc, inl, inr, length, Bool, true, false, cond, map, arith}
use Rattle.std.specs.Prelude.{max, not, ◌&&◌, ◌||◌, nat_lt, nat_le, Option, Some, None}
use Rattle.std.specs.List.{filter, list_any, AllByRecursion}
use Rattle.std.specs.Option.{is_some, option_or, option_to_list}
use Rattle.std.proofs.lemmas.Bool.{leb-true, ne_eqb, false≢true, or_left, or_right, and_parts, not-true, not-false, or_cases, not_from_false}
use Rattle.std.proofs.lemmas.List.{map-append}
use Rattle.mx_types.specs.declared.code.Code.{Code}
use Rattle.mx_types.specs.declared.names.HandleId.{HandleId}
use Rattle.mx_types.specs.declared.names.Ticket.{Ticket}
use Rattle.mx_types.specs.declared.event.Who.{Who}
use Rattle.mx_types.specs.declared.event.What.{What}
use Rattle.mx_types.specs.declared.event.What.TheVariants as what
use Rattle.mx_types.specs.declared.event.Event.{Event}
use Rattle.mx_types.specs.Limits.{most_handles}
use Rattle.mx_history.specs.History.{Addition, Message, same_ticket, same_handle, occurs, addition_of, past, message_of, removes, ends, reads, added, waiting, running, paused, beyond, has_ticket, has_handle, is_first, last_is_pause, end_by, end_of, phase_by, phase_of, may_follow, is_legal_after, is_legal}
use Rattle.mx_history.specs.declared.row.Phase.{Phase}
use Rattle.mx_history.specs.declared.row.Phase.TheVariants as phase
use Rattle.mx_history.specs.Rows.{phase_after, ended_phase, read_phase, is_open, is_read}
use Rattle.mx_history.specs.Laws.{then}
use Rattle.mx_history.proofs.Snoc.{occurs-snoc, standing-snoc, phase_of-snoc, or_false}
use Rattle.mx_history.proofs.Lists.{Each-map, Each-append, Each-filter, filter_true, filter_idle, same-is, same-refl, at_ticket, has-filter, has-append_left, has-stays}

abbrev pub tickets : List Event → List Ticket
tickets j = map (λ a. a.ticket) (added j)

abbrev pub is_done : Phase → Bool
is_done (phase.Done _) = true
is_done _ = false

-- a ticket has ended exactly where its phase is no longer open
end_by-ends : (t : Ticket) (e : What) (later : List Event) → is_some (end_by t e later) ≡ ends t e
end_by-ends t (what.Done u c n) later = elim (same_ticket t u) as (λ b. is_some (cond {A = Option (Code × Bool)} b (Some (c, occurs (reads t) later)) None) ≡ b) [ true ↦ refl | false ↦ refl ]
end_by-ends t _ later = refl

some_or : (a b : Option (Code × Bool)) → is_some (option_or a b) ≡ (is_some a || is_some b)
some_or None b = refl
some_or (Some x) b = refl

occurs-end : (t : Ticket) (j : List Event) → occurs (ends t) j ≡ is_some (end_of t j)
occurs-end t [] = refl
occurs-end t (x ∷ j) =
    ap (λ b. b || occurs (ends t) j) (sym (end_by-ends t x.what j)) ∙ ap (λ b. is_some (end_by t x.what j) || b) (occurs-end t j)
    ∙ sym (some_or (end_by t x.what j) (end_of t j))

some_phase : (o : Option (Code × Bool)) (h : Bool) → is_some o ≡ not (is_open (phase_by o h))
some_phase None true = refl
some_phase None false = refl
some_phase (Some (c, true)) h = refl
some_phase (Some (c, false)) h = refl

pub ends-phase : (t : Ticket) (j : List Event) → occurs (ends t) j ≡ not (is_open (phase_of t j))
ends-phase t j = occurs-end t j ∙ some_phase (end_of t j) (last_is_pause t j)

-- what each event leaves of the lists
pub added-then : (j : List Event) (w : Who) (e : What) → added (then j w e) ≡ filter (λ a. not (removes a.ticket e)) (added j) ++ option_to_list (addition_of e)
added-then j w e = standing-snoc addition_of (λ a. removes a.ticket) j (record { who = w; what = e })

pub waiting-then : (j : List Event) (w : Who) (e : What)
    → waiting (then j w e) ≡ filter (λ m. not (reads m.ticket e || removes m.ticket e)) (waiting j) ++ option_to_list (message_of e)
waiting-then j w e = standing-snoc message_of (λ m x. reads m.ticket x || removes m.ticket x) j (record { who = w; what = e })

pub beyond-then : (j : List Event) (w : Who) (e : What) → beyond (then j w e) ≡ max (beyond j) (past e)
beyond-then [] w e = omega arith
beyond-then (x ∷ j) w e = let k = beyond-then j w e in omega arith

-- an event that adds nothing
pub beyond_stays : (j : List Event) (w : Who) (e : What) → past e ≡ 0 → beyond (then j w e) ≡ beyond j
beyond_stays j w e none = let k = beyond-then j w e in omega arith

pub record Laws (j : List Event) : Type 0 where
  pub late : (t : Ticket) → occurs (reads t) j ≡ is_read (phase_of t j)
  pub fresh : (t : Ticket) → beyond j ≤ t.0 → (phase_of t j ≡ phase.Running) × (occurs (removes t) j ≡ false)
  pub kept : AllByRecursion (λ t. (t.0 < beyond j) × (occurs (removes t) j ≡ false)) (tickets j)
  pub waits : AllByRecursion (λ m. (phase_of m.ticket j ≡ phase.Done m.code) × (has_ticket m.ticket (tickets j) ≡ true)) (waiting j)

read_ended : (b : Bool) (new p : Phase) → is_read new ≡ false → (is_read p || false) ≡ is_read (cond b (ended_phase new p) p)
read_ended b new (phase.Done c) h = elim b as (λ v. false ≡ is_read (cond v (phase.Done c) (phase.Done c))) [ true ↦ refl | false ↦ refl ]
read_ended b new (phase.Read c) h = elim b as (λ v. true ≡ is_read (cond v (phase.Read c) (phase.Read c))) [ true ↦ refl | false ↦ refl ]
read_ended true new phase.Running h = sym h
read_ended true new phase.Paused h = sym h
read_ended false new phase.Running h = refl
read_ended false new phase.Paused h = refl

read_read : (b : Bool) (p : Phase) → (b ≡ true → is_done p ≡ true) → (is_read p || b) ≡ is_read (cond b (read_phase p) p)
read_read false p h = or_false (is_read p)
read_read true phase.Running h = absurd (false≢true (h refl))
read_read true phase.Paused h = absurd (false≢true (h refl))
read_read true (phase.Done c) h = refl
read_read true (phase.Read c) h = refl

late_one : (e : What) (t : Ticket) (p : Phase) → (reads t e ≡ true → is_done p ≡ true) → (is_read p || reads t e) ≡ is_read (phase_after t e p)
late_one (what.Added _ _) t p h = or_false (is_read p)
late_one (what.Removed _ _) t p h = or_false (is_read p)
late_one (what.Done u c _) t p h = read_ended (same_ticket t u) (phase.Done c) p refl
late_one (what.Read u) t p h = read_read (same_ticket t u) p h
late_one (what.Paused u) t p h = read_ended (same_ticket t u) phase.Paused p refl
late_one (what.Resumed u) t p h = read_ended (same_ticket t u) phase.Running p refl
late_one what.Wake t p h = or_false (is_read p)

pub late-then : (j : List Event) (w : Who) (e : What) → Laws j → ((t : Ticket) → reads t e ≡ true → is_done (phase_of t j) ≡ true)
    → (t : Ticket) → occurs (reads t) (then j w e) ≡ is_read (phase_of t (then j w e))
late-then j w e l h t =
    rw (occurs-snoc (reads t) j (record { who = w; what = e }), phase_of-snoc t j (record { who = w; what = e }), l.late t)
    (late_one e t (phase_of t j) (h t))

cond_same : {X : Type 0} (b : Bool) (x : X) → cond b x x ≡ x
cond_same true x = refl
cond_same false x = refl

-- an unread message's phase stays, unless it is read
done_stays : (e : What) (t : Ticket) (c : Code) → reads t e ≡ false → phase_after t e (phase.Done c) ≡ phase.Done c
done_stays (what.Done u _ _) t c h = cond_same (same_ticket t u) (phase.Done c)
done_stays (what.Read u) t c h = ap (λ b. cond b (phase.Read c) (phase.Done c)) h
done_stays (what.Paused u) t c h = cond_same (same_ticket t u) (phase.Done c)
done_stays (what.Resumed u) t c h = cond_same (same_ticket t u) (phase.Done c)
done_stays _ t c h = refl

abbrev pub IsUnread : List Event → List Ticket → Message → Type 0
IsUnread j ts m = (phase_of m.ticket j ≡ phase.Done m.code) × (has_ticket m.ticket ts ≡ true)

unread_then : (j : List Event) (w : Who) (e : What) (m : Message) (ts us : List Ticket) → reads m.ticket e ≡ false
    → (has_ticket m.ticket ts ≡ true → has_ticket m.ticket us ≡ true) → IsUnread j ts m → IsUnread (then j w e) us m
unread_then j w e m ts us r more u =
    (phase_of-snoc m.ticket j (record { who = w; what = e }) ∙ ap (phase_after m.ticket e) u.0 ∙ done_stays e m.ticket m.code r, more u.1)

-- a ticket that was never added
fresh_then : (j : List Event) (w : Who) (e : What) → Laws j → (t : Ticket) → beyond j ≤ t.0
    → removes t e ≡ false → phase_after t e phase.Running ≡ phase.Running
    → (phase_of t (then j w e) ≡ phase.Running) × (occurs (removes t) (then j w e) ≡ false)
fresh_then j w e l t new r p =
    let f = l.fresh t new in (
      phase_of-snoc t j (record { who = w; what = e }) ∙ ap (phase_after t e) f.0 ∙ p,
      occurs-snoc (removes t) j (record { who = w; what = e }) ∙ ap (λ b. b || removes t e) f.1 ∙ r,
    )

-- an added ticket is below
pub below : (j : List Event) → Laws j → (t : Ticket) → has_ticket t (tickets j) ≡ true → t.0 < beyond j
below j l t h = (at_ticket (λ u. (u.0 < beyond j) × (occurs (removes u) j ≡ false)) t (tickets j) l.kept h).0

-- and differs from one that was never added
differs : (j : List Event) → Laws j → (t u : Ticket) → has_ticket u (tickets j) ≡ true → beyond j ≤ t.0 → same_ticket t u ≡ false
differs j l t u h new = let k = below j l u h in ne_eqb t.0 u.0 (λ e. omega arith)

-- an event that adds and removes nothing
laws-same : (j : List Event) (w : Who) (e : What) → Laws j
    → added (then j w e) ≡ added j → beyond (then j w e) ≡ beyond j → ((t : Ticket) → removes t e ≡ false)
    → ((t : Ticket) → reads t e ≡ true → is_done (phase_of t j) ≡ true)
    → ((t : Ticket) → beyond j ≤ t.0 → phase_after t e phase.Running ≡ phase.Running)
    → AllByRecursion (IsUnread (then j w e) (tickets j)) (waiting (then j w e))
    → Laws (then j w e)
laws-same j w e l same count rem lat fr wait =
    record {
      late = late-then j w e l lat;
      fresh = λ t new. fresh_then j w e l t (rw (← count) new) (rem t) (fr t (rw (← count) new));
      kept = rw (same, count)
          (Each-map (λ t. (t.0 < beyond j) × (occurs (removes t) j ≡ false)) (λ t. (t.0 < beyond j) × (occurs (removes t) (then j w e) ≡ false))
          (λ t k. (k.0, occurs-snoc (removes t) j (record { who = w; what = e }) ∙ ap (λ b. b || removes t e) k.1 ∙ rem t)) (tickets j) l.kept);
      waits = rw same wait;
    }

pub running-has : (j : List Event) (t : Ticket) → has_ticket t (running j) ≡ true → (has_ticket t (tickets j) ≡ true) × (is_open (phase_of t j) ≡ true)
running-has j t h =
    let k = has-filter t (λ u. not (occurs (ends u) j)) (tickets j) h in
    (k.0, not-false _ (sym (ends-phase t j) ∙ not-true _ k.1))

neither : (a b : Bool) → (a || b) ≡ false → (a ≡ false) × (b ≡ false)
neither false false h = (refl, refl)
neither false true h = absurd (false≢true (sym h))
neither true b h = absurd (false≢true (sym h))

-- the unread messages after an event
waits-then : (j : List Event) (w : Who) (e : What) → Laws j → (us : List Ticket)
    → ((m : Message) → removes m.ticket e ≡ false → has_ticket m.ticket (tickets j) ≡ true → has_ticket m.ticket us ≡ true)
    → AllByRecursion (IsUnread (then j w e) us) (option_to_list (message_of e))
    → AllByRecursion (IsUnread (then j w e) us) (waiting (then j w e))
waits-then j w e l us more new =
    rw (waiting-then j w e)
    (Each-append (IsUnread (then j w e) us) _ _
    (Each-filter (λ m. not (reads m.ticket e || removes m.ticket e)) (IsUnread j (tickets j)) (IsUnread (then j w e) us)
    (λ m keep u. let k = neither (reads m.ticket e) (removes m.ticket e) (not-true _ keep) in unread_then j w e m (tickets j) us k.0 (more m k.1) u)
    (waiting j) l.waits)
    new)

ended_open : (new p : Phase) → is_open p ≡ true → ended_phase new p ≡ new
ended_open new phase.Running h = refl
ended_open new phase.Paused h = refl
ended_open new (phase.Done c) h = absurd (false≢true h)
ended_open new (phase.Read c) h = absurd (false≢true h)

-- the first message of a list of which each member is unread
pub first_unread : (j : List Event) (t : Ticket) (ms : List Message) → AllByRecursion (IsUnread j (tickets j)) ms → is_first t ms ≡ true
    → (is_done (phase_of t j) ≡ true) × (has_ticket t (tickets j) ≡ true)
first_unread j t [] a h = absurd (false≢true h)
first_unread j t (m ∷ ms) a h =
    let same : t ≡ m.ticket = same-is t m.ticket h in
    (rw same (ap is_done a.0.0), rw same a.0.1)

pub map-filter_tickets : (p : Ticket → Bool) (xs : List Addition) → map (λ a. a.ticket) (filter (λ a. p a.ticket) xs) ≡ filter p (map (λ a. a.ticket) xs)
map-filter_tickets p [] = refl
map-filter_tickets p (x ∷ xs) =
    go (p x.ticket) ∙ ap (λ z. cond (p x.ticket) (x.ticket ∷ z) z) (map-filter_tickets p xs)
  where
    go : (b : Bool) → map (λ a. a.ticket) (cond b (x ∷ filter (λ a. p a.ticket) xs) (filter (λ a. p a.ticket) xs))
        ≡ cond b (x.ticket ∷ map (λ a. a.ticket) (filter (λ a. p a.ticket) xs)) (map (λ a. a.ticket) (filter (λ a. p a.ticket) xs))
    go true = refl
    go false = refl

pub filter_messages : (p : Ticket → Bool) (ms : List Message) → map (λ m. m.ticket) (filter (λ m. p m.ticket) ms) ≡ filter p (map (λ m. m.ticket) ms)
filter_messages p [] = refl
filter_messages p (m ∷ ms) = go (p m.ticket) ∙ ap (λ z. cond (p m.ticket) (m.ticket ∷ z) z) (filter_messages p ms)
  where
    go : (b : Bool) → map (λ (y : Message). y.ticket) (cond b (m ∷ filter (λ y. p y.ticket) ms) (filter (λ y. p y.ticket) ms))
        ≡ cond b (m.ticket ∷ map (λ (y : Message). y.ticket) (filter (λ y. p y.ticket) ms)) (map (λ (y : Message). y.ticket) (filter (λ y. p y.ticket) ms))
    go true = refl
    go false = refl

quiet : (t : Ticket) (b : Bool) (j : List Event) → b ≡ false → b ≡ true → is_done (phase_of t j) ≡ true
quiet t b j off on = absurd (false≢true (sym off ∙ on))

pub tickets-removed : (j : List Event) (w : Who) (h : HandleId) (t : Ticket)
    → tickets (then j w (what.Removed h t)) ≡ filter (λ u. not (same_ticket u t)) (tickets j)
tickets-removed j w h t =
    ap (map (λ a. a.ticket)) (added-then j w (what.Removed h t) ∙ append-nil _) ∙ map-filter_tickets (λ u. not (same_ticket u t)) (added j)

pub has_addition : (t : Ticket) (h : HandleId) (xs : List Addition)
    → list_any (λ a. same_handle h a.handle && same_ticket t a.ticket) xs ≡ true → has_ticket t (map (λ a. a.ticket) xs) ≡ true
has_addition t h [] k = absurd (false≢true k)
has_addition t h (a ∷ xs) k =
    elim (or_cases _ _ k) [
      | inl b ↦ or_left _ _ (and_parts (same_handle h a.handle) (same_ticket t a.ticket) b).1
      | inr b ↦ or_right _ _ (has_addition t h xs b)
    ]

pub laws-then : (j : List Event) (w : Who) (e : What) → Laws j → may_follow j e ≡ true → Laws (then j w e)
laws-then j w (what.Added h t) l m =
    let e = what.Added h t in
    let k = and_parts (not (has_handle h (added j)) && nat_lt (length (added j)) most_handles) (nat_le (beyond j) t.0) m in
    let n : beyond j ≤ t.0 = leb-true (beyond j) t.0 k.1 in
    let count : beyond (then j w e) ≡ t.0 + 1 = let q = beyond-then j w e in omega arith in
    let us : tickets (then j w e) ≡ tickets j ++ t ∷ [] =
    ap (map (λ a. a.ticket)) (added-then j w e ∙ ap (λ z. z ++ record { handle = h; ticket = t } ∷ []) (filter_true (added j))) ∙ map-append (λ (a : Addition). a.ticket) (added j) _ in
    record {
      late = late-then j w e l (λ u r. quiet u false j refl r);
      fresh = λ u new. fresh_then j w e l u (omega (arith, count, new)) refl refl;
      kept = rw (us, count) (Each-append (λ u. (u.0 < t.0 + 1) × (occurs (removes u) (then j w e) ≡ false)) (tickets j) (t ∷ [])
          (Each-map (λ u. (u.0 < beyond j) × (occurs (removes u) j ≡ false)) (λ u. (u.0 < t.0 + 1) × (occurs (removes u) (then j w e) ≡ false))
          (λ u x. let lt = x.0 in (omega arith, occurs-snoc (removes u) j (record { who = w; what = e }) ∙ or_false _ ∙ x.1)) (tickets j) l.kept)
          ((omega arith, occurs-snoc (removes t) j (record { who = w; what = e }) ∙ or_false _ ∙ (l.fresh t (omega arith)).1), tt));
      waits = rw us (waits-then j w e l (tickets j ++ t ∷ []) (λ x _ i. has-append_left x.ticket (tickets j) (t ∷ []) i) tt);
    }
laws-then j w (what.Removed h t) l m =
    let e = what.Removed h t in
    let count : beyond (then j w e) ≡ beyond j = beyond_stays j w e refl in
    let us = tickets-removed j w h t in
    let has = has_addition t h (added j) m in
    record {
      late = late-then j w e l (λ u r. quiet u false j refl r);
      fresh = λ u new. fresh_then j w e l u (rw (← count) new) (differs j l u t has (rw (← count) new)) refl;
      kept = rw (us, count) (Each-filter (λ u. not (same_ticket u t)) (λ u. (u.0 < beyond j) × (occurs (removes u) j ≡ false)) (λ u. (u.0 < beyond j) × (occurs (removes u) (then j w e) ≡ false))
          (λ u keep x. (x.0, occurs-snoc (removes u) j (record { who = w; what = e }) ∙ ap (λ b. b || same_ticket u t) x.1 ∙ not-true _ keep)) (tickets j) l.kept);
      waits = rw us (waits-then j w e l (filter (λ u. not (same_ticket u t)) (tickets j))
          (λ x gone i. has-stays x.ticket (λ u. not (same_ticket u t)) (tickets j) i (not_from_false _ gone)) tt);
    }
laws-then j w (what.Done t c n) l m =
    let e = what.Done t c n in
    let r = running-has j t m in
    let became : phase_of t (then j w e) ≡ phase.Done c =
    phase_of-snoc t j (record { who = w; what = e }) ∙ ap (λ b. cond b (ended_phase (phase.Done c) (phase_of t j)) (phase_of t j)) (same-refl t) ∙ ended_open (phase.Done c) (phase_of t j) r.1 in
    laws-same j w e l (added-then j w e ∙ filter_idle (added j)) (beyond_stays j w e refl) (λ u. refl) (λ u x. quiet u false j refl x)
    (λ u new. ap (λ b. cond b (phase.Done c) phase.Running) (differs j l u t r.0 new))
    (waits-then j w e l (tickets j) (λ x _ i. i) ((became, r.0), tt))
laws-then j w (what.Read t) l m =
    let e = what.Read t in
    let f = first_unread j t (waiting j) l.waits m in
    laws-same j w e l (added-then j w e ∙ filter_idle (added j)) (beyond_stays j w e refl) (λ u. refl)
    (λ u x. rw (same-is u t x) f.0)
    (λ u new. cond_same (same_ticket u t) phase.Running)
    (waits-then j w e l (tickets j) (λ x _ i. i) tt)
laws-then j w (what.Paused t) l m =
    let e = what.Paused t in
    let r = running-has j t (and_parts (has_ticket t (running j)) (not (has_ticket t (paused j))) m).0 in
    laws-same j w e l (added-then j w e ∙ filter_idle (added j)) (beyond_stays j w e refl) (λ u. refl) (λ u x. quiet u false j refl x)
    (λ u new. ap (λ b. cond b phase.Paused phase.Running) (differs j l u t r.0 new))
    (waits-then j w e l (tickets j) (λ x _ i. i) tt)
laws-then j w (what.Resumed t) l m =
    let e = what.Resumed t in
    laws-same j w e l (added-then j w e ∙ filter_idle (added j)) (beyond_stays j w e refl) (λ u. refl) (λ u x. quiet u false j refl x)
    (λ u new. cond_same (same_ticket u t) phase.Running)
    (waits-then j w e l (tickets j) (λ x _ i. i) tt)
laws-then j w what.Wake l m =
    let e = what.Wake in
    laws-same j w e l (added-then j w e ∙ filter_idle (added j)) (beyond_stays j w e refl) (λ u. refl) (λ u x. quiet u false j refl x)
    (λ u new. refl)
    (waits-then j w e l (tickets j) (λ x _ i. i) tt)

pub laws_none : Laws []
laws_none = record { late = λ t. refl; fresh = λ t _. (refl, refl); kept = tt; waits = tt }

laws_from : (f j : List Event) → Laws f → is_legal_after f j ≡ true → Laws (f ++ j)
laws_from f [] l h = rw (append-nil f) l
laws_from f (e ∷ j) l h =
    let k = and_parts (may_follow f e.what) (is_legal_after (f ++ e ∷ []) j) h in
    rw (← append_assoc f (e ∷ []) j) (laws_from (f ++ e ∷ []) j (laws-then f e.who e.what l k.0) k.1)

pub laws : (j : List Event) → is_legal j ≡ true → Laws j
laws j h = laws_from [] j laws_none h
