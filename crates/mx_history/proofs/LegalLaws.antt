-- The laws of legal histories.
use Rattle.std.proofs.Common.{◌≡◌, ℕ, ◌+◌, ◌<◌, ◌≤◌, ◌∙◌, sym, refl, ap, subst, List, [], ◌∷◌, ◌++◌, append-nil, append_assoc, length, Bool, true, false, cond, map, drop, arith, zero-add, inl, inr}
use Rattle.std.specs.Prelude.{zero, suc, not, ◌&&◌, ◌||◌, nat_lt, nat_le, IfSome, Option, Some, None}
use Rattle.std.specs.List.{filter, list_any}
use Rattle.std.specs.Option.{is_some, option_to_list}
use Rattle.std.proofs.lemmas.Bool.{eqb-true, leb-true, eqb-false, ne_eqb, and_parts, and_from, false_from_ne_true, false≢true, true≢false, not-true, not-false, not_from_false, cases_Bool, or_cases, or_left}
use Rattle.std.proofs.lemmas.List.{map-append}
use Rattle.std.proofs.lemmas.List.Folds.{list_any-append}
use Rattle.std.proofs.lemmas.List.Sums.{sum_by_push, sum_by-cons}
use Rattle.mx_types.specs.Limits.{most_handles}
use Rattle.mx_types.specs.declared.code.Code.{Code}
use Rattle.mx_types.specs.declared.names.HandleId.{HandleId}
use Rattle.mx_types.specs.declared.names.Ticket.{Ticket}
use Rattle.mx_types.specs.declared.event.Who.{Who}
use Rattle.mx_types.specs.declared.event.What.{What}
use Rattle.mx_types.specs.declared.event.What.TheVariants as what
use Rattle.mx_types.specs.declared.event.Event.{Event}
use Rattle.mx_history.specs.declared.row.Phase.{Phase}
use Rattle.mx_history.specs.declared.row.Phase.TheVariants as phase
use Rattle.mx_history.specs.History.{Addition, Message, HasRoomForDue, Opening, is_first, last_is_pause, same_handle, same_ticket, occurs, wakes, addition_of, removes, ends, reads, added, waiting, running, paused, past, beyond, has_handle, has_ticket, phase_of, may_follow, is_legal, is_legal_after, has_room, needs}
use Rattle.mx_history.specs.Answers.{Answer, only, ticket_of, handle_of, next_ticket, are_spent, pausing_answer, read_answer}
use Rattle.mx_types.specs.declared.call.Call.TheVariants as call
use Rattle.mx_types.specs.declared.reply.Reply.TheVariants as reply
use Rattle.mx_history.specs.Rows.{is_open, is_read}
use Rattle.mx_history.specs.Laws.{then, adds, count_of_events, is_of, IsOnceEach, NeverRunsAgain, AnswerIsLegal, PrefixIsLegal, ClosingFindsRoom, EachAtMostOnce, NothingAfterRemoval, LegalIsTidy, ReadyStays}
use Rattle.mx_history.proofs.Snoc.{occurs-snoc}
use Rattle.mx_history.proofs.Lists.{Each-map, filter_idle, has-filter, has-stays, at_ticket, same-is, same-refl}
use Rattle.mx_history.proofs.Histories.{tickets, Laws, laws, laws-then, laws_none, added-then, beyond-then, running-has, first_unread, has_addition, is_done, ends-phase, below, beyond_stays, tickets-removed}
use Rattle.mx_history.proofs.TableLaws.{kept-then, few}
use Rattle.mx_history.proofs.Tickets.{room_none, ordered, once, none_added, tickets-then, may_add, found_any, parts_false}

-- 1. A prefix.

after_append : (f j k : List Event) → is_legal_after f (j ++ k) ≡ true → is_legal_after f j ≡ true
after_append f [] k h = refl
after_append f (e ∷ j) k h =
    let x = and_parts (may_follow f e.what) (is_legal_after (f ++ e ∷ []) (j ++ k)) h in
    and_from _ _ x.0 (after_append (f ++ e ∷ []) j k x.1)

pub prefix_is_legal : PrefixIsLegal
prefix_is_legal j k h = after_append [] j k h

pub after_split : (f j k : List Event) → is_legal_after f (j ++ k) ≡ true → is_legal_after (f ++ j) k ≡ true
after_split f [] k h = rw (append-nil f) h
after_split f (e ∷ j) k h =
    let x = and_parts (may_follow f e.what) (is_legal_after (f ++ e ∷ []) (j ++ k)) h in
    rw (← append_assoc f (e ∷ []) j) (after_split (f ++ e ∷ []) j k x.1)

-- 2. Room.

pub closing_finds_room : ClosingFindsRoom
closing_finds_room history j w (what.Done t c n) k is m = kept-then history j w (what.Done t c n) k m (room_none history j k)
closing_finds_room history j w (what.Read t) k is m = kept-then history j w (what.Read t) k m (room_none history j k)
closing_finds_room history j w (what.Removed h t) k is m = kept-then history j w (what.Removed h t) k m (room_none history j k)
closing_finds_room history j w (what.Added h t) k is m = absurd (false≢true is)
closing_finds_room history j w (what.Paused t) k is m = absurd (false≢true is)
closing_finds_room history j w (what.Resumed t) k is m = absurd (false≢true is)
closing_finds_room history j w what.Wake k is m = absurd (false≢true is)

-- 3. Tidy.

either_off : (a c : Bool) → (a || c) ≡ false → (a ≡ false) × (c ≡ false)
either_off false false z = (refl, refl)
either_off false true z = absurd (true≢false z)
either_off true c z = absurd (true≢false z)

once_kept : (h : HandleId) (p : Addition → Bool) (xs : List Addition) (b : Bool) (x : Addition) → x.handle ≡ h
    → list_any (same_handle h) (map (λ a. a.handle) xs) ≡ false → IsOnceEach (map (λ a. a.handle) (filter p xs))
    → IsOnceEach (map (λ a. a.handle) (cond b (x ∷ filter p xs) (filter p xs)))
once_kept h p xs true x e off o = (rw e (filter_off h p xs off), o) where
  one_off : (h : HandleId) (p : Addition → Bool) (y : Addition) (ys : List Addition) (b : Bool) → same_handle h y.handle ≡ false
      → list_any (same_handle h) (map (λ a. a.handle) (filter p ys)) ≡ false → list_any (same_handle h) (map (λ a. a.handle) (cond b (y ∷ filter p ys) (filter p ys))) ≡ false
  one_off h p y ys true s r = rw s r
  one_off h p y ys false s r = r

  filter_off : (h : HandleId) (p : Addition → Bool) (xs : List Addition) → list_any (same_handle h) (map (λ a. a.handle) xs) ≡ false
      → list_any (same_handle h) (map (λ a. a.handle) (filter p xs)) ≡ false
  filter_off h p [] off = refl
  filter_off h p (y ∷ ys) off = let k = either_off _ _ off in one_off h p y ys (p y) k.0 (filter_off h p ys k.1)
once_kept h p xs false x e off o = o

once_filter : (p : Addition → Bool) (xs : List Addition) → IsOnceEach (map (λ a. a.handle) xs) → IsOnceEach (map (λ a. a.handle) (filter p xs))
once_filter p [] o = tt
once_filter p (x ∷ xs) o = once_kept x.handle p xs (p x) x refl o.0 (once_filter p xs o.1)

has_handles : (h : HandleId) (xs : List Addition) → list_any (same_handle h) (map (λ a. a.handle) xs) ≡ has_handle h xs
has_handles h [] = refl
has_handles h (x ∷ xs) = ap (λ b. same_handle h x.handle || b) (has_handles h xs)

handle_flip : (h k : HandleId) → same_handle h k ≡ false → same_handle k h ≡ false
handle_flip h k s = ne_eqb k.0 h.0 (λ e. eqb-false h.0 k.0 s (sym e))

once_push : (xs : List HandleId) (h : HandleId) → IsOnceEach xs → list_any (same_handle h) xs ≡ false → IsOnceEach (xs ++ h ∷ [])
once_push [] h o off = (refl, tt)
once_push (x ∷ xs) h o off = (last_off o.0 (handle_flip h x (split off).0), once_push xs h o.1 (split off).1) where
  split : {a b : Bool} → (a || b) ≡ false → (a ≡ false) × (b ≡ false)
  split {a} {b} z = either_off a b z

  last_off : list_any (same_handle x) xs ≡ false → same_handle x h ≡ false → list_any (same_handle x) (xs ++ h ∷ []) ≡ false
  last_off a b = list_any-append (same_handle x) xs (h ∷ []) ∙ ap (λ z. z || (same_handle x h || false)) a ∙ ap (λ z. z || false) b

handles-then : (j : List Event) (w : Who) (e : What) → may_follow j e ≡ true → IsOnceEach (map (λ a. a.handle) (added j)) → IsOnceEach (map (λ a. a.handle) (added (then j w e)))
handles-then j w (what.Added h t) m o =
    let k = and_parts (not (has_handle h (added j))) (nat_lt (length (added j)) most_handles) (and_parts (not (has_handle h (added j)) && nat_lt (length (added j)) most_handles) (nat_le (beyond j) t.0) m).0 in
    rw (added-then j w (what.Added h t), map-append (λ (a : Addition). a.handle) (filter (λ a. true) (added j)) (record { handle = h; ticket = t } ∷ []))
    (once_push (map (λ a. a.handle) (filter (λ a. true) (added j))) h (once_filter (λ a. true) (added j) o)
    (has_handles h (filter (λ a. true) (added j)) ∙ ap (has_handle h) (filter_all (added j)) ∙ not-true _ k.0))
  where
    filter_all : (xs : List Addition) → filter (λ a. true) xs ≡ xs
    filter_all [] = refl
    filter_all (x ∷ xs) = ap (λ z. x ∷ z) (filter_all xs)
handles-then j w (what.Removed h t) m o =
    rw (added-then j w (what.Removed h t), append-nil (filter (λ a. not (same_ticket a.ticket t)) (added j))) (once_filter (λ a. not (same_ticket a.ticket t)) (added j) o)
handles-then j w (what.Done t c n) m o = rw (added-then j w (what.Done t c n), filter_idle (added j)) o
handles-then j w (what.Read t) m o = rw (added-then j w (what.Read t), filter_idle (added j)) o
handles-then j w (what.Paused t) m o = rw (added-then j w (what.Paused t), filter_idle (added j)) o
handles-then j w (what.Resumed t) m o = rw (added-then j w (what.Resumed t), filter_idle (added j)) o
handles-then j w what.Wake m o = rw (added-then j w what.Wake, filter_idle (added j)) o

handles_from : (f j : List Event) → IsOnceEach (map (λ a. a.handle) (added f)) → is_legal_after f j ≡ true → IsOnceEach (map (λ a. a.handle) (added (f ++ j)))
handles_from f [] o h = rw (append-nil f) o
handles_from f (e ∷ j) o h =
    let k = and_parts (may_follow f e.what) (is_legal_after (f ++ e ∷ []) j) h in
    rw (← append_assoc f (e ∷ []) j) (handles_from (f ++ e ∷ []) j (handles-then f e.who e.what k.0 o) k.1)

added_handle : (j : List Event) → is_legal j ≡ true → (m : Message) → has_ticket m.ticket (tickets j) ≡ true → is_some (handle_of m.ticket j) ≡ true
added_handle j l m h = go (handle_of m.ticket j) refl where
  go : (o : Option HandleId) → o ≡ handle_of m.ticket j → is_some o ≡ true
  go (Some x) e = refl
  go None e = absurd (false≢true (sym (none_added j l m.ticket e) ∙ h))

pub legal_is_tidy : LegalIsTidy
legal_is_tidy j l = record {
  few = few j l;
  handles = handles_from [] j tt l;
  rising = ordered j l;
  waiting_once = once j l;
  waiting_added = Each-map (λ m. (phase_of m.ticket j ≡ phase.Done m.code) × (has_ticket m.ticket (tickets j) ≡ true)) (λ m. is_some (handle_of m.ticket j) ≡ true)
      (λ m u. added_handle j l m u.1) (waiting j) (laws j l).waits;
}

-- 4. Polls.

drop_short : (n : ℕ) (j k : List Event) → (test : What → Bool) → occurs test (drop n j) ≡ true → occurs test (drop n (j ++ k)) ≡ true
drop_short zero j k test h = list_any-append (λ e. test e.what) j k ∙ or_left _ _ h
drop_short (suc n) [] k test h = absurd (false≢true h)
drop_short (suc n) (e ∷ j) k test h = drop_short n j k test h

pub ready_stays : ReadyStays
ready_stays mark j k h = drop_short mark j k wakes h

-- 5. Each ticket's events.

abbrev one : Bool → ℕ
one b = cond b 1 0

counted : (test : What → Bool) (j : List Event) (w : Who) (e : What) → count_of_events test (then j w e) ≡ count_of_events test j + cond (test e) 1 0
counted test j w e = sum_by_push (λ (x : Event). cond (test x.what) 1 0) j (record { who = w; what = e })

none_counted : (test : What → Bool) (j : List Event) → occurs test j ≡ false → count_of_events test j ≡ 0
none_counted test [] h = refl
none_counted test (e ∷ j) h =
    let k = either_off (test e.what) (occurs test j) h in
    sum_by-cons (λ (x : Event). cond (test x.what) 1 0) e j ∙ ap (λ b. one b + count_of_events test j) k.0 ∙ zero-add _ ∙ none_counted test j k.1

-- where an event of the kind comes only after none of them, there is at most one
once_from : (test : What → Bool) → ((f : List Event) → Laws f → (e : What) → may_follow f e ≡ true → test e ≡ true → occurs test f ≡ false)
    → (f j : List Event) → Laws f → count_of_events test f ≤ 1 → is_legal_after f j ≡ true → count_of_events test (f ++ j) ≤ 1
once_from test first f [] l c h = rw (append-nil f) c
once_from test first f (e ∷ j) l c h =
    let k = and_parts (may_follow f e.what) (is_legal_after (f ++ e ∷ []) j) h in
    rw (← append_assoc f (e ∷ []) j) (once_from test first (f ++ e ∷ []) j (laws-then f e.who e.what l k.0) (more (test e.what) refl k.0) k.1)
  where
    more : (b : Bool) → test e.what ≡ b → may_follow f e.what ≡ true → count_of_events test (f ++ e ∷ []) ≤ 1
    more true is m = let n = counted test f e.who e.what in let z = none_counted test f (first f l e.what m is) in omega (arith, n, z, ap one is, c)
    more false is m = let n = counted test f e.who e.what in omega (arith, n, ap one is, c)

ends_first : (t : Ticket) (f : List Event) → Laws f → (e : What) → may_follow f e ≡ true → ends t e ≡ true → occurs (ends t) f ≡ false
ends_first t f l (what.Done u c n) m is = ends-phase t f ∙ ap (λ v. not (is_open (phase_of v f))) (same-is t u is) ∙ ap not (running-has f u m).1
ends_first t f l (what.Added _ _) m is = absurd (false≢true is)
ends_first t f l (what.Removed _ _) m is = absurd (false≢true is)
ends_first t f l (what.Read _) m is = absurd (false≢true is)
ends_first t f l (what.Paused _) m is = absurd (false≢true is)
ends_first t f l (what.Resumed _) m is = absurd (false≢true is)
ends_first t f l what.Wake m is = absurd (false≢true is)

done_unread : (p : Phase) → is_done p ≡ true → is_read p ≡ false
done_unread phase.Running h = refl
done_unread phase.Paused h = refl
done_unread (phase.Done c) h = refl
done_unread (phase.Read c) h = absurd (false≢true h)

reads_first : (t : Ticket) (f : List Event) → Laws f → (e : What) → may_follow f e ≡ true → reads t e ≡ true → occurs (reads t) f ≡ false
reads_first t f l (what.Read u) m is = l.late t ∙ ap (λ v. is_read (phase_of v f)) (same-is t u is) ∙ done_unread (phase_of u f) (first_unread f u (waiting f) l.waits m).0
reads_first t f l (what.Added _ _) m is = absurd (false≢true is)
reads_first t f l (what.Removed _ _) m is = absurd (false≢true is)
reads_first t f l (what.Done _ _ _) m is = absurd (false≢true is)
reads_first t f l (what.Paused _) m is = absurd (false≢true is)
reads_first t f l (what.Resumed _) m is = absurd (false≢true is)
reads_first t f l what.Wake m is = absurd (false≢true is)

-- an added ticket was not removed
pub unremoved : (f : List Event) → Laws f → (t : Ticket) → has_ticket t (tickets f) ≡ true → occurs (removes t) f ≡ false
unremoved f l t h = (at_ticket (λ u. (u.0 < beyond f) × (occurs (removes u) f ≡ false)) t (tickets f) l.kept h).1

removes_first : (t : Ticket) (f : List Event) → Laws f → (e : What) → may_follow f e ≡ true → removes t e ≡ true → occurs (removes t) f ≡ false
removes_first t f l (what.Removed h u) m is = unremoved f l t (rw (same-is t u is) (has_addition u h (added f) m))
removes_first t f l (what.Added _ _) m is = absurd (false≢true is)
removes_first t f l (what.Read _) m is = absurd (false≢true is)
removes_first t f l (what.Done _ _ _) m is = absurd (false≢true is)
removes_first t f l (what.Paused _) m is = absurd (false≢true is)
removes_first t f l (what.Resumed _) m is = absurd (false≢true is)
removes_first t f l what.Wake m is = absurd (false≢true is)

-- a ticket that was added is below
abbrev AddsBelow : Ticket → List Event → Type 0
AddsBelow t f = (beyond f ≤ t.0 → occurs (adds t) f ≡ false) × (count_of_events (adds t) f ≤ 1)

adds_idle : (t : Ticket) (f : List Event) (w : Who) (e : What) → adds t e ≡ false → past e ≡ 0 → AddsBelow t f → AddsBelow t (then f w e)
adds_idle t f w e off none a =
    let same : beyond (then f w e) ≡ beyond f = beyond_stays f w e none in (
      (λ le. occurs-snoc (adds t) f (record { who = w; what = e }) ∙ ap (λ b. b || adds t e) (a.0 (omega (arith, same, le))) ∙ off),
      omega (arith, counted (adds t) f w e, ap one off, a.1),
    )

adds-then : (t : Ticket) (f : List Event) (w : Who) (e : What) → may_follow f e ≡ true → AddsBelow t f → AddsBelow t (then f w e)
adds-then t f w (what.Added h u) m a =
    let e = what.Added h u in
    let n : beyond f ≤ u.0 = leb-true (beyond f) u.0 (and_parts (not (has_handle h (added f)) && nat_lt (length (added f)) most_handles) (nat_le (beyond f) u.0) m).1 in
    let more = beyond-then f w e in
    let off : beyond (then f w e) ≤ t.0 → occurs (adds t) (then f w e) ≡ false =
    λ le. occurs-snoc (adds t) f (record { who = w; what = e }) ∙ ap (λ b. b || same_ticket t u) (a.0 (omega (arith, more, le))) ∙ ne_eqb t.0 u.0 (λ q. omega (arith, more, le, n, q)) in (
      off,
      elim (cases_Bool (same_ticket t u)) [
        | inl s ↦ (
            let q = eqb-true t.0 u.0 s in
            let z = none_counted (adds t) f (a.0 (omega (arith, n, q))) in
            omega (arith, counted (adds t) f w e, z, ap one s)
            )
        | inr s ↦ omega (arith, counted (adds t) f w e, a.1, ap one s)
      ],
    )
adds-then t f w (what.Removed h u) m a = adds_idle t f w (what.Removed h u) refl refl a
adds-then t f w (what.Done u c n) m a = adds_idle t f w (what.Done u c n) refl refl a
adds-then t f w (what.Read u) m a = adds_idle t f w (what.Read u) refl refl a
adds-then t f w (what.Paused u) m a = adds_idle t f w (what.Paused u) refl refl a
adds-then t f w (what.Resumed u) m a = adds_idle t f w (what.Resumed u) refl refl a
adds-then t f w what.Wake m a = adds_idle t f w what.Wake refl refl a

adds_from : (t : Ticket) (f j : List Event) → AddsBelow t f → is_legal_after f j ≡ true → AddsBelow t (f ++ j)
adds_from t f [] a h = rw (append-nil f) a
adds_from t f (e ∷ j) a h =
    let k = and_parts (may_follow f e.what) (is_legal_after (f ++ e ∷ []) j) h in
    rw (← append_assoc f (e ∷ []) j) (adds_from t (f ++ e ∷ []) j (adds-then t f e.who e.what k.0 a) k.1)

pub each_at_most_once : EachAtMostOnce
each_at_most_once j l t = (
  (adds_from t [] j ((λ _. refl), omega arith) l).1,
  once_from (ends t) (ends_first t) [] j laws_none (omega arith) l,
  once_from (reads t) (reads_first t) [] j laws_none (omega arith) l,
  once_from (removes t) (removes_first t) [] j laws_none (omega arith) l,
)

-- 6. After a removal.

abbrev IsGone : Ticket → List Event → Type 0
IsGone t f = (has_ticket t (tickets f) ≡ false) × (t.0 < beyond f)

-- a ticket that is in the list is another one
other : (t u : Ticket) (f : List Event) → IsGone t f → has_ticket u (tickets f) ≡ true → same_ticket t u ≡ false
other t u f g h = false_from_ne_true _ (λ s. false≢true (sym g.0 ∙ ap (λ v. has_ticket v (tickets f)) (same-is t u s) ∙ h))

gone_off : (t : Ticket) (f : List Event) → Laws f → IsGone t f → (e : What) → may_follow f e ≡ true → is_of t e ≡ false
gone_off t f l g (what.Added h u) m =
    let n : beyond f ≤ u.0 = leb-true (beyond f) u.0 (and_parts (not (has_handle h (added f)) && nat_lt (length (added f)) most_handles) (nat_le (beyond f) u.0) m).1 in
    let s : same_ticket t u ≡ false = ne_eqb t.0 u.0 (λ q. omega (arith, g.1, n, q)) in
    ap (λ b. b || false) s
gone_off t f l g (what.Removed h u) m = ap (λ b. b || false) (other t u f g (has_addition u h (added f) m))
gone_off t f l g (what.Done u c n) m = ap (λ b. b || false) (other t u f g (running-has f u m).0)
gone_off t f l g (what.Read u) m = ap (λ b. b || false) (other t u f g (first_unread f u (waiting f) l.waits m).1)
gone_off t f l g (what.Paused u) m = ap (λ b. b || false) (other t u f g (running-has f u (and_parts (has_ticket u (running f)) (not (has_ticket u (paused f))) m).0).0)
gone_off t f l g (what.Resumed u) m = other t u f g (running-has f u (has-filter u (λ v. last_is_pause v f) (running f) m).0).0
gone_off t f l g what.Wake m = refl

added_off : (t : Ticket) (e : What) → adds t e ≡ false → has_ticket t (map (λ a. a.ticket) (option_to_list (addition_of e))) ≡ false
added_off t (what.Added h u) off = ap (λ b. b || false) off
added_off t (what.Removed h u) off = refl
added_off t (what.Done u c n) off = refl
added_off t (what.Read u) off = refl
added_off t (what.Paused u) off = refl
added_off t (what.Resumed u) off = refl
added_off t what.Wake off = refl

gone-then : (t : Ticket) (f : List Event) (w : Who) (e : What) → IsGone t f → adds t e ≡ false → IsGone t (then f w e)
gone-then t f w e g off =
    let kept : has_ticket t (filter (λ u. not (removes u e)) (tickets f)) ≡ false =
    false_from_ne_true _ (λ k. false≢true (sym g.0 ∙ (has-filter t (λ u. not (removes u e)) (tickets f) k).0)) in (
      ap (has_ticket t) (tickets-then f w e) ∙ list_any-append (same_ticket t) (filter (λ u. not (removes u e)) (tickets f)) (map (λ a. a.ticket) (option_to_list (addition_of e)))
          ∙ ap (λ b. b || has_ticket t (map (λ a. a.ticket) (option_to_list (addition_of e)))) kept ∙ added_off t e off,
      omega (arith, g.1, beyond-then f w e),
    )

none_later : (t : Ticket) (f later : List Event) → Laws f → IsGone t f → is_legal_after f later ≡ true → occurs (is_of t) later ≡ false
none_later t f [] l g h = refl
none_later t f (e ∷ later) l g h =
    let k = and_parts (may_follow f e.what) (is_legal_after (f ++ e ∷ []) later) h in
    let off = gone_off t f l g e.what k.0 in
    let rest = none_later t (f ++ e ∷ []) later (laws-then f e.who e.what l k.0) (gone-then t f e.who e.what g (either_off _ _ off).0) k.1 in
    ap (λ b. b || occurs (is_of t) later) off ∙ rest

pub nothing_after_removal : NothingAfterRemoval
nothing_after_removal f later w h t l =
    let e = what.Removed h t in
    let x = laws f (prefix_is_legal f (record { who = w; what = e } ∷ later) l) in
    let k = and_parts (may_follow f e) (is_legal_after (then f w e) later) (after_split [] f (record { who = w; what = e } ∷ later) l) in
    let gone : has_ticket t (tickets (then f w e)) ≡ false =
    ap (has_ticket t) (tickets-removed f w h t) ∙ false_from_ne_true _ (λ y. true≢false (sym (same-refl t) ∙ not-true _ (has-filter t (λ u. not (same_ticket u t)) (tickets f) y).1)) in
    none_later t (then f w e) later (laws-then f w e x k.0) (gone, omega (arith, below f x t (has_addition t h (added f) k.0), beyond-then f w e)) k.1

-- 7. What runs no more.

-- tickets only rise
not_again : (t : Ticket) (f : List Event) (e : What) → t.0 < beyond f → may_follow f e ≡ true → adds t e ≡ false
not_again t f (what.Added h u) given m =
    let n : beyond f ≤ u.0 = leb-true (beyond f) u.0 (and_parts (not (has_handle h (added f)) && nat_lt (length (added f)) most_handles) (nat_le (beyond f) u.0) m).1 in
    ne_eqb t.0 u.0 (λ q. omega (arith, given, n, q))
not_again t f (what.Removed h u) given m = refl
not_again t f (what.Done u c n) given m = refl
not_again t f (what.Read u) given m = refl
not_again t f (what.Paused u) given m = refl
not_again t f (what.Resumed u) given m = refl
not_again t f what.Wake given m = refl

-- what runs after an event that doesn't add it ran before
ran_before : (t : Ticket) (f : List Event) (w : Who) (e : What) → adds t e ≡ false → has_ticket t (running (then f w e)) ≡ true → has_ticket t (running f) ≡ true
ran_before t f w e off h =
    let k = has-filter t (λ u. not (occurs (ends u) (then f w e))) (tickets (then f w e)) h in
    let unended = parts_false (occurs (ends t) f) (ends t e) (sym (occurs-snoc (ends t) f (record { who = w; what = e })) ∙ not-true _ k.1) in
    let split : (has_ticket t (filter (λ u. not (removes u e)) (tickets f)) || has_ticket t (map (λ a. a.ticket) (option_to_list (addition_of e)))) ≡ true =
    sym (list_any-append (same_ticket t) (filter (λ u. not (removes u e)) (tickets f)) (map (λ a. a.ticket) (option_to_list (addition_of e)))) ∙ sym (ap (has_ticket t) (tickets-then f w e)) ∙ k.0 in
    let there : has_ticket t (tickets f) ≡ true = elim (or_cases _ _ split) [
      | inl old ↦ (has-filter t (λ u. not (removes u e)) (tickets f) old).0
      | inr new ↦ absurd (false≢true (sym (added_off t e off) ∙ new))
    ] in
    has-stays t (λ u. not (occurs (ends u) f)) (tickets f) there (not_from_false _ unended.0)

runs_no_more : (t : Ticket) (f later : List Event) → t.0 < beyond f → has_ticket t (running f) ≡ false → is_legal_after f later ≡ true → has_ticket t (running (f ++ later)) ≡ false
runs_no_more t f [] given off h = rw (append-nil f) off
runs_no_more t f (e ∷ later) given off h =
    let k = and_parts (may_follow f e.what) (is_legal_after (f ++ e ∷ []) later) h in
    let still : has_ticket t (running (f ++ e ∷ [])) ≡ false = false_from_ne_true _ (λ x. false≢true (sym off ∙ ran_before t f e.who e.what (not_again t f e.what given k.0) x)) in
    rw (← append_assoc f (e ∷ []) later) (runs_no_more t (f ++ e ∷ []) later (omega (arith, given, beyond-then f e.who e.what)) still k.1)

pub never_runs_again : NeverRunsAgain
never_runs_again f later t l given off = runs_no_more t f later given off (after_split [] f later l)

-- 8. Answers.

abbrev Grants : Opening → List Event → What → Type 0
Grants opening j e = (may_follow j e ≡ true) × ((w : Who) → HasRoomForDue opening.history (then j w e))

grant : (opening : Opening) (j : List Event) (e : What) → HasRoomForDue opening.history j → may_follow j e ≡ true → has_room opening.history j (needs e) ≡ true → Grants opening j e
grant opening j e k m r = (m, λ w. kept-then opening.history j w e k m r)

abbrev add_by : Option Ticket → Bool → Bool → Bool → HandleId → Ticket → Answer
add_by o full spent room h t =
    elim o [ Some _ ↦ only reply.AddedAlready | None ↦ cond full (only reply.TableFull) (cond spent (only reply.TicketsSpent) (cond room (reply.Added t, Some (what.Added h t)) (only reply.HistoryFull))) ]

abbrev remove_by : Option Ticket → HandleId → Answer
remove_by o h = elim o [ None ↦ only reply.RemoveNotAdded | Some t ↦ (reply.Removed, Some (what.Removed h t)) ]

abbrev pause_by : Opening → List Event → Option Ticket → Answer
pause_by opening j o = elim o [ None ↦ only reply.NotAdded | Some t ↦ pausing_answer opening j t (has_ticket t (paused j)) (what.Paused t) ]

abbrev unpause_by : Opening → List Event → Option Ticket → Answer
unpause_by opening j o = elim o [ None ↦ only reply.NotAdded | Some t ↦ pausing_answer opening j t (not (has_ticket t (paused j))) (what.Resumed t) ]

add_parts : (o : Option Ticket) (full spent room : Bool) (h : HandleId) (t : Ticket) (e : What)
    → (add_by o full spent room h t).1 ≡ Some e
    → (None ≡ o) × (full ≡ false) × (room ≡ true) × (what.Added h t ≡ e)
add_parts (Some u) full spent room h t e x = cc
add_parts None true spent room h t e x = cc
add_parts None false true room h t e x = cc
add_parts None false false false h t e x = cc
add_parts None false false true h t e x = (refl, refl, refl, cc)

remove_parts : (o : Option Ticket) (h : HandleId) (e : What) → (remove_by o h).1 ≡ Some e
    → IfSome o (λ t. what.Removed h t ≡ e) × (is_some o ≡ true)
remove_parts None h e x = cc
remove_parts (Some t) h e x = (cc, refl)

pausing_parts : (runs idle room : Bool) (event e : What)
    → (cond (not runs) (only reply.NotRunning) (cond idle (only reply.NoChange) (cond room (reply.Changed, Some event) (only reply.HistoryFull)))).1 ≡ Some e
    → (runs ≡ true) × (idle ≡ false) × (room ≡ true) × (event ≡ e)
pausing_parts false idle room event e x = cc
pausing_parts true true room event e x = cc
pausing_parts true false false event e x = cc
pausing_parts true false true event e x = (refl, refl, refl, cc)

removal : (opening : Opening) (j : List Event) (h : HandleId) (e : What) → HasRoomForDue opening.history j → (o : Option Ticket) → o ≡ ticket_of h j
    → IfSome o (λ t. what.Removed h t ≡ e) × (is_some o ≡ true) → Grants opening j e
removal opening j h e k None is x = absurd (false≢true x.1)
removal opening j h e k (Some t) is x =
    subst (Grants opening j) x.0 (grant opening j (what.Removed h t) k (found_any (λ a. same_handle h a.handle) t (added j) is) (room_none opening.history j k))

pausing : (opening : Opening) (j : List Event) (h : HandleId) (e : What) → HasRoomForDue opening.history j → (o : Option Ticket)
    → (pause_by opening j o).1 ≡ Some e → Grants opening j e
pausing opening j h e k None x = cc
pausing opening j h e k (Some t) x =
    let p = pausing_parts (has_ticket t (running j)) (has_ticket t (paused j)) (has_room opening.history j 1) (what.Paused t) e x in
    subst (Grants opening j) p.3 (grant opening j (what.Paused t) k (and_from _ _ p.0 (not_from_false _ p.1)) p.2)

unpausing : (opening : Opening) (j : List Event) (h : HandleId) (e : What) → HasRoomForDue opening.history j → (o : Option Ticket)
    → (unpause_by opening j o).1 ≡ Some e → Grants opening j e
unpausing opening j h e k None x = cc
unpausing opening j h e k (Some t) x =
    let p = pausing_parts (has_ticket t (running j)) (not (has_ticket t (paused j))) (has_room opening.history j 1) (what.Resumed t) e x in
    subst (Grants opening j) p.3 (grant opening j (what.Resumed t) k (not-false _ p.1) p.2)

reading : (opening : Opening) (j : List Event) (e : What) → HasRoomForDue opening.history j → (ms : List Message) → waiting j ≡ ms → (read_answer j ms).1 ≡ Some e → Grants opening j e
reading opening j e k [] is x = cc
reading opening j e k (m ∷ ms) is x =
    let same : what.Read m.ticket ≡ e = cc in
    subst (Grants opening j) same (grant opening j (what.Read m.ticket) k (ap (is_first m.ticket) is ∙ same-refl m.ticket) (room_none opening.history j k))

waking : (opening : Opening) (j : List Event) (e : What) → HasRoomForDue opening.history j → (b : Bool) → has_room opening.history j 1 ≡ b
    → (cond b (reply.Ok, Some what.Wake) (only reply.Failure)).1 ≡ Some e → Grants opening j e
waking opening j e k false is x = cc
waking opening j e k true is x = let same : what.Wake ≡ e = cc in subst (Grants opening j) same (grant opening j what.Wake k refl is)

finishing : (opening : Opening) (j : List Event) (t : Ticket) (c : Code) (n : ℕ) (e : What) → HasRoomForDue opening.history j → (b : Bool) → has_ticket t (running j) ≡ b
    → (cond b (reply.Recorded, Some (what.Done t c n)) (only reply.Stale)).1 ≡ Some e → Grants opening j e
finishing opening j t c n e k false is x = cc
finishing opening j t c n e k true is x =
    let same : what.Done t c n ≡ e = cc in subst (Grants opening j) same (grant opening j (what.Done t c n) k is (room_none opening.history j k))

pub answer_is_legal : AnswerIsLegal
answer_is_legal opening j (call.Add h) e k x =
    let t = next_ticket opening j in
    let p = add_parts (ticket_of h j) (nat_le most_handles (length (added j))) (are_spent opening j) (has_room opening.history j 4) h t e x in
    subst (Grants opening j) p.3 (grant opening j (what.Added h t) k (may_add j h t None refl p.0 p.1 (omega arith)) p.2)
answer_is_legal opening j (call.Remove h) e k x = removal opening j h e k (ticket_of h j) refl (remove_parts (ticket_of h j) h e x)
answer_is_legal opening j (call.Pause h) e k x = pausing opening j h e k (ticket_of h j) x
answer_is_legal opening j (call.Unpause h) e k x = unpausing opening j h e k (ticket_of h j) x
answer_is_legal opening j call.InfoRead e k x = reading opening j e k (waiting j) refl x
answer_is_legal opening j call.Wakeup e k x = waking opening j e k (has_room opening.history j 1) refl x
answer_is_legal opening j call.Poll e k x = cc
answer_is_legal opening j call.Handles e k x = cc
answer_is_legal opening j call.Running e k x = cc
answer_is_legal opening j (call.State h) e k x = cc
answer_is_legal opening j (call.Finish t c n) e k x = finishing opening j t c n e k (has_ticket t (running j)) refl x
answer_is_legal opening j (call.Look t) e k x = cc
