-- What an event keeps of a control state.
use Rattle.std.proofs.Common.{◌≡◌, ℕ, ◌<◌, ◌≤◌, ◌∙◌, sym, refl, ap, subst, List, [], ◌∷◌, ◌++◌, append-nil, length, Bool, true, false, cond, map, arith}
use Rattle.std.specs.Prelude.{nat_le, not, ◌||◌, Option, None, Some, IfNone, IfSome, slice_get, slice_index_or}
use Rattle.std.specs.List.{filter, AllByRecursion, remove}
use Rattle.mx_journal.specs.Replies.{is_pausing}
use Rattle.std.specs.Option.{is_some, option_map, option_to_list}
use Rattle.std.proofs.lemmas.Bool.{ne_eqb, or_left, or_right, false≢true, not-true, leb-true, and_parts}
use Rattle.std.proofs.lemmas.List.{map-append, length-map}
use Rattle.mx_types.specs.Limits.{most_handles}
use Rattle.mx_types.specs.declared.code.Code.{Code}
use Rattle.mx_types.specs.declared.names.HandleId.{HandleId}
use Rattle.mx_types.specs.declared.names.Ticket.{Ticket}
use Rattle.mx_types.specs.declared.event.Who.{Who}
use Rattle.mx_types.specs.declared.event.What.{What}
use Rattle.mx_types.specs.declared.event.What.TheVariants as what
use Rattle.mx_types.specs.declared.event.Event.{Event}
use Rattle.mx_history.specs.declared.row.Row.{Row}
use Rattle.mx_history.specs.History.{Message, same_ticket, message_of, removes, ends, reads, added, waiting, running, beyond, has_ticket, may_follow, is_legal, has_room, needs, HasRoomForDue, IsInOrder}
use Rattle.mx_history.specs.Answers.{handle_of}
use Rattle.mx_journal.specs.Core.{queued, claimed, message, IsControl, IsTabled}
use Rattle.mx_history.proofs.Snoc.{phase_of-snoc}
use Rattle.mx_history.proofs.Lists.{Each-map, Each-append, Each-filter, filter_idle, filter_true, same-refl}
use Rattle.mx_history.proofs.Histories.{tickets, laws, waiting-then, below, running-has}
use Rattle.mx_history.specs.Laws.{then}
use Rattle.mx_history.proofs.TableLaws.{kept-then, few, event_fits}
use Rattle.mx_history.proofs.Tables.{runs-phase, has-kept}
use Rattle.mx_history.specs.Rows.{is_open}
use Rattle.std.proofs.lemmas.List.Folds.{list_any-append}
use Rattle.mx_history.proofs.Tickets.{tickets-then, runs-then, in_order-filter, in_order-push, queued-filter, fewer, ordered, room_none, once, wait_tickets, pigeons, waits_added, waits_short, read_rest, none_added}
use Rattle.mx_history.specs.Table.{TableView, table_after}
use Rattle.mx_history.proofs.Follows.{table_follows}

-- 1. Events that touch neither queue nor endings.

pub queue-quiet : (j : List Event) (w : Who) (e : What) → ((t : Ticket) → ends t e ≡ false) → ((t : Ticket) → removes t e ≡ false) → (ts : List Ticket)
    → AllByRecursion (λ t. has_ticket t (running j) ≡ true) ts → AllByRecursion (λ t. has_ticket t (running (then j w e)) ≡ true) ts
queue-quiet j w e f r ts a =
    Each-map (λ t. has_ticket t (running j) ≡ true) (λ t. has_ticket t (running (then j w e)) ≡ true) (λ t h. runs-then j w e t h (f t) (r t)) ts a

pub control-quiet : {Q O : Type 0} (code : O → Code) (size : O → ℕ) (history : ℕ) (j : List Event) (w : Who) (e : What) (queue : List (Ticket × Q)) (endings : List (Ticket × O)) (cq ce : ℕ)
    → IsControl code size history j queue endings cq ce → may_follow j e ≡ true → has_room history j (needs e) ≡ true
    → ((t : Ticket) → ends t e ≡ false) → ((t : Ticket) → removes t e ≡ false) → ((t : Ticket) → reads t e ≡ false) → message_of e ≡ None
    → IsControl code size history (then j w e) queue endings cq ce
control-quiet code size history j w e queue endings cq ce c m r f g h n =
    let s = c.sound in
    record {
      sound = record {
        kept = kept-then history j w e s.kept m r;
        ordered = s.ordered;
        runs = queue-quiet j w e f g (queued queue) s.runs;
        waits = s.waits ∙ sym (waiting-then j w e ∙ quiet_filter (waiting j));
      };
      queue_fits = c.queue_fits;
      endings_fit = c.endings_fit;
    }
  where
    quiet_filter : (ms : List Message) → filter (λ m. not (reads m.ticket e || removes m.ticket e)) ms ++ option_to_list (message_of e) ≡ ms
    quiet_filter [] = ap option_to_list n
    quiet_filter (m ∷ ms) = rw (h m.ticket, g m.ticket) (ap (λ z. m ∷ z) (quiet_filter ms))

-- 2. An addition.

pub control-added : {Q O : Type 0} (code : O → Code) (size : O → ℕ) (history : ℕ) (j : List Event) (w : Who) (h : HandleId) (t : Ticket) (queue : List (Ticket × Q)) (endings : List (Ticket × O)) (work : Q) (cq ce : ℕ)
    → IsControl code size history j queue endings cq ce → may_follow j (what.Added h t) ≡ true → has_room history j 4 ≡ true
    → IsControl code size history (then j w (what.Added h t)) (queue ++ (t, work) ∷ []) endings cq ce
control-added code size history j w h t queue endings work cq ce c m r =
    let e = what.Added h t in
    let s = c.sound in
    let l = laws j s.kept.legal in
    let new : beyond j ≤ t.0 = leb-true (beyond j) t.0 (and_parts _ (nat_le (beyond j) t.0) m).1 in
    let qs = map-append (λ x. x.0) queue ((t, work) ∷ []) in
    let more = queue-quiet j w e (λ _. refl) (λ _. refl) (queued queue) s.runs in
    let lower = Each-map (λ u. has_ticket u (running j) ≡ true) (λ u. u.0 < t.0)
    (λ u x. let b = below j l u (running-has j u x).0 in omega arith) (queued queue) s.runs in
    let has : has_ticket t (tickets (then j w e)) ≡ true =
    rw (tickets-then j w e) (list_any-append (same_ticket t) (filter (λ u. true) (tickets j)) (t ∷ []) ∙ or_right _ _ (or_left _ _ (same-refl t))) in
    let runs : has_ticket t (running (then j w e)) ≡ true =
    runs-phase (then j w e) t has ∙ ap is_open (phase_of-snoc t j (record { who = w; what = e }) ∙ (l.fresh t (omega arith)).0) in
    record {
      sound = record {
        kept = kept-then history j w e s.kept m r;
        ordered = rw qs (in_order-push (queued queue) t s.ordered lower);
        runs = rw qs (Each-append (λ u. has_ticket u (running (then j w e)) ≡ true) (queued queue) (t ∷ []) more (runs, tt));
        waits = s.waits ∙ sym (waiting-then j w e ∙ filter_idle (waiting j));
      };
      queue_fits = c.queue_fits;
      endings_fit = c.endings_fit;
    }

pub queue_length : {Q : Type 0} (j : List Event) (queue : List (Ticket × Q)) → is_legal j ≡ true → IsInOrder (queued queue)
    → AllByRecursion (λ t. has_ticket t (running j) ≡ true) (queued queue) → length queue ≤ length (added j)
queue_length j queue l o r =
    let k = fewer (queued queue) (tickets j) o (ordered j l) (Each-map (λ t. has_ticket t (running j) ≡ true) (λ t. has_ticket t (tickets j) ≡ true) (λ t h. (running-has j t h).0) (queued queue) r) in
    omega (arith, length-map queue (λ x. x.0), length-map (added j) (λ a. a.ticket))

-- 3. A removal.

messages-filter : {O : Type 0} (code : O → Code) (size : O → ℕ) (p : Ticket → Bool) (xs : List (Ticket × O))
    → map (message code size) (filter (λ x. p x.0) xs) ≡ filter (λ m. p m.ticket) (map (message code size) xs)
messages-filter code size p [] = refl
messages-filter {O} code size p (x ∷ xs) = go (p x.0) ∙ ap (λ z. cond (p x.0) (message code size x ∷ z) z) (messages-filter code size p xs)
  where
    go : (b : Bool) → map (message code size) (cond b (x ∷ filter (λ (y : Ticket × O). p y.0) xs) (filter (λ (y : Ticket × O). p y.0) xs))
        ≡ cond b (message code size x ∷ map (message code size) (filter (λ (y : Ticket × O). p y.0) xs)) (map (message code size) (filter (λ (y : Ticket × O). p y.0) xs))
    go true = refl
    go false = refl

-- the queue without a ticket that ended or was removed
queue_without : {Q : Type 0} (j : List Event) (w : Who) (e : What) (t : Ticket) (queue : List (Ticket × Q))
    → ((u : Ticket) → same_ticket u t ≡ false → ends u e ≡ false) → ((u : Ticket) → same_ticket u t ≡ false → removes u e ≡ false)
    → AllByRecursion (λ u. has_ticket u (running j) ≡ true) (queued queue)
    → AllByRecursion (λ u. has_ticket u (running (then j w e)) ≡ true) (queued (filter (λ x. not (same_ticket x.0 t)) queue))
queue_without j w e t queue f r a =
    rw (queued-filter (λ u. not (same_ticket u t)) queue)
    (Each-filter (λ u. not (same_ticket u t)) (λ u. has_ticket u (running j) ≡ true) (λ u. has_ticket u (running (then j w e)) ≡ true)
    (λ u keep h. let off = not-true _ keep in runs-then j w e u h (f u off) (r u off)) (queued queue) a)

pub control-removed : {Q O : Type 0} (code : O → Code) (size : O → ℕ) (history : ℕ) (j : List Event) (w : Who) (h : HandleId) (t : Ticket) (queue : List (Ticket × Q)) (endings : List (Ticket × O)) (cq ce : ℕ)
    → IsControl code size history j queue endings cq ce → may_follow j (what.Removed h t) ≡ true
    → IsControl code size history (then j w (what.Removed h t)) (filter (λ x. not (same_ticket x.0 t)) queue) (filter (λ x. not (same_ticket x.0 t)) endings) cq ce
control-removed code size history j w h t queue endings cq ce c m =
    let e = what.Removed h t in
    let s = c.sound in
    record {
      sound = record {
        kept = kept-then history j w e s.kept m (room_none history j s.kept);
        ordered = rw (queued-filter (λ u. not (same_ticket u t)) queue) (in_order-filter (λ u. not (same_ticket u t)) (queued queue) s.ordered);
        runs = queue_without j w e t queue (λ u x. refl) (λ u x. x) s.runs;
        waits = messages-filter code size (λ u. not (same_ticket u t)) endings ∙ ap (filter (λ m. not (same_ticket m.ticket t))) s.waits
            ∙ sym (append-nil _) ∙ sym (waiting-then j w e);
      };
      queue_fits = c.queue_fits;
      endings_fit = c.endings_fit;
    }

-- 4. An end.

pub endings_short : {O : Type 0} (code : O → Code) (size : O → ℕ) (j : List Event) (endings : List (Ticket × O)) (t : Ticket) → is_legal j ≡ true
    → map (message code size) endings ≡ waiting j → has_ticket t (running j) ≡ true → length endings < most_handles
endings_short code size j endings t l w r =
    let k = waits_short j t l r in
    omega (arith, k, length-map (waiting j) (λ m. m.ticket), length-map endings (message code size), ap length w)

pub control-finished : {Q O : Type 0} (code : O → Code) (size : O → ℕ) (history : ℕ) (j : List Event) (w : Who) (t : Ticket) (o : O) (queue : List (Ticket × Q)) (endings : List (Ticket × O)) (cq ce : ℕ)
    → IsControl code size history j queue endings cq ce → has_ticket t (running j) ≡ true
    → IsControl code size history (then j w (what.Done t (code o) (size o))) (filter (λ x. not (same_ticket x.0 t)) queue) (endings ++ (t, o) ∷ []) cq ce
control-finished code size history j w t o queue endings cq ce c m =
    let e = what.Done t (code o) (size o) in
    let s = c.sound in
    record {
      sound = record {
        kept = kept-then history j w e s.kept m (room_none history j s.kept);
        ordered = rw (queued-filter (λ u. not (same_ticket u t)) queue) (in_order-filter (λ u. not (same_ticket u t)) (queued queue) s.ordered);
        runs = queue_without j w e t queue (λ u x. x) (λ u x. refl) s.runs;
        waits = map-append (message code size) endings ((t, o) ∷ []) ∙ ap (λ z. z ++ message code size (t, o) ∷ []) (s.waits ∙ sym (filter_true (waiting j)))
            ∙ sym (waiting-then j w e);
      };
      queue_fits = c.queue_fits;
      endings_fit = c.endings_fit;
    }

-- 5. A reading.

pub control-read : {Q O : Type 0} (code : O → Code) (size : O → ℕ) (history : ℕ) (j : List Event) (w : Who) (x : Ticket × O) (xs : List (Ticket × O)) (queue : List (Ticket × Q)) (cq ce : ℕ)
    → IsControl code size history j queue (x ∷ xs) cq ce → IsControl code size history (then j w (what.Read x.0)) queue xs cq ce
control-read code size history j w x xs queue cq ce c =
    let e = what.Read x.0 in
    let s = c.sound in
    let ws : waiting j ≡ message code size x ∷ map (message code size) xs = sym s.waits in
    let m : may_follow j e ≡ true = rw ws (same-refl x.0) in
    record {
      sound = record {
        kept = kept-then history j w e s.kept m (room_none history j s.kept);
        ordered = s.ordered;
        runs = queue-quiet j w e (λ _. refl) (λ _. refl) (queued queue) s.runs;
        waits = sym (waiting-then j w e ∙ ap (λ ms. filter (λ y. not (same_ticket y.ticket x.0 || false)) ms ++ []) ws
            ∙ read_rest (message code size x) (map (message code size) xs) (rw ws at (once j s.kept.legal)));
      };
      queue_fits = c.queue_fits;
      endings_fit = c.endings_fit;
    }

pub control-pausing : {Q O : Type 0} (code : O → Code) (size : O → ℕ) (history : ℕ) (j : List Event) (w : Who) (e : What) (queue : List (Ticket × Q)) (endings : List (Ticket × O)) (cq ce : ℕ)
    → IsControl code size history j queue endings cq ce → may_follow j e ≡ true → is_pausing e ≡ true → has_room history j 1 ≡ true
    → IsControl code size history (then j w e) queue endings cq ce
control-pausing code size history j w (what.Paused t) queue endings cq ce c m k r = control-quiet code size history j w (what.Paused t) queue endings cq ce c m r (λ _. refl) (λ _. refl) (λ _. refl) refl
control-pausing code size history j w (what.Resumed t) queue endings cq ce c m k r = control-quiet code size history j w (what.Resumed t) queue endings cq ce c m r (λ _. refl) (λ _. refl) (λ _. refl) refl
control-pausing code size history j w _ queue endings cq ce c m k r = absurd (false≢true k)

abbrev ticket_or : Ticket → Option Ticket → Ticket
ticket_or t None = t
ticket_or _ (Some t) = t

pub may_read_first : {O : Type 0} (code : O → Code) (size : O → ℕ) (j : List Event) (t : Ticket) (endings : List (Ticket × O))
    → map (message code size) endings ≡ waiting j → slice_get (queued endings) 0 ≡ Some t → may_follow j (what.Read t) ≡ true
may_read_first code size j t [] w first = absurd (false≢true (ap is_some first))
may_read_first code size j t (x ∷ xs) w first = rw (← w, ← ap (ticket_or t) first) (same-refl x.0)

pub control-read_first : {Q O : Type 0} (code : O → Code) (size : O → ℕ) (history : ℕ) (j : List Event) (w : Who) (t : Ticket) (endings : List (Ticket × O)) (queue : List (Ticket × Q)) (cq ce : ℕ)
    → IsControl code size history j queue endings cq ce → slice_get (queued endings) 0 ≡ Some t → IsControl code size history (then j w (what.Read t)) queue (remove endings 0) cq ce
control-read_first code size history j w t [] queue cq ce c first = absurd (false≢true (ap is_some first))
control-read_first {Q} {O} code size history j w t (x ∷ xs) queue cq ce c first =
    let P : Ticket → Type 0 = λ u. IsControl {Q = Q} {O = O} code size history (then j w (what.Read u)) queue xs cq ce in
    subst P (ap (ticket_or t) first) (control-read code size history j w x xs queue cq ce c)

pub endings_few : {O : Type 0} (code : O → Code) (size : O → ℕ) (j : List Event) (endings : List (Ticket × O)) → is_legal j ≡ true → map (message code size) endings ≡ waiting j → length endings ≤ most_handles
endings_few code size j endings l w =
    let x = laws j l in
    let k = pigeons (wait_tickets j) (tickets j) (once j l) (waits_added j (waiting j) x.waits) in
    let f = few j l in
    omega (arith, k, length-map (waiting j) (λ m. m.ticket), length-map (added j) (λ a. a.ticket), length-map endings (message code size), ap length w)

-- 6. A claim.

above_off : (t : Ticket) (ts : List Ticket) → AllByRecursion (λ u. t.0 < u.0) ts → has_ticket t ts ≡ false
above_off t [] a = refl
above_off t (u ∷ ts) a = let lt = a.0 in rw (ne_eqb t.0 u.0 (λ e. omega arith)) (above_off t ts a.1)

pub least_first : (u t : Ticket) (ts : List Ticket) → u ≡ t → AllByRecursion (λ v. t.0 < v.0) ts → AllByRecursion (λ v. u.0 ≤ v.0) (t ∷ ts)
least_first u t ts e a = let n = ap (λ (x : Ticket). x.0) e in (omega (arith, n), Each-map (λ v. t.0 < v.0) (λ v. u.0 ≤ v.0) (λ v lt. omega (arith, n)) ts a)

pub claimed_first : {Q : Type 0} (j : List Event) (t : Ticket) (queue : List (Ticket × Q)) → AllByRecursion (λ u. t.0 < u.0) (queued queue) → has_ticket t (running j) ≡ true
    → has_ticket t (claimed j queue) ≡ true
claimed_first j t queue a r = has-kept t (λ u. not (has_ticket u (queued queue))) (running j) r ∙ ap not (above_off t (queued queue) a)

-- the message that has waited longest has the first ending's ticket, and a row
abbrev first_or : {O : Type 0} → Ticket × O → Option (Ticket × O) → Ticket
first_or x None = x.0
first_or _ (Some x) = x.0

pub oldest_has_row : {O : Type 0} (code : O → Code) (size : O → ℕ) (j : List Event) (endings : List (Ticket × O)) (first : Ticket × O) (r : Option Row)
    → is_legal j ≡ true → map (message code size) endings ≡ waiting j → Some first ≡ slice_get endings 0 → option_map (λ (x : Row). x.handle) r ≡ handle_of first.0 j → IfNone r (endings ≡ [])
oldest_has_row code size j endings first (Some r) l w is h = tt
oldest_has_row code size j [] first None l w is h = refl
oldest_has_row code size j (x ∷ xs) first None l w is h =
    let u = rw (← w) at (laws j l).waits in
    absurd (false≢true (sym (none_added j l x.0 (h ∙ ap (λ z. handle_of z j) (ap (first_or first) is))) ∙ u.0.1))

pub oldest_is_first : {O : Type 0} (endings : List (Ticket × O)) (first : Ticket × O) (r : Option Row)
    → Some first ≡ slice_get endings 0 → IfSome r (λ (x : Row). x.ticket ≡ first.0) → IfSome r (λ (x : Row). slice_get (queued endings) 0 ≡ Some x.ticket)
oldest_is_first endings first None is same = tt
oldest_is_first [] first (Some r) is same = absurd (false≢true (sym (ap is_some is)))
oldest_is_first (x ∷ xs) first (Some r) is same = ap Some (sym (same ∙ ap (first_or first) is))

pub split_first : {X : Type 0} (xs ys : List X) (x : X) → 0 < length xs → x ≡ slice_index_or xs 0 x → ys ≡ remove xs 0 → xs ≡ x ∷ ys
split_first [] ys x h v r = absurd (omega arith)
split_first (z ∷ zs) ys x h v r = rw (v, r) refl

-- 7. The journal with its table.

pub tabled-then : (history : ℕ) (j : List Event) (t : TableView) (space : ℕ) (e : Event)
    → HasRoomForDue history j → IsTabled history j t space → may_follow j e.what ≡ true → has_room history j (needs e.what) ≡ true → IsTabled history (j ++ e ∷ []) (table_after t e) space
tabled-then history j t space e k b m r =
    let lt = event_fits history j e.who e.what k m r in
    let u = table_follows j t e b.table b.sized m (omega (arith, lt, k.limit)) in
    record { table = u.0; sized = u.1; fits = b.fits }
