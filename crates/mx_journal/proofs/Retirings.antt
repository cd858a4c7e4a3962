-- What retiring does to a control state.
use Rattle.std.proofs.Common.{◌≡◌, ℕ, ◌+◌, ◌<◌, ◌≤◌, ◌∙◌, sym, refl, ap, subst, List, [], ◌∷◌, length, Bool, true, cond, map, take, drop, get_or, arith}
use Rattle.std.specs.Prelude.{max, ◌||◌}
use Rattle.std.specs.List.{AllByRecursion, list_any}
use Rattle.std.proofs.lemmas.Bool.{and_parts}
use Rattle.std.proofs.lemmas.List.Sums.{sum_by-append}
use Rattle.std.proofs.lemmas.List.{take-append-drop, length-take-le}
use Rattle.std.proofs.Math.Seq.{take-length}
use Rattle.mx_types.specs.declared.code.Code.{Code}
use Rattle.mx_types.specs.declared.event.Who.{Who}
use Rattle.mx_types.specs.declared.names.Ticket.{Ticket}
use Rattle.mx_types.specs.declared.event.What.{What}
use Rattle.mx_types.specs.declared.event.What.TheVariants as what
use Rattle.mx_types.specs.declared.event.Event.{Event}
use Rattle.mx_types.specs.declared.origin.Origin.{Origin}
use Rattle.mx_history.specs.declared.row.Row.{Row}
use Rattle.mx_history.specs.History.{Addition, HasRoomForDue, Opening, beyond, made_by, same_maker, running, same_ticket, has_ticket, is_legal, may_follow, is_of_such, only_of, retire}
use Rattle.mx_history.specs.Answers.{next_ticket}
use Rattle.mx_history.specs.Rows.{table_of}
use Rattle.mx_history.proofs.Lists.{Each-map}
use Rattle.mx_history.proofs.Retiring.{retiring_keeps}
use Rattle.mx_journal.specs.Core.{IsBegun, IsControl, KeepsOrigins, OriginList, queued}
use Rattle.mx_history.specs.Table.{Counts, TableView, IsTableOf, HasCounters, table_after}
use Rattle.mx_history.proofs.Snoc.{legal-snoc}
use Rattle.mx_history.proofs.Defined.{take_next}
use Rattle.mx_history.proofs.Histories.{tickets}
use Rattle.mx_history.proofs.LegalLaws.{prefix_is_legal}
use Rattle.mx_history.proofs.Tables.{tickets-rows}
use Rattle.mx_history.proofs.TableLaws.{tabled}
use Rattle.mx_history.proofs.Follows.{table_follows}

-- 1. The table of a history, event by event.

may_next : (j : List Event) (i : ℕ) (d : Event) → i < length j → is_legal j ≡ true → may_follow (take i j) (get_or j i d).what ≡ true
may_next j i d lt l =
    let p = prefix_is_legal (take (i + 1) j) (drop (i + 1) j) (ap is_legal (take-append-drop (i + 1) j) ∙ l) in
    (and_parts (is_legal (take i j)) (may_follow (take i j) (get_or j i d).what) (sym (ap is_legal (take_next j i d lt) ∙ legal-snoc (take i j) (get_or j i d)) ∙ p)).1

pub filled_next : (j : List Event) (i : ℕ) (d : Event) (t : TableView) → i < length j → length j < 4294967295 → is_legal j ≡ true → IsTableOf (take i j) t × HasCounters t.makers
    → IsTableOf (take (i + 1) j) (table_after t (get_or j i d)) × HasCounters (table_after t (get_or j i d)).makers
filled_next j i d t lt few l x =
    let short : length (take i j) < 4294967295 = let n : length (take i j) ≡ i = length-take-le i j (omega arith) in omega arith in
    let k = table_follows (take i j) t (get_or j i d) x.0 x.1 (may_next j i d lt l) short in
    (subst (λ z. IsTableOf z (table_after t (get_or j i d))) (sym (take_next j i d lt)) k.0, k.1)

-- 2. What is kept.

rows_have : (t : Ticket) (rows : List Row) → list_any (λ r. same_ticket t r.ticket) rows ≡ has_ticket t (map (λ r. r.ticket) rows)
rows_have t [] = refl
rows_have t (r ∷ rows) = ap (λ b. same_ticket t r.ticket || b) (rows_have t rows)

only_same : (p q : Ticket → Bool) → ((t : Ticket) → p t ≡ q t) → (j : List Event) → only_of p j ≡ only_of q j
only_same p q h [] = refl
only_same p q h (e ∷ j) = ap (λ b. cond b (e ∷ only_of p j) (only_of p j)) (such e.what) ∙ ap (λ z. cond (is_of_such q e.what) (e ∷ z) z) (only_same p q h j)
  where
    such : (e : What) → is_of_such p e ≡ is_of_such q e
    such (what.Added _ t) = h t
    such (what.Removed _ t) = h t
    such (what.Done t _ _) = h t
    such (what.Read t) = h t
    such (what.Paused t) = h t
    such (what.Resumed t) = h t
    such what.Wake = refl

-- the events of the tickets that have rows are those that retiring keeps
pub kept_by : (j : List Event) (t : TableView) → IsTableOf j t → only_of (λ u. list_any (λ (r : Row). same_ticket u r.ticket) t.rows) j ≡ retire j
kept_by j t x =
    let rows : tickets j ≡ map (λ (r : Row). r.ticket) t.rows = tickets-rows j (table_of j) (tabled j x.legal) ∙ ap (map (λ (r : Row). r.ticket)) (sym x.rowed) in
    only_same (λ u. list_any (λ (r : Row). same_ticket u r.ticket) t.rows) (λ u. has_ticket u (tickets j)) (λ u. rows_have u t.rows ∙ ap (has_ticket u) (sym rows)) j

-- 3. The control state.

pub room-retired : (history : ℕ) (j : List Event) → HasRoomForDue history j → HasRoomForDue history (retire j)
room-retired history j k =
    let r = retiring_keeps j k.legal in
    record {
      legal = r.legal;
      room = omega (arith, k.room, r.due, r.shorter);
      limit = k.limit;
    }

pub control-retired : {Q O : Type 0} (code : O → Code) (size : O → ℕ) (history : ℕ) (j : List Event) (queue : List (Ticket × Q)) (endings : List (Ticket × O)) (cq ce : ℕ)
    → IsControl code size history j queue endings cq ce → IsControl code size history (retire j) queue endings cq ce
control-retired code size history j queue endings cq ce c =
    let s = c.sound in
    let r = retiring_keeps j s.kept.legal in
    record {
      sound = record {
        kept = room-retired history j s.kept;
        ordered = s.ordered;
        runs = Each-map (λ t. has_ticket t (running j) ≡ true) (λ t. has_ticket t (running (retire j)) ≡ true) (λ t h. ap (has_ticket t) r.running ∙ h) (queued queue) s.runs;
        waits = s.waits ∙ sym r.waiting;
      };
      queue_fits = c.queue_fits;
      endings_fit = c.endings_fit;
    }

-- with the next ticket as the first, and what is kept as older history
abbrev later : Opening → List Event → Opening
later opening j = record { history = opening.history; first = (next_ticket opening j).0; from = length (retire j) }

pub next-retired : (opening : Opening) (j : List Event) → is_legal j ≡ true → next_ticket (later opening j) (retire j) ≡ next_ticket opening j
next-retired opening j l =
    let r = retiring_keeps j l in
    let same : max (max opening.first (beyond j)) (beyond (retire j)) ≡ max opening.first (beyond j) = omega (arith, r.tickets) in
    ap (λ n. record { 0 = n }) same

pub begun-retired : (opening : Opening) (j : List Event) (before : Counts) (t : TableView) → is_legal j ≡ true → IsBegun opening j before → IsTableOf (retire j) t → IsBegun (later opening j) (retire j) t.makers
begun-retired opening j before t l b x =
    let r = retiring_keeps j l in
    record {
      first = omega (arith, b.first, b.given);
      given = omega (arith, r.tickets, b.given);
      begun = omega arith;
      makers = λ w is. x.made w is ∙ ap (made_by w) (sym (take-length (retire j)));
    }

pub origins-retired : {Q : Type 0} (origin : Q → Origin) (opening : Opening) (j : List Event) (origins : OriginList) (queue : List (Ticket × Q)) → is_legal j ≡ true
    → KeepsOrigins origin opening j origins queue → KeepsOrigins origin (later opening j) (retire j) origins queue
origins-retired origin opening j origins queue l k =
    let r = retiring_keeps j l in
    record {
      each = k.each ∙ ap (λ (t : Ticket). t.0) (sym (next-retired opening j l));
      own = k.own;
      begins = k.begins;
      since = subst (AllByRecursion (λ t. origins.begun ≤ t.0)) (sym (ap (map (λ (a : Addition). a.ticket)) r.added)) k.since;
    }

pub made_apart : (w : Who) (n : ℕ) (j : List Event) → made_by w j ≡ made_by w (take n j) + made_by w (drop n j)
made_apart w n j = ap (made_by w) (sym (take-append-drop n j)) ∙ sum_by-append (λ (e : Event). cond (same_maker e.who w) 1 0) (take n j) (drop n j)
