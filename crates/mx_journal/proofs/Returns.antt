-- Work that is given back to the queue.
use Rattle.std.proofs.Common.{◌≡◌, ℕ, ◌+◌, ◌<◌, ◌≤◌, ◌∙◌, sym, refl, ap, List, [], ◌∷◌, length, Bool, true, false, cond, map, arith}
use Rattle.std.specs.Prelude.{zero, suc, not, ◌&&◌, ◌||◌, nat_lt, Some, slice_get, slice_set, count_by}
use Rattle.std.specs.List.{AllByRecursion, insert, list_any}
use Rattle.std.proofs.lemmas.Bool.{ltb-true, ltb-false, eqb-false, false_from_ne_true, false≢true, not-true}
use Rattle.std.proofs.lemmas.List.{length-set}
use Rattle.std.proofs.lemmas.List.Sums.{sum_by-cons}
use Rattle.mx_types.specs.Limits.{most_handles}
use Rattle.mx_types.specs.declared.code.Code.{Code}
use Rattle.mx_types.specs.declared.names.Ticket.{Ticket}
use Rattle.mx_types.specs.declared.event.Event.{Event}
use Rattle.mx_types.specs.declared.origin.Origin.{Origin}
use Rattle.mx_history.specs.History.{Message, IsInOrder, Opening, same_ticket, has_ticket, running, waiting, is_legal}
use Rattle.mx_journal.specs.Core.{queued, claimed, message, origin_of, AreOwn, IsControl, KeepsOrigins, OriginList}
use Rattle.mx_journal.specs.Replies.{in_place, GiveBackUndoesClaim}
use Rattle.mx_history.proofs.Lists.{Each-map, at_ticket, has-filter}
use Rattle.mx_history.proofs.Histories.{tickets, laws, below, running-has}
use Rattle.mx_history.proofs.TableLaws.{few}
use Rattle.mx_history.proofs.Tables.{has-kept}
use Rattle.mx_history.proofs.Tickets.{parts_false, runs_unread}
use Rattle.mx_journal.proofs.Controls.{queue_length}

-- 1. A queue with one more at its place.

pub each_in_place : {X : Type 0} (P : Ticket → Type 0) (t : Ticket) (w : X) (queue : List (Ticket × X)) → P t → AllByRecursion P (queued queue) → AllByRecursion P (queued (in_place t w queue))
each_in_place P t w [] p a = (p, tt)
each_in_place {X} P t w (x ∷ xs) p a = go (nat_lt x.0.0 t.0) (each_in_place P t w xs p a.1)
  where
    go : (b : Bool) → AllByRecursion P (queued (in_place t w xs)) → AllByRecursion P (queued (cond b (x ∷ in_place t w xs) ((t, w) ∷ x ∷ xs)))
    go true r = (a.0, r)
    go false r = (p, a)

in_order_in_place : {X : Type 0} (t : Ticket) (w : X) (queue : List (Ticket × X)) → IsInOrder (queued queue) → has_ticket t (queued queue) ≡ false → IsInOrder (queued (in_place t w queue))
in_order_in_place t w [] o h = (tt, tt)
in_order_in_place {X} t w (x ∷ xs) o h = go (nat_lt x.0.0 t.0) refl (in_order_in_place t w xs o.1 k.1)
  where
    k : (same_ticket t x.0 ≡ false) × (has_ticket t (queued xs) ≡ false)
    k = parts_false (same_ticket t x.0) (has_ticket t (queued xs)) h

    higher : nat_lt x.0.0 t.0 ≡ false → t.0 < x.0.0
    higher ge = let le = ltb-false x.0.0 t.0 ge in let off = eqb-false t.0 x.0.0 k.0 in omega (arith, le, off)

    go : (b : Bool) → nat_lt x.0.0 t.0 ≡ b → IsInOrder (queued (in_place t w xs)) → IsInOrder (queued (cond b (x ∷ in_place t w xs) ((t, w) ∷ x ∷ xs)))
    go true lt r = (each_in_place (λ u. x.0.0 < u.0) t w xs (ltb-true x.0.0 t.0 lt) o.0, r)
    go false ge r = let lt = higher ge in ((lt, Each-map (λ u. x.0.0 < u.0) (λ u. t.0 < u.0) (λ u more. omega (arith, lt, more)) (queued xs) o.0), o)

none_below : {X : Type 0} (t : Ticket) (xs : List (Ticket × X)) (n : ℕ) → t.0 ≤ n → AllByRecursion (λ u. n < u.0) (queued xs) → count_by (λ x. nat_lt x.0.0 t.0) xs ≡ 0
none_below t [] n le a = refl
none_below {X} t (x ∷ xs) n le a =
    let more = a.0 in
    let off : nat_lt x.0.0 t.0 ≡ false = false_from_ne_true _ (λ k. let lt = ltb-true x.0.0 t.0 k in omega (arith, le, more, lt)) in
    let one : cond {A = ℕ} (nat_lt x.0.0 t.0) 1 0 ≡ 0 = ap (λ b. cond {A = ℕ} b 1 0) off in
    let rest = none_below t xs n le a.1 in
    omega (arith, one, rest, sum_by-cons (λ (y : Ticket × X). cond {A = ℕ} (nat_lt y.0.0 t.0) 1 0) x xs)

-- after as many as are under lower tickets is its place
pub insert_in_place : {X : Type 0} (t : Ticket) (w : X) (queue : List (Ticket × X)) → IsInOrder (queued queue) → insert queue (count_by (λ x. nat_lt x.0.0 t.0) queue) (t, w) ≡ in_place t w queue
insert_in_place t w [] o = refl
insert_in_place {X} t w (x ∷ xs) o = go (nat_lt x.0.0 t.0) refl (insert_in_place t w xs o.1)
  where
    lower : Ticket × X → ℕ
    lower y = cond (nat_lt y.0.0 t.0) 1 0

    go : (b : Bool) → nat_lt x.0.0 t.0 ≡ b → insert xs (count_by (λ y. nat_lt y.0.0 t.0) xs) (t, w) ≡ in_place t w xs
        → insert (x ∷ xs) (count_by (λ y. nat_lt y.0.0 t.0) (x ∷ xs)) (t, w) ≡ cond b (x ∷ in_place t w xs) ((t, w) ∷ x ∷ xs)
    go true lt r =
        let one : cond {A = ℕ} (nat_lt x.0.0 t.0) 1 0 ≡ 1 = ap (λ b. cond {A = ℕ} b 1 0) lt in
        let n : count_by (λ (y : Ticket × X). nat_lt y.0.0 t.0) (x ∷ xs) ≡ suc (count_by (λ (y : Ticket × X). nat_lt y.0.0 t.0) xs) = omega (arith, one, sum_by-cons lower x xs) in
        rw n (ap (λ z. x ∷ z) r)
    go false ge r =
        let le = ltb-false x.0.0 t.0 ge in
        let none : cond {A = ℕ} (nat_lt x.0.0 t.0) 1 0 ≡ 0 = ap (λ b. cond {A = ℕ} b 1 0) ge in
        let rest = none_below t xs x.0.0 le o.0 in
        let n : count_by (λ (y : Ticket × X). nat_lt y.0.0 t.0) (x ∷ xs) ≡ 0 = omega (arith, none, rest, sum_by-cons lower x xs) in
        rw n refl

pub length-in_place : {X : Type 0} (t : Ticket) (w : X) (queue : List (Ticket × X)) → length (in_place t w queue) ≡ length queue + 1
length-in_place t w [] = refl
length-in_place {X} t w (x ∷ xs) = go (nat_lt x.0.0 t.0) (length-in_place t w xs)
  where
    go : (b : Bool) → length (in_place t w xs) ≡ length xs + 1 → length (cond b (x ∷ in_place t w xs) ((t, w) ∷ x ∷ xs)) ≡ length (x ∷ xs) + 1
    go true e = omega (arith, e)
    go false e = omega arith

pub give_back_undoes_claim : (Q : Type 0) → GiveBackUndoesClaim Q
give_back_undoes_claim Q t work [] o = refl
give_back_undoes_claim Q t work (x ∷ rest) o =
    let lt = o.0.0 in
    let off : nat_lt x.0.0 t.0 ≡ false = false_from_ne_true _ (λ k. let more = ltb-true x.0.0 t.0 k in omega (arith, lt, more)) in
    ap (λ b. cond b (x ∷ in_place t work rest) ((t, work) ∷ x ∷ rest)) off

-- 2. What is claimed.

pub queued_any : {X : Type 0} (t : Ticket) (queue : List (Ticket × X)) → list_any (λ x. same_ticket t x.0) queue ≡ has_ticket t (queued queue)
queued_any t [] = refl
queued_any t (x ∷ xs) = ap (λ b. same_ticket t x.0 || b) (queued_any t xs)

pub claimed_is : {Q : Type 0} (j : List Event) (t : Ticket) (queue : List (Ticket × Q)) → has_ticket t (claimed j queue) ≡ (has_ticket t (running j) && not (has_ticket t (queued queue)))
claimed_is {Q} j t queue = go (has_ticket t (running j)) refl
  where
    go : (b : Bool) → has_ticket t (running j) ≡ b → has_ticket t (claimed j queue) ≡ (b && not (has_ticket t (queued queue)))
    go true r = has-kept t (λ u. not (has_ticket u (queued queue))) (running j) r
    go false r = false_from_ne_true _ (λ k. false≢true (sym r ∙ (has-filter t (λ u. not (has_ticket u (queued queue))) (running j) k).0))

pub claimed_parts : {Q : Type 0} (j : List Event) (t : Ticket) (queue : List (Ticket × Q)) → has_ticket t (claimed j queue) ≡ true → (has_ticket t (running j) ≡ true) × (has_ticket t (queued queue) ≡ false)
claimed_parts {Q} j t queue h =
    let k = has-filter t (λ u. not (has_ticket u (queued queue))) (running j) h in (k.0, not-true _ k.1)

-- 3. The control state with the work back.

pub control-given : {Q O : Type 0} (code : O → Code) (size : O → ℕ) (history : ℕ) (j : List Event) (t : Ticket) (work : Q) (queue : List (Ticket × Q)) (endings : List (Ticket × O)) (cq ce : ℕ)
    → IsControl code size history j queue endings cq ce → has_ticket t (claimed j queue) ≡ true → IsControl code size history j (in_place t work queue) endings cq ce
control-given code size history j t work queue endings cq ce c h =
    let s = c.sound in
    let k = claimed_parts j t queue h in
    record {
      sound = record {
        kept = s.kept;
        ordered = in_order_in_place t work queue s.ordered k.1;
        runs = each_in_place (λ u. has_ticket u (running j) ≡ true) t work queue k.0 s.runs;
        waits = s.waits;
      };
      queue_fits = c.queue_fits;
      endings_fit = c.endings_fit;
    }

-- its place was kept
pub queue_short : {Q O : Type 0} (code : O → Code) (size : O → ℕ) (history : ℕ) (j : List Event) (t : Ticket) (work : Q) (queue : List (Ticket × Q)) (endings : List (Ticket × O)) (cq ce : ℕ)
    → IsControl code size history j queue endings cq ce → has_ticket t (claimed j queue) ≡ true → length queue < most_handles
queue_short code size history j t work queue endings cq ce c h =
    let s = (control-given code size history j t work queue endings cq ce c h).sound in
    let n = queue_length j (in_place t work queue) s.kept.legal s.ordered s.runs in
    let m = few j s.kept.legal in
    omega (arith, n, m, length-in_place t work queue)

-- 4. The origins.

set_same : (xs : List Origin) (i : ℕ) (y : Origin) → i < length xs → slice_get (slice_set xs i y) i ≡ Some y
set_same [] i y lt = absurd (omega arith)
set_same (x ∷ xs) zero y lt = refl
set_same (x ∷ xs) (suc i) y lt = set_same xs i y (omega arith)

set_other : (xs : List Origin) (i k : ℕ) (y : Origin) → (k ≡ i → ⊥) → slice_get (slice_set xs i y) k ≡ slice_get xs k
set_other [] i k y off = refl
set_other (x ∷ xs) zero zero y off = absurd (off refl)
set_other (x ∷ xs) zero (suc k) y off = refl
set_other (x ∷ xs) (suc i) zero y off = refl
set_other (x ∷ xs) (suc i) (suc k) y off = set_other xs i k y (λ e. off (ap suc e))

pub set_idle : (xs : List Origin) (i : ℕ) (y : Origin) → slice_get xs i ≡ Some y → slice_set xs i y ≡ xs
set_idle [] i y e = refl
set_idle (x ∷ xs) zero y e = cc
set_idle (x ∷ xs) (suc i) y e = ap (λ z. x ∷ z) (set_idle xs i y e)

own_apart : {X : Type 0} (origin : X → Origin) (origins : List Origin) (t : Ticket) (o : Origin) (xs : List (Ticket × X)) → has_ticket t (queued xs) ≡ false
    → AreOwn origin origins xs → AreOwn origin (slice_set origins t.0 o) xs
own_apart origin origins t o [] h a = tt
own_apart origin origins t o (x ∷ xs) h a =
    let k = parts_false (same_ticket t x.0) (has_ticket t (queued xs)) h in
    (set_other origins t.0 x.0.0 o (λ e. eqb-false t.0 x.0.0 k.0 (sym e)) ∙ a.0, own_apart origin origins t o xs k.1 a.1)

own_in_place : {X : Type 0} (origin : X → Origin) (origins : List Origin) (t : Ticket) (w : X) (xs : List (Ticket × X)) → origin_of t origins ≡ Some (origin w)
    → AreOwn origin origins xs → AreOwn origin origins (in_place t w xs)
own_in_place origin origins t w [] e a = (e, tt)
own_in_place {X} origin origins t w (x ∷ xs) e a = go (nat_lt x.0.0 t.0) (own_in_place origin origins t w xs e a.1)
  where
    go : (b : Bool) → AreOwn origin origins (in_place t w xs) → AreOwn origin origins (cond b (x ∷ in_place t w xs) ((t, w) ∷ x ∷ xs))
    go true r = (a.0, r)
    go false r = (e, a)

-- a running ticket has its origin, and had work
pub within : {Q : Type 0} (origin : Q → Origin) (opening : Opening) (j : List Event) (t : Ticket) (origins : OriginList) (queue : List (Ticket × Q))
    → KeepsOrigins origin opening j origins queue → is_legal j ≡ true → has_ticket t (claimed j queue) ≡ true → (origins.begun ≤ t.0) × (t.0 < length origins.all)
within origin opening j t origins queue k l h =
    let added = (running-has j t (claimed_parts j t queue h).0).0 in
    let b = below j (laws j l) t added in (at_ticket (λ u. origins.begun ≤ u.0) t (tickets j) k.since added, omega (arith, b, k.each))

pub origins-given : {Q : Type 0} (origin : Q → Origin) (opening : Opening) (j : List Event) (t : Ticket) (work : Q) (origins : OriginList) (queue : List (Ticket × Q))
    → KeepsOrigins origin opening j origins queue → is_legal j ≡ true → has_ticket t (claimed j queue) ≡ true
    → KeepsOrigins origin opening j (record { begun = origins.begun; all = slice_set origins.all t.0 (origin work) }) (in_place t work queue)
origins-given origin opening j t work origins queue k l h =
    let long = length-set origins.all t.0 (origin work) in
    record {
      each = long ∙ k.each;
      own = own_in_place origin (slice_set origins.all t.0 (origin work)) t work queue (set_same origins.all t.0 (origin work) (within origin opening j t origins queue k l h).1)
          (own_apart origin origins.all t (origin work) queue (claimed_parts j t queue h).1 k.own);
      begins = omega (arith, long, k.begins);
      since = k.since;
    }

ended_tickets : {O : Type 0} (code : O → Code) (size : O → ℕ) (endings : List (Ticket × O)) → queued endings ≡ map (λ m. m.ticket) (map (message code size) endings)
ended_tickets code size [] = refl
ended_tickets code size (x ∷ xs) = ap (λ z. x.0 ∷ z) (ended_tickets code size xs)

-- no ending is of a ticket that runs
pub endings_apart : {O : Type 0} (code : O → Code) (size : O → ℕ) (origin : O → Origin) (j : List Event) (t : Ticket) (o : Origin) (origins : List Origin) (endings : List (Ticket × O))
    → is_legal j ≡ true → map (message code size) endings ≡ waiting j → has_ticket t (running j) ≡ true
    → AreOwn origin origins endings → AreOwn origin (slice_set origins t.0 o) endings
endings_apart code size origin j t o origins endings l w r =
    own_apart origin origins t o endings (ap (has_ticket t) (ended_tickets code size endings ∙ ap (map (λ (m : Message). m.ticket)) w) ∙ runs_unread j (laws j l) t r)
