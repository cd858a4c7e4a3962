-- New seats.
use Rattle.std.proofs.Common.{◌≡◌, ℕ, zero, suc, ◌+◌, ◌-◌, ◌<◌, ◌∙◌, sym, refl, ap, subst, List, [], ◌∷◌, ◌++◌, length, length-append, Bool, true, false, cond, arith}
use Rattle.std.specs.Prelude.{slice_index_or}
use Rattle.std.proofs.lemmas.Bool.{lt-ltb, le-ltb}
use Rattle.logbook.specs.Pages.{Book}
use Rattle.mx_types.specs.declared.names.Ticket.{Ticket}
use Rattle.mx_types.specs.declared.event.Who.{Who}
use Rattle.mx_types.specs.declared.event.Who.TheVariants as who
use Rattle.mx_types.specs.declared.event.Event.{Event}
use Rattle.mx_types.specs.declared.origin.Origin.{Origin}
use Rattle.mx_types.specs.declared.call.Receipt.{Receipt}
use Rattle.mx_journal.specs.Receipts.{IsPlaced, mark}
use Rattle.mx_board.specs.Board.{ReaderState, caught_up}
use Rattle.mx_board.specs.Progress.{NoteState, ProgressState, new_seat}
use Rattle.mx_append_log.proofs.Prefixes.{prefix_self}
use Rattle.mx_history.proofs.Placing.{first_is_placed}
use Rattle.mx_lock.specs.Engine.{Content}
use Rattle.mx_lock.specs.Lock.{maker, engine_of, founder_at, child}
use Rattle.mx_multi.specs.Seats.{MultiView, SeatView, IsSeat, HasReceipts, IsNew}
use Rattle.mx_multi.specs.Opening.{maker_of, first_of, AreReaders, AreNew}
use Rattle.mx_multi.proofs.Standing.{seat_of}
use Rattle.mx_lock.specs.declared.key_view.KeyView.{KeyView}

pub key_maker : (worker : Bool) (n : ℕ) → n < 16 → maker (first_of worker + n) ≡ maker_of worker n
key_maker false n lt =
    let e : 1 + n ≡ suc n = omega arith in
    ap maker e ∙ ap (λ b. cond b (who.Seat n) (who.Worker (n - 16))) (lt-ltb n 16 lt)
key_maker true n lt =
    let e : 17 + n ≡ suc (16 + n) = omega arith in
    let back : 16 + n - 16 ≡ n = omega arith in
    ap maker e ∙ ap (λ b. cond b (who.Seat (16 + n)) (who.Worker (16 + n - 16))) (le-ltb (16 + n) 16 (omega arith)) ∙ ap who.Worker back

pub seat_is_new : (c : Content) (n : ℕ) (v : KeyView) (r : ReaderState) (w : Who) → v ≡ child (founder_at c n) → maker n ≡ w → r ≡ caught_up w c.journal c.engine.book → IsSeat v r
seat_is_new c n v r w key who got =
    subst (λ (k : KeyView). IsSeat k r) (sym key)
    (subst (λ (z : ReaderState). IsSeat (child (founder_at c n)) z) (sym got)
    (record { free = refl; told = refl; who = who; book = refl; later = prefix_self c.journal; own = refl; but_last = (omega arith, omega arith) }))

pub new_received : {Q O : Type 0} (s : SeatView Q O) → s.of.engine.opening.from ≡ length s.seen → s.polled ≡ s.of.engine.opening.from → s.mine ≡ [] → HasReceipts s
new_received s begun p none = record {
  placed = subst (λ m. IsPlaced s.of.engine.opening s.who m s.seen) (sym none) (first_is_placed s.of.engine.opening s.who s.seen begun);
  polled = ap (mark s.of.engine.opening.from) none ∙ sym p;
}

pub new_more : {Q O : Type 0} (m : MultiView Q O) (j : List Event) (ties : List Origin) (worker : Bool) (n : ℕ) (ss : List (SeatView Q O)) (s : SeatView Q O) → AreNew m j ties worker n ss → IsNew m j ties (maker_of worker (n + length ss)) s → AreNew m j ties worker n (ss ++ s ∷ [])
new_more {Q} {O} m j ties worker n [] s h new = let e : n + 0 ≡ n = omega arith in (subst (λ k. IsNew m j ties (maker_of worker k) s) e new, tt)
new_more {Q} {O} m j ties worker n (x ∷ ss) s h new =
    let e : n + suc (length ss) ≡ n + 1 + length ss = omega arith in (h.0, new_more m j ties worker (n + 1) ss s h.1 (subst (λ k. IsNew m j ties (maker_of worker k) s) e new))

pub readers_more : (worker : Bool) (n : ℕ) (j : List Event) (book : Book) (rs : List ReaderState) (r : ReaderState) → AreReaders worker n j book rs → r ≡ caught_up (maker_of worker (n + length rs)) j book → AreReaders worker n j book (rs ++ r ∷ [])
readers_more worker n j book [] r h new = let e : n + 0 ≡ n = omega arith in (subst (λ k. r ≡ caught_up (maker_of worker k) j book) e new, tt)
readers_more worker n j book (x ∷ rs) r h new = let e : n + suc (length rs) ≡ n + 1 + length rs = omega arith in (h.0, readers_more worker (n + 1) j book rs r h.1 (subst (λ k. r ≡ caught_up (maker_of worker k) j book) e new))

-- a reader that was made for a maker
pub reader_is : (worker : Bool) (n m : ℕ) (w : Who) (j k : List Event) (a b : Book) (r : ReaderState) → r ≡ caught_up w j a → w ≡ maker_of worker n → j ≡ k → a ≡ b → n ≡ m → r ≡ caught_up (maker_of worker m) k b
reader_is worker n m w j k a b r got who journal book same =
    let maker : w ≡ maker_of worker m = who ∙ ap (maker_of worker) same in
    let path : caught_up w j a ≡ caught_up (maker_of worker m) k b = λ i. record { who = maker i; seen = journal i; book = book i; confirmed = length (journal i) } in
    got ∙ path

-- a key and a reader make a new seat
pub is_new : {Q O : Type 0} (m of : MultiView Q O) (j : List Event) (claimed : List Ticket) (v : KeyView) (r : ReaderState) (worker : Bool) (n k from : ℕ) (t : ProgressState) (w : NoteState) (told ties : List Origin) (mine : List Receipt) (given : List Ticket) → of.table ≡ m.table → of.keys ≡ m.keys → of.engine ≡ engine_of v → of.words ≡ w.of → w ≡ new_seat t → t.id ≡ m.words → of.limits ≡ m.limits
    → v ≡ child (founder_at (record { journal = j; engine = m.engine; claimed = claimed }) k) → r ≡ caught_up (maker_of worker n) j m.engine.book → from ≡ m.engine.opening.from → told ≡ ties → mine ≡ [] → given ≡ []
    → IsNew m j ties (maker_of worker n) (seat_of of v r from w told mine given)
is_new {Q} {O} m of j claimed v r worker n k from t w told ties mine given table keys engine words fresh of_words limits key got begun same_ties no_receipt none_given =
    let same : of ≡ m = λ i. record { table = table i; keys = keys i; engine = (engine ∙ ap engine_of key) i; words = (words ∙ ap (λ (z : NoteState). z.of) fresh ∙ of_words) i; limits = limits i } in
    record {
      of = same;
      who = ap (λ (z : ReaderState). z.who) got;
      seen = ap (λ (z : ReaderState). z.seen) got;
      confirmed = ap (λ (z : ReaderState). z.confirmed) got;
      polled = begun;
      claims = ap (λ (z : KeyView). z.claims) key;
      ties = same_ties;
      mine = no_receipt;
      given = none_given;
      noted = ap (λ (z : NoteState). z.noted) fresh;
      read = ap (λ (z : NoteState). z.read) fresh;
    }

pub length_more : {X : Type 0} (xs ys : List X) (x : X) (n m : ℕ) → ys ≡ xs ++ x ∷ [] → length xs ≡ n → m ≡ n + 1 → length ys ≡ m
length_more xs ys x n m e at more = omega (arith, ap length e, length-append xs (x ∷ []), at, more)

pub new_at : {Q O : Type 0} (m : MultiView Q O) (j : List Event) (ties : List Origin) (worker : Bool) (n k : ℕ) (s : SeatView Q O) → n ≡ k → IsNew m j ties (maker_of worker n) s → IsNew m j ties (maker_of worker k) s
new_at m j ties worker n k s e h = subst (λ i. IsNew m j ties (maker_of worker i) s) e h

-- each new seat is one of the multi handle
pub all_own : {Q O : Type 0} (m : MultiView Q O) (j : List Event) (ties : List Origin) (worker : Bool) (n : ℕ) (ss : List (SeatView Q O)) → AreNew m j ties worker n ss → (k : ℕ) (d : SeatView Q O) → k < length ss → (slice_index_or ss k d).of ≡ m
all_own m j ties worker n [] h k d lt = absurd (omega arith)
all_own m j ties worker n (s ∷ ss) h zero d lt = h.0.of
all_own m j ties worker n (s ∷ ss) h (suc k) d lt = all_own m j ties worker (n + 1) ss h.1 k d (omega arith)
