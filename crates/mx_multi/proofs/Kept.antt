-- What a retiring finds of the seats that it takes.
use Rattle.std.proofs.Common.{◌≡◌, ◌⊎◌, inl, inr, ⊎_elim, ℕ, zero, suc, ◌+◌, ◌<◌, ◌≤◌, ◌∙◌, sym, refl, ap, subst, List, [], ◌∷◌, ◌++◌, length, length-append, Bool, MatchBool, true, false, arith}
use Rattle.std.specs.Prelude.{slice_index_or}
use Rattle.std.proofs.lemmas.List.Elements.{All-push}
use mathlib.Core.List.{IsPrefix}
use Rattle.mx_types.specs.declared.code.Code.{Code}
use Rattle.mx_types.specs.declared.event.Event.{Event}
use Rattle.mx_journal.specs.History.{made_by}
use Rattle.mx_board.specs.Board.{ReaderState}
use Rattle.mx_lock.specs.Engine.{EngineState}
use Rattle.mx_multi.specs.Seats.{Finds, FindsOther, IsAhead, IsNoOlder, MultiView, SeatView}
use Rattle.mx_multi.specs.Meeting.{OneIsWrong}
use Rattle.mx_multi.specs.Retiring.{AllFind, FoundIn, HasRightSeats, HasWrongSeat, Hinders, IsRefused, LacksSeats, OneFindsOther}
use Rattle.mx_multi.specs.declared.open.Limits.{Limits}
use Rattle.mx_multi.specs.declared.retire.Refusal.{Refusal}
use Rattle.mx_multi.specs.declared.retire.Refusal.TheVariants as refusal

at_last : {X : Type 0} (xs : List X) (x d : X) → slice_index_or (xs ++ x ∷ []) (length xs) d ≡ x
at_last [] x d = refl
at_last (y ∷ xs) x d = at_last xs x d

at_front : {X : Type 0} (xs : List X) (x d : X) (k : ℕ) → k < length xs → slice_index_or (xs ++ x ∷ []) k d ≡ slice_index_or xs k d
at_front [] x d k lt = absurd (omega arith)
at_front (y ∷ xs) x d zero lt = refl
at_front (y ∷ xs) x d (suc k) lt = at_front xs x d k (omega arith)

one_more : {X : Type 0} (xs : List X) (x : X) → length (xs ++ x ∷ []) ≡ length xs + 1
one_more xs x = length-append xs (x ∷ [])

module _ {Q O : Type 0} where
  -- a journal is ahead of a seat's reader, or of the seat
  pub finds_as : (b : Bool) (r : ReaderState) (s : SeatView Q O) (j : List Event) → s.who ≡ r.who → s.seen ≡ r.seen → MatchBool b (IsAhead r j) (IsAhead r j → ⊥) → MatchBool b (Finds s j) (Finds s j → ⊥)
  finds_as true r s j who seen h = record {
    later = subst (λ l. IsPrefix l j) (sym seen) h.0;
    own = ap (λ w. made_by w j) who ∙ h.1 ∙ ap (λ w. made_by w r.seen) (sym who) ∙ ap (made_by s.who) (sym seen);
  }
  finds_as false r s j who seen h = λ f. h (subst (λ l. IsPrefix l j) seen f.later, ap (λ w. made_by w j) (sym who) ∙ f.own ∙ ap (made_by s.who) seen ∙ ap (λ w. made_by w r.seen) who)

  other_front : (j : List Event) (seats : List (SeatView Q O)) (last : SeatView Q O) → OneFindsOther j seats → OneFindsOther j (seats ++ last ∷ [])
  other_front j seats last h =
      let lt = h.2 in
      let same = at_front seats last h.1 h.0 lt in
      (h.0, h.1, omega (arith, lt, one_more seats last), subst (λ (s : SeatView Q O). IsNoOlder s j) (sym same) h.3, λ f. h.4 (subst (λ (s : SeatView Q O). Finds s j) same f))

  -- the journal, no older, isn't what the seat has seen
  abbrev LiesOther : SeatView Q O → List Event → Type 0
  LiesOther s j = IsNoOlder s j × (Finds s j → ⊥)

  other_first : (j : List Event) (one : SeatView Q O) (seats : List (SeatView Q O)) → LiesOther one j → OneFindsOther j (one ∷ seats)
  other_first j one seats h = (0, one, omega (arith), h.0, h.1)

  other_rest : (j : List Event) (one : SeatView Q O) (seats : List (SeatView Q O)) → OneFindsOther j seats → OneFindsOther j (one ∷ seats)
  other_rest j one seats h = (suc h.0, h.1, omega (arith, h.2), h.3, h.4)

  other_of : (j : List Event) (one : SeatView Q O) (seats workers : List (SeatView Q O)) → LiesOther one j ⊎ (OneFindsOther j seats ⊎ OneFindsOther j workers) → OneFindsOther j (one ∷ seats) ⊎ OneFindsOther j workers
  other_of j one seats workers h =
      ⊎_elim (λ (o : LiesOther one j). inl (other_first j one seats o)) (λ (o : OneFindsOther j seats ⊎ OneFindsOther j workers).
      ⊎_elim (λ (p : OneFindsOther j seats). inl (other_rest j one seats p)) (λ (p : OneFindsOther j workers). inr p) o) h

  other_of_workers : (j : List Event) (one : SeatView Q O) (seats workers : List (SeatView Q O)) → LiesOther one j ⊎ (OneFindsOther j seats ⊎ OneFindsOther j workers) → OneFindsOther j seats ⊎ OneFindsOther j (one ∷ workers)
  other_of_workers j one seats workers h =
      ⊎_elim (λ (o : LiesOther one j). inr (other_first j one workers o)) (λ (o : OneFindsOther j seats ⊎ OneFindsOther j workers).
      ⊎_elim (λ (p : OneFindsOther j seats). inl p) (λ (p : OneFindsOther j workers). inr (other_rest j one workers p)) o) h

  module _ (code : O → Code) (size : O → ℕ) (m : MultiView Q O) (seats workers : List (SeatView Q O)) (last : SeatView Q O) where
    -- the journal in the lock isn't what the seat has seen
    pub wrong_seat : last.of ≡ m → FindsOther code size last → IsRefused code size m (seats ++ last ∷ []) workers refusal.WrongSeat
    wrong_seat own o = (
      o.found,
      record { engine = o.engine ∙ ap (λ (z : MultiView Q O). z.engine) own; locked = o.locked },
      inl (
        length seats,
        last,
        omega (arith, one_more seats last),
        subst (λ (s : SeatView Q O). IsNoOlder s o.found.core.journal) (sym (at_last seats last last)) o.newer,
        λ f. o.other (subst (λ (s : SeatView Q O). Finds s o.found.core.journal) (at_last seats last last) f),
      ),
    )

    pub none_lack : (l : Limits) → l ≡ m.limits → l.seats ≤ length seats + 1 → l.workers ≤ length workers → LacksSeats m (seats ++ last ∷ []) workers → ⊥
    none_lack l is all all_workers lack =
        let s = ap (λ (z : Limits). z.seats) is in
        let w = ap (λ (z : Limits). z.workers) is in
        let more = one_more seats last in
        ⊎_elim (λ (few : length (seats ++ last ∷ []) < m.limits.seats). omega (arith, few, more, all, s)) (λ (few : length workers < m.limits.workers). omega (arith, few, all_workers, w)) lack

    right : (x : EngineState Q O) → FoundIn code size m x → Finds last x.core.journal → AllFind x.core.journal seats → AllFind x.core.journal workers → HasRightSeats code size m (seats ++ last ∷ []) workers x
    right x at f all all_workers = (at, All-push (λ (s : SeatView Q O). Finds s x.core.journal) seats last all f, all_workers)

    -- what blocks it beside that seat blocks it
    pub refused_by : (why : Refusal) (x : EngineState Q O) (l : Limits) → l ≡ m.limits → FoundIn code size m x → Finds last x.core.journal → Hinders x l seats workers why → IsRefused code size m (seats ++ last ∷ []) workers why
    refused_by refusal.WrongSeat x l is at f h = (
      x,
      at,
      ⊎_elim (λ (o : OneFindsOther x.core.journal seats). inl (other_front x.core.journal seats last o)) (λ (o : OneFindsOther x.core.journal workers). inr o) h,
    )
    refused_by refusal.SeatsMissing x l is at f h =
        let s = ap (λ (z : Limits). z.seats) is in
        let w = ap (λ (z : Limits). z.workers) is in
        let more = one_more seats last in (
          ⊎_elim (λ (few : length seats + 1 < l.seats). inl (omega (arith, few, more, s))) (λ (few : length workers < l.workers). inr (omega (arith, few, w))) h.2,
          inr (x, right x at f h.0 h.1),
        )
    refused_by refusal.ClaimOut x l is at f h = (x, right x at f h.0 h.1, h.4, none_lack l is h.2 h.3)
    refused_by refusal.OutOfMemory x l is at f h = (x, right x at f h.0 h.1, h.4, none_lack l is h.2 h.3)

  module _ (code : O → Code) (size : O → ℕ) (m : MultiView Q O) where
    -- one of those that are to meet is wrong: of the seats, where the first of them is apart
    pub wrong_of_seats : (one : SeatView Q O) (seats workers : List (SeatView Q O)) → OneIsWrong code size m one seats workers → HasWrongSeat code size m (one ∷ seats) workers
    wrong_of_seats one seats workers h = (h.0, h.1, other_of h.0.core.journal one seats workers h.2)

    -- and of the workers' seats, where the first of those does
    pub wrong_of_workers : (one : SeatView Q O) (seats workers : List (SeatView Q O)) → OneIsWrong code size m one seats workers → HasWrongSeat code size m seats (one ∷ workers)
    wrong_of_workers one seats workers h = (h.0, h.1, other_of_workers h.0.core.journal one seats workers h.2)

    -- the seat by which the lock was to be entered
    pub wrong_one : (one : SeatView Q O) (seats workers : List (SeatView Q O)) → one.of ≡ m → FindsOther code size one → OneIsWrong code size m one seats workers
    wrong_one one seats workers own o = (
      o.found,
      record { engine = o.engine ∙ ap (λ (z : MultiView Q O). z.engine) own; locked = o.locked },
      inl (o.newer, o.other),
    )
