use Rattle.std.proofs.Common.{arith, ◌≡◌, ◌∙◌, ℕ, zero, suc, ◌<◌, List, ◌∷◌, length, ap, subst, sym}
use Rattle.std.specs.Prelude.{slice_index_or, Result, Ok, Err, MatchResult, OnErr}
use Rattle.std.specs.List.{All}
use Rattle.std.proofs.lemmas.List.Elements.{All-head, All-tail}
use Rattle.mx_types.specs.declared.event.Event.{Event}
use Rattle.mx_multi.specs.Meeting.{AllSee, Meets, SeesAll}
use Rattle.mx_multi.specs.Retiring.{HasWrongSeat}
use Rattle.mx_multi.specs.Seats.{SeatView}
use Rattle.mx_multi.proofs.Kept.{wrong_of_seats, wrong_of_workers}
use Rattle.mx_multi.proofs.multi.Multi.meet_all.Goals as goal

module _ {Q O : Type 0} where
  -- a seat sees the journal, and so do those after it
  all_first : (j : List Event) (s t : SeatView Q O) (ss ts : List (SeatView Q O)) → SeesAll j s t → AllSee j ss ts → AllSee j (s ∷ ss) (t ∷ ts)
  all_first j s t ss ts h all = (ap suc all.0, each) where
    each : (k : ℕ) (d : SeatView Q O) → k < length (s ∷ ss) → SeesAll j (slice_index_or (s ∷ ss) k d) (slice_index_or (t ∷ ts) k d)
    each zero d lt = h
    each (suc k) d lt = all.1 k d (omega arith)

  -- they meet through the first of the seats
  meets_first : (s t : SeatView Q O) (all ss ts workers met : List (SeatView Q O)) (n : ℕ) → all ≡ s ∷ ss → SeesAll t.seen s t → AllSee t.seen ss ts → AllSee t.seen workers met → n ≡ length t.seen → Meets all (t ∷ ts) workers met n
  meets_first s t all ss ts workers met n e h rest others count = record {
    list = t.seen;
    legal = h.sees.legal;
    count = count;
    for_seats = subst (λ (l : List (SeatView Q O)). AllSee t.seen l (t ∷ ts)) (sym e) (all_first t.seen s t ss ts h rest);
    for_workers = others;
  }

  -- they meet through the first of the workers' seats
  meets_worker : (s t : SeatView Q O) (all ss ts seats met : List (SeatView Q O)) (n : ℕ) → all ≡ s ∷ ss → SeesAll t.seen s t → AllSee t.seen seats met → AllSee t.seen ss ts → n ≡ length t.seen → Meets seats met all (t ∷ ts) n
  meets_worker s t all ss ts seats met n e h others rest count = record {
    list = t.seen;
    legal = h.sees.legal;
    count = count;
    for_seats = others;
    for_workers = subst (λ (l : List (SeatView Q O)). AllSee t.seen l (t ∷ ts)) (sym e) (all_first t.seen s t ss ts h rest);
  }

  -- none has changed
  as_they_were : (s t : SeatView Q O) (all ss ts : List (SeatView Q O)) → all ≡ s ∷ ss → t ≡ s → ts ≡ ss → t ∷ ts ≡ all
  as_they_were s t all ss ts e one rest = ap (λ (x : SeatView Q O). x ∷ ts) one ∙ ap (λ (l : List (SeatView Q O)). s ∷ l) rest ∙ sym e

  -- as a meeting through one of the seats ends, so does that of all
  by_first : {W : Type 0} (r : Result ℕ W) (s t : SeatView Q O) (all ss ts workers met : List (SeatView Q O)) → all ≡ s ∷ ss
      → MatchResult r (λ n. SeesAll t.seen s t × AllSee t.seen ss ts × AllSee t.seen workers met × (n ≡ length t.seen)) (λ _. (t ≡ s) × (ts ≡ ss) × (met ≡ workers))
      → MatchResult r (λ n. Meets all (t ∷ ts) workers met n) (λ _. (t ∷ ts ≡ all) × (met ≡ workers))
  by_first (Ok n) s t all ss ts workers met e h = meets_first s t all ss ts workers met n e h.0 h.1 h.2 h.3
  by_first (Err w) s t all ss ts workers met e h = (as_they_were s t all ss ts e h.0 h.1, h.2)

  -- and through one of the workers' seats
  by_worker : {W : Type 0} (r : Result ℕ W) (s t : SeatView Q O) (all ss ts seats met : List (SeatView Q O)) → all ≡ s ∷ ss
      → MatchResult r (λ n. SeesAll t.seen s t × AllSee t.seen seats met × AllSee t.seen ss ts × (n ≡ length t.seen)) (λ _. (t ≡ s) × (met ≡ seats) × (ts ≡ ss))
      → MatchResult r (λ n. Meets seats met all (t ∷ ts) n) (λ _. (met ≡ seats) × (t ∷ ts ≡ all))
  by_worker (Ok n) s t all ss ts seats met e h = meets_worker s t all ss ts seats met n e h.0 h.1 h.2 h.3
  by_worker (Err w) s t all ss ts seats met e h = (h.1, as_they_were s t all ss ts e h.0 h.2)

on_err : {T W A B : Type 0} (r : Result T W) → (A → B) → OnErr r A → OnErr r B
on_err (Ok x) f h = h
on_err (Err w) f h = f h

pub meet_by-requires : goal.meet_by-requires
meet_by-requires g c =
    let own : SeatView g.row.Q.Denot g.row.O.Denot → Type 0 = λ s. s.of ≡ c.args.self.now in
    let all = subst (All own) c.in-Some.ensures.cases.0 c.requires.own.0 in
    record { own = (All-head own c.in-Some.one.now c.in-Some.rest.now all, All-tail own c.in-Some.one.now c.in-Some.rest.now all, c.requires.own.1) }

pub meet_by-requires-2 : goal.meet_by-requires-2
meet_by-requires-2 g c =
    let own : SeatView g.row.Q.Denot g.row.O.Denot → Type 0 = λ s. s.of ≡ c.args.self.now in
    let one = c.in-Some-split_first_mut.one.now in
    let rest = c.in-Some-split_first_mut.rest.now in
    let all = subst (All own) c.in-Some-split_first_mut.ensures.cases.0 c.requires.own.1 in
    record { own = (All-head own one rest all, c.requires.own.0, All-tail own one rest all) }

pub returns-in-Some-clause-right : goal.returns-in-Some-clause-right
returns-in-Some-clause-right g c =
    let m = c.args.self.now in
    let workers = c.args.workers.now in
    on_err c.meet_by.result (λ h. subst (λ (ss : List (SeatView g.row.Q.Denot g.row.O.Denot)). HasWrongSeat g.O.Ending.code_of g.O.Ending.size_of m ss workers) (sym c.in-Some.ensures.cases.0)
    (wrong_of_seats g.O.Ending.code_of g.O.Ending.size_of m c.in-Some.one.now c.in-Some.rest.now workers h)) c.meet_by.ensures.right

pub returns-clause-right : goal.returns-clause-right
returns-clause-right g c =
    let m = c.args.self.now in
    let seats = c.args.seats.now in
    let one = c.in-Some-split_first_mut.one.now in
    let rest = c.in-Some-split_first_mut.rest.now in
    on_err c.meet_by-2.result (λ h. subst (λ (ws : List (SeatView g.row.Q.Denot g.row.O.Denot)). HasWrongSeat g.O.Ending.code_of g.O.Ending.size_of m seats ws) (sym c.in-Some-split_first_mut.ensures.cases.0)
    (wrong_of_workers g.O.Ending.code_of g.O.Ending.size_of m one seats rest h)) c.meet_by-2.ensures.right

pub returns-in-Some-clause-meets : goal.returns-in-Some-clause-meets
returns-in-Some-clause-meets g c = by_first c.meet_by.result _ _ _ _ _ _ _ c.in-Some.ensures.cases.0 c.meet_by.ensures.meets

pub returns-clause-meets : goal.returns-clause-meets
returns-clause-meets g c = by_worker c.meet_by-2.result _ _ _ _ _ _ _ c.in-Some-split_first_mut.ensures.cases.0 c.meet_by-2.ensures.meets
