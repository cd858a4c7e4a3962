-- What a call leaves by one of its exits: without an event, with one that was refused memory, and with one.
use Rattle.std.proofs.Common.{◌≡◌, ◌∙◌, ℕ, List, [], ◌∷◌, ◌++◌, ap, append-nil, false, length, map, refl, subst, sym, true}
use Rattle.std.specs.Prelude.{Bool, ◌<◌, ◌≤◌, Option, drop, if◌then◌else◌, nat_le, not, option_map, slice_get, None, Some}
use Rattle.std.specs.Option.{IsSome, is_some, option_to_list}
use Rattle.std.proofs.Math.Seq.{drop-append_seam, drop-length}
use Rattle.std.proofs.lemmas.Bool.{false≢true, le-ltb, lt-ltb}
use Rattle.mx_types.specs.Limits.{greatest_ticket, most_handles}
use Rattle.mx_types.specs.declared.call.Call.{Call}
use Rattle.mx_types.specs.declared.call.Call.TheVariants as call
use Rattle.mx_types.specs.declared.code.Code.{Code}
use Rattle.mx_types.specs.declared.event.Event.{Event}
use Rattle.mx_types.specs.declared.event.What.{What}
use Rattle.mx_types.specs.declared.event.What.TheVariants as what
use Rattle.mx_types.specs.declared.event.Who.{Who}
use Rattle.mx_types.specs.declared.names.HandleId.{HandleId}
use Rattle.mx_types.specs.declared.names.Ticket.{Ticket}
use Rattle.mx_types.specs.declared.reply.Reply.{Reply}
use Rattle.mx_types.specs.declared.reply.Reply.TheVariants as reply
use Rattle.mx_history.specs.Answers.{Answer, Answers, answer, are_spent, next_ticket, only, pausing_answer, read_answer, ticket_of}
use Rattle.mx_history.specs.History.{Opening, added, has_room, has_ticket, paused, running, waiting}
use Rattle.mx_history.specs.declared.row.Row.{Row}
use Rattle.mx_history.specs.Receipts.{comes_with_event, lacks_memory}
use Rattle.mx_journal.specs.Called.{Called, out_after}
use Rattle.mx_journal.specs.Core.{Core, message, queued, with_out}
use Rattle.mx_journal.specs.Replies.{answer_with_room, pausing_call}

idle : (before j : List Event) → before ≡ before ++ drop (length j) j
idle before j = sym (ap (λ z. before ++ z) (drop-length j) ∙ append-nil before)

grown : (before after j k : List Event) (e : Event) → k ≡ j ++ e ∷ [] → after ≡ before ++ e ∷ [] → after ≡ before ++ drop (length j) k
grown before after j k e is more = more ∙ ap (λ z. before ++ z) (sym (ap (drop (length j)) is ∙ drop-append_seam j (e ∷ [])))

pub called_none : {L Q O : Type 0} (events : L → List Event) (name : L → List ℕ) (may_refuse : L → Type 0) (who : Who) (call : Call) (x : Core Q O) (log : L) (r : Reply)
    → Answers x.opening who call x.journal r x.journal → lacks_memory r ≡ false → out_after r x.out ≡ x.out → Called events name may_refuse who call x x log log r
called_none events name may_refuse who call x log r answers had kept = record {
  answers = answers;
  logged = idle (events log) x.journal;
  same_log = refl;
  memory = λ lacks. absurd (false≢true (sym had ∙ lacks));
  out = sym kept;
  unchanged = λ _. ap (λ n. with_out n x) (sym kept);
  opening = refl;
}

pub called_refused : {L Q O : Type 0} (events : L → List Event) (name : L → List ℕ) (may_refuse : L → Type 0) (who : Who) (call : Call) (x : Core Q O) (before after : L)
    → IsSome (answer x.opening x.journal call).1 → events after ≡ events before → name after ≡ name before → may_refuse before
    → Called events name may_refuse who call x x before after reply.OutOfMemory
called_refused events name may_refuse who call x before after some same named may = record {
  answers = (some, refl);
  logged = same ∙ idle (events before) x.journal;
  same_log = named;
  memory = λ _. may;
  out = refl;
  unchanged = λ _. refl;
  opening = refl;
}

pub called_with : {L Q O : Type 0} (events : L → List Event) (name : L → List ℕ) (may_refuse : L → Type 0) (who : Who) (call : Call) (x y : Core Q O) (before after : L) (e : What) (r : Reply)
    → Answers x.opening who call x.journal r y.journal → comes_with_event r ≡ true → lacks_memory r ≡ false → y.journal ≡ x.journal ++ record { who = who; what = e } ∷ []
    → events after ≡ events before ++ record { who = who; what = e } ∷ [] → name after ≡ name before → y.out ≡ out_after r x.out → y.opening ≡ x.opening → Called events name may_refuse who call x y before after r
called_with events name may_refuse who call x y before after e r answers comes had journal more named out opening = record {
  answers = answers;
  logged = grown (events before) (events after) x.journal y.journal (record { who = who; what = e }) journal more;
  same_log = named;
  memory = λ lacks. absurd (false≢true (sym had ∙ lacks));
  out = out;
  unchanged = λ idle. absurd (false≢true (sym idle ∙ comes));
  opening = opening;
}

-- without an event, where a claim came back
pub called_spent : {L Q O : Type 0} (events : L → List Event) (name : L → List ℕ) (may_refuse : L → Type 0) (who : Who) (call : Call) (x y : Core Q O) (log : L) (r : Reply)
    → Answers x.opening who call x.journal r x.journal → lacks_memory r ≡ false → y ≡ with_out (out_after r x.out) x → Called events name may_refuse who call x y log log r
called_spent events name may_refuse who call x y log r answers had is =
    subst (λ z. Called events name may_refuse who call x z log log r) (sym is) (record {
      answers = answers;
      logged = idle (events log) x.journal;
      same_log = refl;
      memory = λ lacks. absurd (false≢true (sym had ∙ lacks));
      out = refl;
      unchanged = λ _. refl;
      opening = refl;
    })

-- the answer without an event is the reply alone
pub answers_alone : (opening : Opening) (who : Who) (call : Call) (j : List Event) (r : Reply) → answer opening j call ≡ only r
    → (r ≡ (answer opening j call).0) × (j ≡ j ++ map (λ w. record { who = who; what = w }) (option_to_list (answer opening j call).1))
answers_alone opening who call j r is =
    (sym (ap (λ (a : Answer). a.0) is), sym (append-nil j) ∙ ap (λ (a : Answer). j ++ map (λ w. record { who = who; what = w }) (option_to_list a.1)) (sym is))

-- what the end of a transfer is answered where that runs, and where it doesn't
pub end_recorded : (opening : Opening) (j : List Event) (t : Ticket) (code : Code) (size : ℕ) → has_ticket t (running j) ≡ true → answer opening j (call.Finish t code size) ≡ (reply.Recorded, Some (what.Done t code size))
end_recorded opening j t code size runs = ap (λ b. if b then (reply.Recorded, Some (what.Done t code size)) else only reply.Stale) runs

pub end_stale : (opening : Opening) (j : List Event) (t : Ticket) (code : Code) (size : ℕ) → has_ticket t (running j) ≡ false → answer opening j (call.Finish t code size) ≡ only reply.Stale
end_stale opening j t code size gone = ap (λ b. if b then (reply.Recorded, Some (what.Done t code size)) else only reply.Stale) gone

-- what an addition is answered, by the ticket that its handle is added under and three tests
abbrev by_tests : Option Ticket → Bool → Bool → Bool → Ticket → HandleId → Answer
by_tests o full spent room t h =
    elim o [
      | Some _ ↦ only reply.AddedAlready
      | None ↦
          (if full then only reply.TableFull
          else if spent then only reply.TicketsSpent
          else if room then (reply.Added t, Some (what.Added h t))
          else only reply.HistoryFull)
    ]

pub no_ticket : (x : Option Ticket) (o : Option Row) → is_some o ≡ false → option_map (λ r. r.ticket) o ≡ x → x ≡ None
no_ticket x None s e = sym e
no_ticket x (Some r) s e = cc

module _ (opening : Opening) (j : List Event) (h : HandleId) where
  pub added_again : (o : Option Row) → is_some o ≡ true → option_map (λ r. r.ticket) o ≡ ticket_of h j → answer opening j (call.Add h) ≡ only reply.AddedAlready
  added_again None s e = cc
  added_again (Some r) s e = λ i. by_tests (sym e i) (nat_le most_handles (length (added j))) (are_spent opening j) (has_room opening.history j 4) (next_ticket opening j) h

  pub added_full : ticket_of h j ≡ None → nat_le most_handles (length (added j)) ≡ true → answer opening j (call.Add h) ≡ only reply.TableFull
  added_full new full = λ i. by_tests (new i) (full i) (are_spent opening j) (has_room opening.history j 4) (next_ticket opening j) h

  pub added_spent : ticket_of h j ≡ None → nat_le most_handles (length (added j)) ≡ false → greatest_ticket < (next_ticket opening j).0
      → answer opening j (call.Add h) ≡ only reply.TicketsSpent
  added_spent new few above = λ i. by_tests (new i) (few i) (lt-ltb greatest_ticket (next_ticket opening j).0 above i) (has_room opening.history j 4) (next_ticket opening j) h

  pub added_without_room : ticket_of h j ≡ None → nat_le most_handles (length (added j)) ≡ false → (next_ticket opening j).0 ≤ greatest_ticket
      → has_room opening.history j 4 ≡ false → answer opening j (call.Add h) ≡ only reply.HistoryFull
  added_without_room new few below full = λ i. by_tests (new i) (few i) (le-ltb greatest_ticket (next_ticket opening j).0 below i) (full i) (next_ticket opening j) h

  pub added_next : ticket_of h j ≡ None → nat_le most_handles (length (added j)) ≡ false → (next_ticket opening j).0 ≤ greatest_ticket
      → has_room opening.history j 4 ≡ true → answer opening j (call.Add h) ≡ (reply.Added (next_ticket opening j), Some (what.Added h (next_ticket opening j)))
  added_next new few below room = λ i. by_tests (new i) (few i) (le-ltb greatest_ticket (next_ticket opening j).0 below i) (room i) (next_ticket opening j) h

-- what a wakeup is answered where there is room, and where there is none
pub wakeup_taken : (opening : Opening) (j : List Event) → has_room opening.history j 1 ≡ true → answer opening j call.Wakeup ≡ (reply.Ok, Some what.Wake)
wakeup_taken opening j room = ap (λ b. if b then (reply.Ok, Some what.Wake) else only reply.Failure) room

pub wakeup_refused : (opening : Opening) (j : List Event) → has_room opening.history j 1 ≡ false → answer opening j call.Wakeup ≡ only reply.Failure
wakeup_refused opening j full = ap (λ b. if b then (reply.Ok, Some what.Wake) else only reply.Failure) full

-- what a reading is answered where no ending waits, and where one does
pub reading_none : {O : Type 0} (code : O → Code) (size : O → ℕ) (opening : Opening) (j : List Event) (endings : List (Ticket × O)) → map (message code size) endings ≡ waiting j → endings ≡ []
    → answer opening j call.InfoRead ≡ only reply.Empty
reading_none code size opening j endings waits none = ap (read_answer j) (sym waits ∙ ap (map (message code size)) none)

pub reading_some : {O : Type 0} (code : O → Code) (size : O → ℕ) (opening : Opening) (j : List Event) (t : Ticket) (endings : List (Ticket × O)) → map (message code size) endings ≡ waiting j
    → slice_get (queued endings) 0 ≡ Some t → IsSome (answer opening j call.InfoRead).1
reading_some code size opening j t [] waits first = absurd (false≢true (ap is_some first))
reading_some code size opening j t (x ∷ xs) waits first = subst (λ ms. IsSome (read_answer j ms).1) waits refl

-- the answer with an event is the reply and the journal with that event
pub answers_with : (opening : Opening) (who : Who) (call : Call) (j k : List Event) (e : What) (r : Reply) → answer opening j call ≡ (r, Some e) → k ≡ j ++ record { who = who; what = e } ∷ []
    → (r ≡ (answer opening j call).0) × (k ≡ j ++ map (λ w. record { who = who; what = w }) (option_to_list (answer opening j call).1))
answers_with opening who call j k e r is more =
    (sym (ap (λ (a : Answer). a.0) is), more ∙ ap (λ (a : Answer). j ++ map (λ w. record { who = who; what = w }) (option_to_list a.1)) (sym is))

with_room : (b : Bool) (e : What) → (if b then (reply.Changed, Some e) else only reply.HistoryFull) ≡ answer_with_room b e
with_room true e = refl
with_room false e = refl

-- what pauses or resumes a ticket
abbrev pub pausing : Bool → Ticket → What
pausing pauses t = if pauses then what.Paused t else what.Resumed t

-- a ticket that runs is paused where it isn't, and resumed where it is
pub pausing_answers : (opening : Opening) (j : List Event) (h : HandleId) (t : Ticket) (pauses : Bool) (e : What) → ticket_of h j ≡ Some t → has_ticket t (running j) ≡ true → has_ticket t (paused j) ≡ not pauses
    → e ≡ pausing pauses t → answer opening j (pausing_call pauses h) ≡ answer_with_room (has_room opening.history j 1) e
pausing_answers opening j h t true e added runs held is =
    ap (λ o. elim o [ None ↦ only reply.NotAdded | Some u ↦ pausing_answer opening j u (has_ticket u (paused j)) (what.Paused u) ]) added
    ∙ rw (runs, held, is) (with_room (has_room opening.history j 1) (what.Paused t))
pausing_answers opening j h t false e added runs held is =
    ap (λ o. elim o [ None ↦ only reply.NotAdded | Some u ↦ pausing_answer opening j u (not (has_ticket u (paused j))) (what.Resumed u) ]) added
    ∙ rw (runs, held, is) (with_room (has_room opening.history j 1) (what.Resumed t))
