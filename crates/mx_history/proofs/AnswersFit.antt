-- An answer of the core makes a receipt that fits.
use Rattle.std.proofs.Common.{◌≡◌, ◌-◌, ◌∙◌, sym, refl, ap, subst, List, [], ◌∷◌, ◌++◌, append-nil, length, length-append, Bool, true, false, cond, map, arith}
use Rattle.std.specs.Prelude.{take, slice_get, nat_le, not, ◌||◌, Option, Some, None}
use Rattle.std.specs.Option.{is_some, IsSome, option_to_list}
use Rattle.std.proofs.lemmas.Bool.{false≢true, true≢false}
use Rattle.std.proofs.Math.Seq.{take-append_seam}
use Rattle.mx_types.specs.Limits.{most_handles}
use Rattle.mx_types.specs.declared.names.HandleId.{HandleId}
use Rattle.mx_types.specs.declared.names.Ticket.{Ticket}
use Rattle.mx_types.specs.declared.event.Who.{Who}
use Rattle.mx_types.specs.declared.event.What.{What}
use Rattle.mx_types.specs.declared.event.What.TheVariants as what
use Rattle.mx_types.specs.declared.event.Event.{Event}
use Rattle.mx_types.specs.declared.call.Call.{Call}
use Rattle.mx_types.specs.declared.call.Call.TheVariants as call
use Rattle.mx_types.specs.declared.call.Receipt.{Receipt}
use Rattle.mx_types.specs.declared.reply.Reply.{Reply}
use Rattle.mx_types.specs.declared.reply.Reply.TheVariants as reply
use Rattle.mx_history.specs.History.{Message, Opening, added, waiting, running, paused, has_ticket, has_room}
use Rattle.mx_history.specs.Answers.{Answer, only, ticket_of, next_ticket, are_spent, pausing_answer, read_answer, answer, is_ready}
use Rattle.mx_history.specs.Receipts.{comes_with_event, lacks_memory, is_poll, mark, Fits}
use Rattle.mx_history.specs.Laws.{AnswersFit}

-- an answer's reply says whether it has an event, and is never `OutOfMemory`
abbrev pub Tells : Answer → Type 0
Tells a = (comes_with_event a.0 ≡ is_some a.1) × (lacks_memory a.0 ≡ false)

add_tells : (o : Option Ticket) (full spent room : Bool) (h : HandleId) (t : Ticket)
    → Tells (elim o [ Some _ ↦ only reply.AddedAlready | None ↦ cond full (only reply.TableFull) (cond spent (only reply.TicketsSpent) (cond room (reply.Added t, Some (what.Added h t)) (only reply.HistoryFull))) ])
add_tells (Some u) full spent room h t = (refl, refl)
add_tells None true spent room h t = (refl, refl)
add_tells None false true room h t = (refl, refl)
add_tells None false false true h t = (refl, refl)
add_tells None false false false h t = (refl, refl)

remove_tells : (o : Option Ticket) (h : HandleId) → Tells (elim o [ None ↦ only reply.RemoveNotAdded | Some t ↦ (reply.Removed, Some (what.Removed h t)) ])
remove_tells None h = (refl, refl)
remove_tells (Some t) h = (refl, refl)

pausing_tells : (runs idle room : Bool) (e : What) → Tells (cond (not runs) (only reply.NotRunning) (cond idle (only reply.NoChange) (cond room (reply.Changed, Some e) (only reply.HistoryFull))))
pausing_tells false idle room e = (refl, refl)
pausing_tells true true room e = (refl, refl)
pausing_tells true false true e = (refl, refl)
pausing_tells true false false e = (refl, refl)

pause_tells : (opening : Opening) (j : List Event) (o : Option Ticket)
    → Tells (elim o [ None ↦ only reply.NotAdded | Some t ↦ pausing_answer opening j t (has_ticket t (paused j)) (what.Paused t) ])
pause_tells opening j None = (refl, refl)
pause_tells opening j (Some t) = pausing_tells (has_ticket t (running j)) (has_ticket t (paused j)) (has_room opening.history j 1) (what.Paused t)

unpause_tells : (opening : Opening) (j : List Event) (o : Option Ticket)
    → Tells (elim o [ None ↦ only reply.NotAdded | Some t ↦ pausing_answer opening j t (not (has_ticket t (paused j))) (what.Resumed t) ])
unpause_tells opening j None = (refl, refl)
unpause_tells opening j (Some t) = pausing_tells (has_ticket t (running j)) (not (has_ticket t (paused j))) (has_room opening.history j 1) (what.Resumed t)

read_tells : (j : List Event) (ms : List Message) → Tells (read_answer j ms)
read_tells j [] = (refl, refl)
read_tells j (m ∷ ms) = (refl, refl)

either_tells : (b : Bool) (r s : Reply) (e : What) → Tells (r, Some e) → Tells (s, None) → Tells (cond b (r, Some e) (only s))
either_tells true r s e x y = x
either_tells false r s e x y = y

pub tells : (opening : Opening) (j : List Event) (c : Call) → Tells (answer opening j c)
tells opening j (call.Add h) = add_tells (ticket_of h j) (nat_le most_handles (length (added j))) (are_spent opening j) (has_room opening.history j 4) h (next_ticket opening j)
tells opening j (call.Remove h) = remove_tells (ticket_of h j) h
tells opening j (call.Pause h) = pause_tells opening j (ticket_of h j)
tells opening j (call.Unpause h) = unpause_tells opening j (ticket_of h j)
tells opening j call.InfoRead = read_tells j (waiting j)
tells opening j call.Wakeup = either_tells (has_room opening.history j 1) reply.Ok reply.Failure what.Wake (refl, refl) (refl, refl)
tells opening j call.Poll = (refl, refl)
tells opening j call.Handles = (refl, refl)
tells opening j call.Running = (refl, refl)
tells opening j (call.State h) = (refl, refl)
tells opening j (call.Finish t c n) = either_tells (has_ticket t (running j)) reply.Recorded reply.Stale (what.Done t c n) (refl, refl) (refl, refl)
tells opening j (call.Look t) = (refl, refl)

whole : (k : List Event) → take (length k) k ≡ k
whole k = ap (take (length k)) (sym (append-nil k)) ∙ take-append_seam k []

get_last : (j : List Event) (e : Event) → slice_get (j ++ e ∷ []) (length j) ≡ Some e
get_last [] e = refl
get_last (x ∷ j) e = get_last j e

or_off : (a b : Bool) → a ≡ true → (a || b) ≡ false → ⊥
or_off true b h k = true≢false k
or_off false b h k = false≢true h

abbrev At : List Event → Call → Reply → Receipt
At k c r = record { cut = length k; call = c; reply = r }

-- with no event
fits_none : (opening : Opening) (w : Who) (earlier : List Receipt) (c : Call) (r : Reply) (j : List Event) → r ≡ (answer opening j c).0 → comes_with_event r ≡ false → lacks_memory r ≡ false
    → (is_poll c ≡ true → is_ready (mark opening.from earlier) j ≡ true) → Fits opening w earlier (At j c r) j
fits_none opening w earlier c r j is none some ready = record {
  with_event = λ h. absurd (false≢true (sym none ∙ h));
  no_memory = λ h. absurd (false≢true (sym some ∙ h));
  without_event = λ _. is ∙ ap (λ z. (answer opening z c).0) (sym (whole j));
  ready = λ h. ap (is_ready (mark opening.from earlier)) (whole j) ∙ ready h;
}

-- with an event
fits_made : (opening : Opening) (w : Who) (earlier : List Receipt) (c : Call) (r : Reply) (j : List Event) (e : What) → answer opening j c ≡ (r, Some e) → comes_with_event r ≡ true → lacks_memory r ≡ false
    → (is_poll c ≡ true → is_ready (mark opening.from earlier) (j ++ record { who = w; what = e } ∷ []) ≡ true) → Fits opening w earlier (At (j ++ record { who = w; what = e } ∷ []) c r) (j ++ record { who = w; what = e } ∷ [])
fits_made opening w earlier c r j e is made some ready =
    let x : Event = record { who = w; what = e } in
    let k : List Event = j ++ x ∷ [] in
    let before : length k - 1 ≡ length j = omega (arith, length-append j (x ∷ [])) in
    record {
      with_event = λ _. record {
        event = e;
        above = omega (arith, length-append j (x ∷ []));
        stands = ap (slice_get k) before ∙ get_last j x;
        answered = ap (λ z. answer opening z c) (ap (λ n. take n k) before ∙ take-append_seam j (x ∷ [])) ∙ is;
      };
      no_memory = λ h. absurd (false≢true (sym some ∙ h));
      without_event = λ h. absurd (or_off (comes_with_event r) (lacks_memory r) made h);
      ready = λ h. ap (is_ready (mark opening.from earlier)) (whole k) ∙ ready h;
    }

pair_is : (a : Answer) (r : Reply) (e : What) → r ≡ a.0 → a.1 ≡ Some e → a ≡ (r, Some e)
pair_is (r', o) r e x y = cc

fits_answer : (opening : Opening) (w : Who) (earlier : List Receipt) (c : Call) (r : Reply) (j k : List Event) → r ≡ (answer opening j c).0
    → k ≡ j ++ map (λ e. record { who = w; what = e }) (option_to_list (answer opening j c).1) → (is_poll c ≡ true → is_ready (mark opening.from earlier) k ≡ true) → Fits opening w earlier (At k c r) k
fits_answer opening w earlier c r j k is left ready = go (answer opening j c).1 refl where
  t : Tells (answer opening j c)
  t = tells opening j c

  go : (o : Option What) → (answer opening j c).1 ≡ o → Fits opening w earlier (At k c r) k
  go None none =
      let same : j ≡ k = sym (left ∙ ap (λ o. j ++ map (λ (e : What). record { who = w; what = e }) (option_to_list o)) none ∙ append-nil j) in
      subst (λ (z : List Event). Fits opening w earlier (At z c r) z) same
      (fits_none opening w earlier c r j is (ap comes_with_event is ∙ t.0 ∙ ap is_some none) (ap lacks_memory is ∙ t.1) (λ h. ap (is_ready (mark opening.from earlier)) same ∙ ready h))
  go (Some e) made =
      let same : j ++ record { who = w; what = e } ∷ [] ≡ k = sym (left ∙ ap (λ o. j ++ map (λ (e : What). record { who = w; what = e }) (option_to_list o)) made) in
      subst (λ (z : List Event). Fits opening w earlier (At z c r) z) same
      (fits_made opening w earlier c r j e (pair_is (answer opening j c) r e is made) (ap comes_with_event is ∙ t.0 ∙ ap is_some made) (ap lacks_memory is ∙ t.1)
      (λ h. ap (is_ready (mark opening.from earlier)) same ∙ ready h))

-- memory for the event was refused
fits_no_memory : (opening : Opening) (w : Who) (earlier : List Receipt) (c : Call) (j k : List Event) → IsSome (answer opening j c).1 → k ≡ j
    → (is_poll c ≡ true → is_ready (mark opening.from earlier) k ≡ true) → Fits opening w earlier (At k c reply.OutOfMemory) k
fits_no_memory opening w earlier c j k some same ready = record {
  with_event = λ h. absurd (false≢true h);
  no_memory = λ _. subst (λ (z : List Event). IsSome (answer opening z c).1) (sym (whole k ∙ same)) some;
  without_event = λ h. absurd (true≢false h);
  ready = λ h. ap (is_ready (mark opening.from earlier)) (whole k) ∙ ready h;
}

pub answers_fit : AnswersFit
answers_fit opening w earlier c reply.OutOfMemory j k a ready = fits_no_memory opening w earlier c j k a.0 a.1 ready
answers_fit opening w earlier c r j k a ready = fits_answer opening w earlier c r j k a.0 a.1 ready
