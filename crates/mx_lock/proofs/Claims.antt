-- No call but a claim takes work from the queue: what is claimed after it was claimed before.
use Rattle.std.proofs.Common.{◌≡◌, ◌⊎◌, inl, inr, ⊎_elim, ◌∙◌, sym, refl, ap, subst, List, [], ◌∷◌, ◌++◌, append-nil, Bool, true, false, cond, map}
use Rattle.std.specs.Prelude.{not, nat_lt, ◌||◌, Option, Some, None}
use Rattle.std.specs.List.{filter}
use Rattle.std.specs.Option.{option_to_list}
use Rattle.std.proofs.lemmas.Bool.{cases_Bool, false≢true, not-true, or_left, or_right}
use Rattle.std.proofs.lemmas.List.{map-append}
use Rattle.std.proofs.lemmas.List.Folds.{list_any-append}
use Rattle.mx_types.specs.declared.names.HandleId.{HandleId}
use Rattle.mx_types.specs.declared.names.Ticket.{Ticket}
use Rattle.mx_types.specs.declared.event.Who.{Who}
use Rattle.mx_types.specs.declared.event.What.{What}
use Rattle.mx_types.specs.declared.event.What.TheVariants as what
use Rattle.mx_types.specs.declared.event.Event.{Event}
use Rattle.mx_types.specs.declared.call.Call.{Call}
use Rattle.mx_types.specs.declared.call.Call.TheVariants as call
use Rattle.mx_types.specs.declared.reply.Reply.{Reply}
use Rattle.mx_types.specs.declared.reply.Reply.TheVariants as reply
use Rattle.mx_journal.specs.declared.replies.GiveBackReply.{GiveBackReply}
use Rattle.mx_journal.specs.declared.replies.GiveBackReply.TheVariants as giving
use Rattle.mx_journal.specs.declared.replies.AddReply.{AddReply}
use Rattle.mx_journal.specs.declared.replies.AddReply.TheVariants as add
use Rattle.mx_journal.specs.History.{Addition, Message, Opening, same_ticket, has_ticket, occurs, ends, removes, addition_of, waiting, running, paused, has_room}
use Rattle.mx_journal.specs.Answers.{Answer, only, answer, are_spent, read_answer, ticket_of, next_ticket, pausing_answer, Answers}
use Rattle.mx_journal.specs.Core.{queued, claimed, still_running}
use Rattle.mx_journal.specs.Replies.{in_place, queue_given, queue_added, reply_of_add}
use Rattle.mx_journal.specs.Laws.{then}
use Rattle.mx_history.proofs.Lists.{has-filter, has-stays}
use Rattle.mx_history.proofs.Snoc.{occurs-snoc}
use Rattle.mx_history.proofs.Histories.{tickets}
use Rattle.mx_history.proofs.Tickets.{queued-filter, tickets-then}
use Rattle.mx_lock.specs.Engine.{HasNoOther}

or_split : (a b : Bool) → (a || b) ≡ true → (a ≡ true) ⊎ (b ≡ true)
or_split true b h = inl refl
or_split false b h = inr h

first_off : (a b : Bool) → not (a || b) ≡ true → not a ≡ true
first_off true b h = h
first_off false b h = refl

-- 1. What runs after an event ran before it, or was added by it.

abbrev MadeBy : Who → Option What → List Event
MadeBy w o = map (λ e. record { who = w; what = e }) (option_to_list o)

abbrev AddedBy : What → List Ticket
AddedBy e = map (λ a. a.ticket) (option_to_list (addition_of e))

ran : (j : List Event) (w : Who) (e : What) (u : Ticket) → has_ticket u (running (then j w e)) ≡ true → (has_ticket u (running j) ≡ true) ⊎ (has_ticket u (AddedBy e) ≡ true)
ran j w e u h =
    let k = then j w e in
    let f = has-filter u (λ t. not (occurs (ends t) k)) (tickets k) h in
    let on : not (occurs (ends u) j) ≡ true = first_off (occurs (ends u) j) (ends u e) (ap not (sym (occurs-snoc (ends u) j (record { who = w; what = e }))) ∙ f.1) in
    let in_ : (has_ticket u (filter (λ t. not (removes t e)) (tickets j)) || has_ticket u (AddedBy e)) ≡ true =
    sym (list_any-append (same_ticket u) (filter (λ t. not (removes t e)) (tickets j)) (AddedBy e)) ∙ ap (has_ticket u) (sym (tickets-then j w e)) ∙ f.0 in
    ⊎_elim
    (λ (was : has_ticket u (filter (λ t. not (removes t e)) (tickets j)) ≡ true).
    inl (has-stays u (λ t. not (occurs (ends t) j)) (tickets j) (has-filter u (λ t. not (removes t e)) (tickets j) was).0 on))
    (λ (new : has_ticket u (AddedBy e) ≡ true). inr new)
    (or_split (has_ticket u (filter (λ t. not (removes t e)) (tickets j))) (has_ticket u (AddedBy e)) in_)

-- 2. Only an addition's answer has an event that adds.

abbrev IsQuiet : Option What → Type 0
IsQuiet None = Unit {0}
IsQuiet (Some e) = addition_of e ≡ None

pausing_quiet : (a b c : Bool) (e : What) → addition_of e ≡ None → IsQuiet (cond a (only reply.NotRunning) (cond b (only reply.NoChange) (cond c (reply.Changed, Some e) (only reply.HistoryFull)))).1
pausing_quiet true b c e q = tt
pausing_quiet false true c e q = tt
pausing_quiet false false true e q = q
pausing_quiet false false false e q = tt

read_quiet : (j : List Event) (ms : List Message) → IsQuiet (read_answer j ms).1
read_quiet j [] = tt
read_quiet j (m ∷ ms) = refl

either_quiet : (b : Bool) (r s : Reply) (e : What) → addition_of e ≡ None → IsQuiet (cond b (r, Some e) (only s)).1
either_quiet true r s e q = q
either_quiet false r s e q = tt

abbrev pub adds : Call → Bool
adds (call.Add _) = true
adds _ = false

quiet : (opening : Opening) (j : List Event) (c : Call) → adds c ≡ false → IsQuiet (answer opening j c).1
quiet opening j (call.Add h) not_add = absurd (false≢true (sym not_add))
quiet opening j (call.Remove h) _ =
    elim (ticket_of h j) as (λ o. IsQuiet (elim o as (λ _. Answer) [ None ↦ only reply.RemoveNotAdded | Some t ↦ (reply.Removed, Some (what.Removed h t)) ]).1) [ None ↦ tt | Some t ↦ refl ]
quiet opening j (call.Pause h) _ =
    elim (ticket_of h j) as (λ o. IsQuiet (elim o as (λ _. Answer) [ None ↦ only reply.NotAdded | Some t ↦ pausing_answer opening j t (has_ticket t (paused j)) (what.Paused t) ]).1)
    [ None ↦ tt | Some t ↦ pausing_quiet (not (has_ticket t (running j))) (has_ticket t (paused j)) (has_room opening.history j 1) (what.Paused t) refl ]
quiet opening j (call.Unpause h) _ =
    elim (ticket_of h j) as (λ o. IsQuiet (elim o as (λ _. Answer) [ None ↦ only reply.NotAdded | Some t ↦ pausing_answer opening j t (not (has_ticket t (paused j))) (what.Resumed t) ]).1)
    [ None ↦ tt | Some t ↦ pausing_quiet (not (has_ticket t (running j))) (not (has_ticket t (paused j))) (has_room opening.history j 1) (what.Resumed t) refl ]
quiet opening j call.InfoRead _ = read_quiet j (waiting j)
quiet opening j call.Wakeup _ = either_quiet (has_room opening.history j 1) reply.Ok reply.Failure what.Wake refl
quiet opening j call.Poll _ = tt
quiet opening j call.Handles _ = tt
quiet opening j call.Running _ = tt
quiet opening j (call.State h) _ = tt
quiet opening j (call.Finish t code n) _ = either_quiet (has_ticket t (running j)) reply.Recorded reply.Stale (what.Done t code n) refl
quiet opening j (call.Look t) _ = tt

left_by : (opening : Opening) (w : Who) (c : Call) (j : List Event) (r : Reply) (k : List Event) → Answers opening w c j r k → (k ≡ j) ⊎ (k ≡ j ++ MadeBy w (answer opening j c).1)
left_by opening w c j reply.OutOfMemory k a = inl a.1
left_by opening w c j r k a = inr a.1

ran_quiet : (w : Who) (o : Option What) (j k : List Event) (u : Ticket) → IsQuiet o → k ≡ j ++ MadeBy w o → has_ticket u (running k) ≡ true → has_ticket u (running j) ≡ true
ran_quiet w None j k u q e h = ap (λ l. has_ticket u (running l)) (sym (e ∙ append-nil j)) ∙ h
ran_quiet w (Some x) j k u q e h =
    ⊎_elim (λ (was : has_ticket u (running j) ≡ true). was)
    (λ (new : has_ticket u (AddedBy x) ≡ true). absurd (false≢true (ap (λ o. has_ticket u (map (λ (a : Addition). a.ticket) (option_to_list o))) (sym q) ∙ new)))
    (ran j w x u (ap (λ l. has_ticket u (running l)) (sym e) ∙ h))

-- 3. What is claimed.

-- what is claimed after j and the queue q was claimed before k and r, if it ran, and wasn't queued
claimed_by : {Q : Type 0} (j k : List Event) (q r : List (Ticket × Q)) → ((t : Ticket) → has_ticket t (running k) ≡ true → has_ticket t (queued r) ≡ false → has_ticket t (running j) ≡ true)
    → ((t : Ticket) → has_ticket t (running k) ≡ true → has_ticket t (queued q) ≡ true → has_ticket t (queued r) ≡ true) → HasNoOther (claimed j q) (claimed k r)
claimed_by j k q r runs stays t h =
    let f = has-filter t (λ u. not (has_ticket u (queued r))) (running k) h in
    let off : has_ticket t (queued r) ≡ false = not-true _ f.1 in
    let was : has_ticket t (queued q) ≡ false =
    ⊎_elim (λ (in_ : has_ticket t (queued q) ≡ true). absurd (false≢true (sym off ∙ stays t f.0 in_))) (λ (out : has_ticket t (queued q) ≡ false). out) (cases_Bool (has_ticket t (queued q))) in
    has-stays t (λ u. not (has_ticket u (queued q))) (running j) (runs t f.0 off) (ap not was)

-- a call that leaves in the queue what still runs
pub claims_kept : {Q : Type 0} (opening : Opening) (w : Who) (c : Call) (j : List Event) (r : Reply) (k : List Event) (before after : List (Ticket × Q)) → Answers opening w c j r k → adds c ≡ false
    → ((t : Ticket) → has_ticket t (running k) ≡ true → has_ticket t (queued before) ≡ true → has_ticket t (queued after) ≡ true) → HasNoOther (claimed j before) (claimed k after)
claims_kept opening w c j r k before after a other stays =
    claimed_by j k before after
    (λ t h out. ⊎_elim (λ (same : k ≡ j). ap (λ l. has_ticket t (running l)) (sym same) ∙ h)
    (λ (e : k ≡ j ++ MadeBy w (answer opening j c).1). ran_quiet w (answer opening j c).1 j k t (quiet opening j c other) e h)
    (left_by opening w c j r k a))
    stays

pub claims_same : {Q : Type 0} (opening : Opening) (w : Who) (c : Call) (j : List Event) (r : Reply) (k : List Event) (before after : List (Ticket × Q)) → Answers opening w c j r k → adds c ≡ false
    → after ≡ before → HasNoOther (claimed j before) (claimed k after)
claims_same {Q} opening w c j r k before after a other same =
    claims_kept opening w c j r k before after a other (λ t h in_. ap (λ (l : List (Ticket × Q)). has_ticket t (queued l)) same ∙ in_)

pub claims_running : {Q : Type 0} (opening : Opening) (w : Who) (c : Call) (j : List Event) (r : Reply) (k : List Event) (before after : List (Ticket × Q)) → Answers opening w c j r k → adds c ≡ false
    → after ≡ still_running k before → HasNoOther (claimed j before) (claimed k after)
claims_running {Q} opening w c j r k before after a other is =
    claims_kept opening w c j r k before after a other
    (λ t h in_. ap (λ (l : List (Ticket × Q)). has_ticket t (queued l)) is ∙ ap (has_ticket t) (queued-filter (λ u. has_ticket u (running k)) before) ∙ has-stays t (λ u. has_ticket u (running k)) (queued before) in_ h)

-- 4. An addition.

abbrev pub is_added : Reply → Bool
is_added (reply.Added _) = true
is_added _ = false

abbrev pub adding : HandleId → Ticket → Option Ticket → Bool → Bool → Bool → Answer
adding h n o full spent room =
    elim o as (λ _. Answer) [
      | Some _ ↦ only reply.AddedAlready
      | None ↦ cond full (only reply.TableFull) (cond spent (only reply.TicketsSpent) (cond room (reply.Added n, Some (what.Added h n)) (only reply.HistoryFull)))
    ]

no_event : (h : HandleId) (n : Ticket) (o : Option Ticket) (full spent room : Bool) → is_added (adding h n o full spent room).0 ≡ false → IsQuiet (adding h n o full spent room).1
no_event h n (Some t) full spent room e = tt
no_event h n None true spent room e = tt
no_event h n None false true room e = tt
no_event h n None false false true e = absurd (false≢true (sym e))
no_event h n None false false false e = tt

its_event : (h : HandleId) (n : Ticket) (o : Option Ticket) (full spent room : Bool) (t : Ticket) → reply.Added t ≡ (adding h n o full spent room).0 → (adding h n o full spent room).1 ≡ Some (what.Added h t)
its_event h n (Some u) full spent room t e = absurd (false≢true (sym (ap is_added e)))
its_event h n None true spent room t e = absurd (false≢true (sym (ap is_added e)))
its_event h n None false true room t e = absurd (false≢true (sym (ap is_added e)))
its_event h n None false false true t e = let same : n ≡ t = cc in ap (λ x. Some (what.Added h x)) same
its_event h n None false false false t e = absurd (false≢true (sym (ap is_added e)))

not_added : {Q : Type 0} (opening : Opening) (w : Who) (h : HandleId) (j : List Event) (r : Reply) (k : List Event) (before : List (Ticket × Q)) → is_added r ≡ false → Answers opening w (call.Add h) j r k → HasNoOther (claimed j before) (claimed k before)
not_added {Q} opening w h j reply.OutOfMemory k before not_it a = subst (λ l. HasNoOther (claimed j before) (claimed l before)) (sym a.1) (λ t has. has)
not_added {Q} opening w h j r k before not_it a =
    claimed_by j k before before
    (λ t runs out. ran_quiet w (answer opening j (call.Add h)).1 j k t (no_event h (next_ticket opening j) (ticket_of h j) _ (are_spent opening j) _ (ap is_added (sym a.0) ∙ not_it)) a.1 runs)
    (λ t runs in_. in_)

pub claims_added : {Q : Type 0} (opening : Opening) (w : Who) (h : HandleId) (j : List Event) (r : AddReply Q) (k : List Event) (before : List (Ticket × Q)) (work : Q) → Answers opening w (call.Add h) j (reply_of_add r) k
    → HasNoOther (claimed j before) (claimed k (queue_added r before work))
claims_added {Q} opening w h j (add.Added t) k before work a =
    let is : (answer opening j (call.Add h)).1 ≡ Some (what.Added h t) = its_event h (next_ticket opening j) (ticket_of h j) _ (are_spent opening j) _ t a.0 in
    let grown : k ≡ then j w (what.Added h t) = a.1 ∙ ap (λ o. j ++ MadeBy w o) is in
    let all : queued (before ++ (t, work) ∷ []) ≡ queued before ++ t ∷ [] = map-append (λ (x : Ticket × Q). x.0) before ((t, work) ∷ []) in
    let had : (u : Ticket) → has_ticket u (queued (before ++ (t, work) ∷ [])) ≡ (has_ticket u (queued before) || has_ticket u (t ∷ [])) = λ u. ap (has_ticket u) all ∙ list_any-append (same_ticket u) (queued before) (t ∷ []) in
    claimed_by j k before (before ++ (t, work) ∷ [])
    (λ u runs out. ⊎_elim (λ (was : has_ticket u (running j) ≡ true). was)
    (λ (new : has_ticket u (t ∷ []) ≡ true). absurd (false≢true (sym out ∙ had u ∙ or_right (has_ticket u (queued before)) _ new)))
    (ran j w (what.Added h t) u (ap (λ l. has_ticket u (running l)) (sym grown) ∙ runs)))
    (λ u runs in_. had u ∙ or_left _ _ in_)
claims_added opening w h j (add.AddedAlready x) k before work a = not_added opening w h j reply.AddedAlready k before refl a
claims_added opening w h j (add.TableFull x) k before work a = not_added opening w h j reply.TableFull k before refl a
claims_added opening w h j (add.TicketsSpent x) k before work a = not_added opening w h j reply.TicketsSpent k before refl a
claims_added opening w h j (add.HistoryFull x) k before work a = not_added opening w h j reply.HistoryFull k before refl a
claims_added opening w h j (add.OutOfMemory x) k before work a = not_added opening w h j reply.OutOfMemory k before refl a

-- 5. A claim.

-- what was newly claimed is the ticket whose work left the queue
pub claims_first : {Q : Type 0} (j k : List Event) (t : Ticket) (work : Q) (before after : List (Ticket × Q)) → k ≡ j → before ≡ (t, work) ∷ after → HasNoOther (t ∷ claimed j before) (claimed k after)
claims_first {Q} j k t work before after same is u h =
    let f = has-filter u (λ v. not (has_ticket v (queued after))) (running k) h in
    let off : has_ticket u (queued after) ≡ false = not-true _ f.1 in
    let runs : has_ticket u (running j) ≡ true = ap (λ l. has_ticket u (running l)) (sym same) ∙ f.0 in
    ⊎_elim (λ (s : same_ticket u t ≡ true). or_left _ _ s)
    (λ (n : same_ticket u t ≡ false).
    let out : has_ticket u (queued before) ≡ false = ap (λ (l : List (Ticket × Q)). has_ticket u (queued l)) is ∙ ap (λ b. b || has_ticket u (queued after)) n ∙ off in
    or_right _ _ (has-stays u (λ v. not (has_ticket v (queued before))) (running j) runs (ap not out)))
    (cases_Bool (same_ticket u t))

-- 6. Work that is given back.

stays_in_place : {Q : Type 0} (t : Ticket) (work : Q) (queue : List (Ticket × Q)) (u : Ticket) → has_ticket u (queued queue) ≡ true → has_ticket u (queued (in_place t work queue)) ≡ true
stays_in_place t work [] u h = absurd (false≢true h)
stays_in_place {Q} t work (x ∷ queue) u h =
    go (nat_lt x.0.0 t.0)
    (⊎_elim (λ (here : same_ticket u x.0 ≡ true). or_left _ _ here) (λ (there : has_ticket u (queued queue) ≡ true). or_right _ _ (stays_in_place t work queue u there))
    (or_split (same_ticket u x.0) (has_ticket u (queued queue)) h))
  where
    go : (b : Bool) → has_ticket u (queued (x ∷ in_place t work queue)) ≡ true → has_ticket u (queued (cond b (x ∷ in_place t work queue) ((t, work) ∷ x ∷ queue))) ≡ true
    go true lower = lower
    go false lower = or_right _ _ h

pub claims_back : {Q : Type 0} (j k : List Event) (r : GiveBackReply Q) (before after : List (Ticket × Q)) (t : Ticket) (work : Q) → k ≡ j → after ≡ queue_given r before t work → HasNoOther (claimed j before) (claimed k after)
claims_back {Q} j k r before after t work same is =
    claimed_by j k before after (λ u runs out. ap (λ l. has_ticket u (running l)) (sym same) ∙ runs)
    (λ u runs in_. ap (λ (l : List (Ticket × Q)). has_ticket u (queued l)) is ∙ kept r u in_)
  where
    kept : (r : GiveBackReply Q) (u : Ticket) → has_ticket u (queued before) ≡ true → has_ticket u (queued (queue_given r before t work)) ≡ true
    kept giving.Back u h = stays_in_place t work before u h
    kept (giving.Stale _) u h = h

pub claimed_runs : {Q : Type 0} (t : Ticket) (j : List Event) (queue : List (Ticket × Q)) → has_ticket t (claimed j queue) ≡ true → has_ticket t (running j) ≡ true
claimed_runs t j queue h = (has-filter t (λ u. not (has_ticket u (queued queue))) (running j) h).0
