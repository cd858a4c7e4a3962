-- What was done at which seat.
use Rattle.std.proofs.Common.{◌≡◌, ◌∙◌, ap, sym, subst, Bool, true, false, []}
use Rattle.std.specs.Prelude.{◌⊎◌, IfOk, IfSome, MatchOption, Option, None, Some, Result, Ok, Err}
use Rattle.std.proofs.lemmas.List.Elements.{All-nil}
use Rattle.mx_types.specs.declared.names.HandleId.{HandleId}
use Rattle.mx_types.specs.declared.names.Ticket.{Ticket}
use Rattle.mx_chain.specs.Outcomes.{OutcomeValue}
use Rattle.mx_multi.specs.Seats.{SeatView}
use Rattle.mx_multi.proofs.Runs.{later_none}
use Rattle.mx_message.specs.Message.{IsWait, Waited}
use Rattle.mx_desk.specs.Calls.{AtLast, AtSeat, FreesAt, IsFreed, ReadsEnd, ReadsMessage, Wait}
use Rattle.mx_desk.specs.Ties.{SeatsView}
use Rattle.mx_desk.specs.declared.seats.Told.{Told}

abbrev pub View : Type 0 → Type 0
View Q = SeatView Q OutcomeValue

pub waited_none : {Q : Type 0} (s : View Q) → Waited s s
waited_none s = record { more = []; later = later_none s; waits = All-nil IsWait }

-- both seats are there, and this was done at that one
there : {Q : Type 0} (did : View Q → View Q → Type 0) (none : Type 0) (a b : Option (View Q)) (s t : View Q) → a ≡ Some s → b ≡ Some t → did s t
    → MatchOption a none (λ x. MatchOption b ⊥ (λ y. did x y))
there did none a b s t p q is =
    subst (λ o. MatchOption o none (λ x. MatchOption b ⊥ (λ y. did x y))) (sym p) (subst (λ o. MatchOption o ⊥ (λ y. did s y)) (sym q) is)

beside_waits : {Q : Type 0} (a b : Option (View Q)) → b ≡ a → MatchOption a (b ≡ None) (λ s. MatchOption b ⊥ (λ t. Waited s t))
beside_waits None b e = e
beside_waits (Some s) b e = subst (λ o. MatchOption o ⊥ (λ t. Waited s t)) (sym e) (waited_none s)

abbrev pub seats : {Q : Type 0} → View Q → Option (View Q) → SeatsView Q
seats first beside = record { first = first; beside = beside }

-- the seats read a message, or waited
abbrev pub Reads : {D Q E : Type 0} → SeatsView Q → SeatsView Q → Result (Option (Told D)) E → Type 0
Reads old new r = IfOk r (λ o. MatchOption o (Wait old new) (λ t. AtSeat (ReadsMessage t.message.handle t.message.ticket t.message.outcome) t.is_beside old new))

pub at_first : {D Q E : Type 0} (old new : SeatsView Q) (r : Result (Option (Told D)) E) → new.beside ≡ old.beside → IfOk r (λ o. IfSome o (λ t. t.is_beside ≡ false))
    → IfOk r (λ o. MatchOption o (Waited old.first new.first) (λ t. ReadsMessage t.message.handle t.message.ticket t.message.outcome old.first new.first)) → Reads old new r
at_first old new (Ok None) same place h = record { first = h; beside = beside_waits old.beside new.beside same }
at_first old new (Ok (Some t)) same place h = subst (λ b. AtSeat (ReadsMessage t.message.handle t.message.ticket t.message.outcome) b old new) (sym place) (h, same)
at_first old new (Err e) same place h = tt

pub at_other : {D Q E : Type 0} (old new : SeatsView Q) (s t : View Q) (r : Result (Option (Told D)) E) → old.beside ≡ Some s → new.beside ≡ Some t → Waited old.first new.first
    → IfOk r (λ o. IfSome o (λ x. x.is_beside ≡ true))
    → IfOk r (λ o. MatchOption o (Waited s t) (λ x. ReadsMessage x.message.handle x.message.ticket x.message.outcome s t)) → Reads old new r
at_other old new s t (Ok None) a b waited place h = record { first = waited; beside = there Waited (new.beside ≡ None) old.beside new.beside s t a b h }
at_other old new s t (Ok (Some x)) a b waited place h =
    let did = ReadsMessage x.message.handle x.message.ticket x.message.outcome in
    subst (λ c. AtSeat did c old new) (sym place) (waited, there did ⊥ old.beside new.beside s t a b h)
at_other old new s t (Err e) a b waited place h = tt

-- at the seat that came last
pub last_beside : {Q : Type 0} (did : View Q → View Q → Type 0) (old new : SeatsView Q) (s t : View Q) → old.beside ≡ Some s → new.beside ≡ Some t → new.first ≡ old.first → did s t → AtLast did old new
last_beside did old new s t a b same is =
    subst (λ o. MatchOption o ((new.beside ≡ None) × did old.first new.first) (λ x. (new.first ≡ old.first) × MatchOption new.beside ⊥ (λ y. did x y))) (sym a)
    (same, subst (λ o. MatchOption o ⊥ (λ y. did s y)) (sym b) is)

pub last_first : {Q : Type 0} (did : View Q → View Q → Type 0) (old new : SeatsView Q) → old.beside ≡ None → new.beside ≡ None → did old.first new.first → AtLast did old new
last_first did old new a b is =
    subst (λ o. MatchOption o ((new.beside ≡ None) × did old.first new.first) (λ x. (new.first ≡ old.first) × MatchOption new.beside ⊥ (λ y. did x y))) (sym a) (b, is)

-- a message was read, and then its handle was removed
read_then : {Q : Type 0} (P : Type 0) (h : HandleId) (ticket : Ticket) (o : OutcomeValue) (a b c : Option (View Q)) → MatchOption a ⊥ (λ s. MatchOption b ⊥ (λ t. ReadsMessage h ticket o s t))
    → MatchOption b (Unit {0}) (λ s. P × MatchOption c ⊥ (λ t. IsFreed h s t)) → P × MatchOption a ⊥ (λ s. MatchOption c ⊥ (λ t. ReadsEnd h ticket o s t))
read_then P h ticket o None b c reads frees = absurd reads
read_then P h ticket o (Some s) None c reads frees = absurd reads
read_then P h ticket o (Some s) (Some m) None reads frees = absurd frees.1
read_then P h ticket o (Some s) (Some m) (Some t) reads frees = (frees.0, record { at = m; message = reads; freed = frees.1 })

ends_at : {Q : Type 0} (h : HandleId) (ticket : Ticket) (o : OutcomeValue) (beside : Bool) (old at new : SeatsView Q) → AtSeat (ReadsMessage h ticket o) beside old at → FreesAt h beside at new
    → AtSeat (ReadsEnd h ticket o) beside old new
ends_at h ticket o false old at new reads frees = (record { at = at.first; message = reads.0; freed = frees.0 }, frees.1 ∙ reads.1)
ends_at h ticket o true old at new reads frees =
    let both = read_then (new.first ≡ at.first) h ticket o old.beside at.beside new.beside reads.1 frees in
    (subst (Waited old.first) (sym both.0) reads.0, both.1)

pub ended_at : {Q : Type 0} (h k : HandleId) (t u : Ticket) (o p : OutcomeValue) (beside : Bool) (old at new : SeatsView Q) → k ≡ h → u ≡ t → p ≡ o
    → AtSeat (ReadsMessage h t o) beside old at → FreesAt k beside at new → AtSeat (ReadsEnd k u p) beside old new
ended_at h k t u o p beside old at new same ticket outcome reads frees =
    ends_at k u p beside old at new
    (subst (λ x. AtSeat (ReadsMessage x u p) beside old at) (sym same)
    (subst (λ x. AtSeat (ReadsMessage h x p) beside old at) (sym ticket) (subst (λ x. AtSeat (ReadsMessage h t x) beside old at) (sym outcome) reads))) frees
