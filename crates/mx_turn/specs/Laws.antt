-- What follows of every run of a worker.
use Rattle.std.specs.Prelude.{◌≡◌, ℕ, ◌+◌, ◌≤◌, All, Bool, true, false, List, count_by, filter_map, Option, Some, None}
use Rattle.mx_types.specs.Limits.{most_transfers}
use Rattle.mx_types.specs.declared.names.Ticket.{Ticket}
use Rattle.mx_types.specs.declared.reply.Look.TheVariants as look
use Rattle.mx_link.specs.declared.answers.Answer.{Answer}
use Rattle.mx_gate.specs.Said.{Said}
use Rattle.mx_turn.specs.Workers.{Deed, claims, looks, finishes, gives_back, recorded, stale, unseated, returned, ended_before, unreturned, Worker, in_hand, starts, IsOver}
use Rattle.mx_turn.specs.Turn.{Runs, WorkerTurn}

-- the ticket that was claimed by this deed
abbrev pub claimed_by : {L : Type 0} → Deed L → Option Ticket
claimed_by (claims (Some h)) = Some h.ticket
claimed_by _ = None

-- whose end was recorded by it
abbrev pub recorded_by : {L : Type 0} → Deed L → Option Ticket
recorded_by (finishes t o recorded) = Some t
recorded_by _ = None

-- whose end was stale
abbrev pub stale_by : {L : Type 0} → Deed L → Option Ticket
stale_by (finishes t o stale) = Some t
stale_by _ = None

-- which went back to the queue
abbrev pub given_back_by : {L : Type 0} → Deed L → Option Ticket
given_back_by (gives_back h returned) = Some h.ticket
given_back_by _ = None

-- which was given back too late, as it had ended before, or was removed
abbrev pub gone_by : {L : Type 0} → Deed L → Option Ticket
gone_by (gives_back h ended_before) = Some h.ticket
gone_by _ = None

-- which was dropped, as the seat was another handle's
abbrev pub unseated_by : {L : Type 0} → Deed L → Option Ticket
unseated_by (finishes t o unseated) = Some t
unseated_by (gives_back h unreturned) = Some h.ticket
unseated_by _ = None

-- how many of the tickets that this picks out pass the test
abbrev pub many : {L : Type 0} → (Deed L → Option Ticket) → (Ticket → Bool) → List (Deed L) → ℕ
many by p did = count_by p (filter_map by did)

-- Each claim came to one end: it was recorded, or stale, or given back, or gone, or its seat was another's. So it is by every test of
-- tickets: by one that only one ticket passes, each claim of that ticket has one end.
abbrev pub AreAccounted : {L : Type 0} → List (Deed L) → Type 0
AreAccounted did =
    (p : Ticket → Bool) → many claimed_by p did
    ≡ many recorded_by p did + many stale_by p did + many given_back_by p did + many gone_by p did + many unseated_by p did

-- so it is in every run that is over, whatever the gate had said before
abbrev pub EachClaimIsAccounted : {L : Type 0} → (L → List Answer) → (L → ℕ) → Type 0
EachClaimIsAccounted {L} history token_of =
    (limit : ℕ) (said : List Said) (v : Worker L) → Runs history token_of (record (starts limit) { said = said }) v → IsOver v → AreAccounted v.did

-- in every run at most 64 transfers and unrecorded ends are in flight
abbrev pub AtMost64 : {L : Type 0} → (L → List Answer) → (L → ℕ) → Type 0
AtMost64 {L} history token_of =
    (limit : ℕ) (said : List Said) (v : Worker L) → Runs history token_of (record (starts limit) { said = said }) v → in_hand v ≤ most_transfers

-- the ticket that was looked at by this deed
abbrev pub looked_at_by : {L : Type 0} → Deed L → Option Ticket
looked_at_by (looks t seen) = Some t
looked_at_by _ = None

-- In each turn it looks once at each transfer that it held, and at the one that it has claimed, and at no other: by every test of tickets
-- it has looked as often as it held and claimed some.
abbrev pub EachIsLookedAt : {L : Type 0} → (L → List Answer) → (L → ℕ) → Type 0
EachIsLookedAt {L} history token_of =
    (w v : Worker L) → WorkerTurn history token_of w v → (p : Ticket → Bool)
    → many looked_at_by p v.did + many claimed_by p w.did ≡ many looked_at_by p w.did + count_by (λ h. p h.ticket) w.held + many claimed_by p v.did

-- once it is stopping it goes on stopping, and claims nothing
abbrev pub ClaimsNoneOnceStopping : {L : Type 0} → (L → List Answer) → (L → ℕ) → Type 0
ClaimsNoneOnceStopping {L} history token_of =
    (w v : Worker L) → WorkerTurn history token_of w v → w.is_stopping ≡ true
    → (v.is_stopping ≡ true) × ((p : Ticket → Bool) → many claimed_by p v.did ≡ many claimed_by p w.did)

-- when it is told to stop it gives back what has not started: all that it holds on has
abbrev pub HoldsWhatHasStarted : {L : Type 0} → (L → List Answer) → (L → ℕ) → Type 0
HoldsWhatHasStarted {L} history token_of =
    (w v : Worker L) → WorkerTurn history token_of w v → w.is_stopping ≡ false → v.is_stopping ≡ true
    → All (λ h. h.transfer.now.is_started ≡ true) v.held
