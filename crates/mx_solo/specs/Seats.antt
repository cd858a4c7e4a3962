-- The control core as the engine of a worker on the same thread, and the multi handle that they make.
use Rattle.std.specs.Prelude.{◌≡◌, ℕ, ◌-◌, ◌≤◌, Bool, true, false, List, [], ◌∷◌, ◌++◌, Option, Some, None}
use Rattle.logbook.specs.Pages.{Book}
use Rattle.mx_types.specs.declared.code.Code.{Code}
use Rattle.mx_types.specs.declared.names.Ticket.{Ticket}
use Rattle.mx_types.specs.declared.event.Event.{Event}
use Rattle.mx_types.specs.declared.origin.Origin.{Origin}
use Rattle.mx_types.specs.declared.event.Who.{Who}
use Rattle.mx_types.specs.declared.event.Who.TheVariants as maker
use Rattle.mx_types.specs.declared.call.Call.{Call}
use Rattle.mx_types.specs.declared.call.Call.TheVariants as call
use Rattle.mx_types.specs.declared.reply.Reply.{Reply}
use Rattle.mx_types.specs.declared.reply.Reply.TheVariants as reply
use Rattle.mx_request.specs.Request.{RequestValue}
use Rattle.mx_link.specs.declared.answers.Answer.{Answer}
use Rattle.mx_chain.specs.Chains.{ChainState}
use Rattle.mx_chain.specs.Outcomes.{OutcomeValue, size_of}
use Rattle.mx_gate.specs.Said.{Said}
use Rattle.mx_history.specs.Answers.{Answers, look_of}
use Rattle.mx_history.specs.History.{has_ticket}
use Rattle.mx_history.specs.Slots.{slot_of}
use Rattle.mx_journal.specs.Called.{Called}
use Rattle.mx_journal.specs.Core.{Core, claimed, one_out, with_out, still_running, still_waiting}
use Rattle.mx_journal.specs.Replies.{in_place}
use Rattle.mx_journal.specs.declared.replies.AddReply.{AddReply}
use Rattle.mx_journal.specs.declared.replies.AddReply.TheVariants as add
use Rattle.mx_turn.specs.Workers.{Deed, Held, Worker, claims, looks, notes, finishes, gives_back, Finish, recorded, stale, lacking, unseated, Return, returned, ended_before, unreturned}
use Rattle.mx_turn.specs.Turn.{Each, Runs, WorkerTurn}
use Rattle.mx_solo.specs.Owning.{EndingsOwn, HeldOwn, IsOwn, WorkerOwn}

-- which list of ties claims are of: none
abbrev pub no_ties : Book
no_ties = record { number = 0; log_name = 0; cells_name = 0 }

-- the control core of a multi handle on one thread
abbrev pub OneCore : Type 0 → Type 0
OneCore L = Core (ChainState L) OutcomeValue

-- who hands in the ends of transfers
abbrev pub worker : Who
worker = maker.Worker 0

-- who makes the calls
abbrev pub caller : Who
caller = maker.Seat 0

-- what became of an end, and the reply to its call
abbrev pub finish_by : Bool → Finish
finish_by true = recorded
finish_by false = stale

abbrev pub reply_of_end : Bool → Reply
reply_of_end true = reply.Recorded
reply_of_end false = reply.Stale

-- what became of a transfer that was given back
abbrev pub return_by : Bool → Return
return_by true = returned
return_by false = ended_before

-- the ending that comes last after an end, by the reply to its call
abbrev pub ending_by : Reply → Ticket → OutcomeValue → List (Ticket × OutcomeValue)
ending_by reply.Recorded t o = (t, o) ∷ []
ending_by _ t o = []

-- the core answered the end of a ticket so, by its journal; a recorded end waits after those that wait, and a claim has come back
pub record Ends {L : Type 0} (t : Ticket) (o : OutcomeValue) (r : Reply) (c d : OneCore L) : Type 0 where
  pub answers : Answers c.opening worker (call.Finish t o.code (size_of o)) c.journal r d.journal
  pub opening : d.opening ≡ c.opening
  pub origins : d.origins ≡ c.origins
  pub queue : d.queue ≡ still_running d.journal c.queue
  pub endings : d.endings ≡ still_waiting d.journal c.endings ++ ending_by r t o
  pub out : d.out ≡ c.out - 1
  -- endings stay those of their tickets' requests
  pub own : EndingsOwn c.origins c.endings → IsOwn c.origins t o.request → EndingsOwn d.origins d.endings

-- the first that was queued was claimed, at the slot of its addition, and nothing else has changed
pub record Claims {L : Type 0} (h : Held L) (c d : OneCore L) : Type 0 where
  pub first : c.queue ≡ (h.ticket, h.transfer) ∷ d.queue
  pub slot : slot_of h.ticket c.journal ≡ Some h.slot
  -- its request is the one that was added under its ticket
  pub own : HeldOwn c.origins h
  pub after : d ≡ record c { queue = d.queue; out = one_out c.out }

-- a claimed transfer went back to its place in the queue, and a claim has come back; nothing else has changed, where it is of the request that
-- was added under its ticket
pub record Returns {L : Type 0} (h : Held L) (c d : OneCore L) : Type 0 where
  pub claimed_now : has_ticket h.ticket (claimed c.journal c.queue) ≡ true
  pub opening : d.opening ≡ c.opening
  pub journal : d.journal ≡ c.journal
  pub queue : d.queue ≡ in_place h.ticket h.transfer c.queue
  pub endings : d.endings ≡ c.endings
  pub out : d.out ≡ c.out - 1
  pub origins : IsOwn c.origins h.ticket h.transfer.request → d.origins ≡ c.origins

-- it did so; or its addition had ended before or was removed, and nothing but the count of claims has changed
abbrev pub GivesBack : {L : Type 0} → Held L → Bool → OneCore L → OneCore L → Type 0
GivesBack h true c d = Returns h c d
GivesBack h false c d = (has_ticket h.ticket (claimed c.journal c.queue) ≡ false) × (d ≡ with_out (c.out - 1) c)

-- What a deed is at the core, before and after: a call of the one-thread multi handle with its reply, or one that makes no event.
abbrev pub Does : {L : Type 0} → Deed L → OneCore L → OneCore L → Type 0
Does (claims None) c d = (c.queue ≡ []) × (d ≡ c)
Does (claims (Some h)) c d = Claims h c d
Does (looks t seen) c d = (seen ≡ Some (look_of t c.journal)) × (d ≡ c)
Does (notes t slot count) c d = d ≡ c
Does (finishes t o recorded) c d = Ends t o reply.Recorded c d
Does (finishes t o stale) c d = Ends t o reply.Stale c d
Does (finishes t o lacking) c d = ⊥
Does (finishes t o unseated) c d = ⊥
Does (gives_back h returned) c d = GivesBack h true c d
Does (gives_back h ended_before) c d = GivesBack h false c d
Does (gives_back h unreturned) c d = ⊥

-- the same of a core that may be away: then nothing is done
abbrev pub DoesAt : {L : Type 0} → Deed L → Option (OneCore L) → Option (OneCore L) → Type 0
DoesAt deed (Some c) (Some d) = Does deed c d
DoesAt deed None None = Unit {0}
DoesAt deed _ _ = ⊥

-- the core as it was when the worker began its turns, as it is, and what the worker did since
pub record SeatView (L : Type 0) : Type 0 where
  pub start : Option (OneCore L)
  pub core : Option (OneCore L)
  pub did : List (Deed L)

-- a multi handle on one thread: its core, and its worker
pub record SoloView (L : Type 0) : Type 0 where
  pub core : OneCore L
  pub worker : Worker L

-- a worker without what it did and what its gate said
abbrev pub unnoted : {L : Type 0} → Worker L → Worker L
unnoted w = record w { did = []; said = [] }

abbrev pub code_of : OutcomeValue → Code
code_of o = o.code

-- a core with nothing added, and with room for so many events
abbrev pub new_core : {L : Type 0} → ℕ → OneCore L
new_core history = record { opening = record { history = history; first = 0; from = 0 }; journal = []; origins = []; queue = []; endings = []; out = 0 }

-- the core of a seat: between two calls it is there
abbrev pub there : {L : Type 0} → Option (OneCore L) → OneCore L
there (Some c) = c
there None = new_core 0

-- The call is the caller's at the core of the one-thread multi handle, with its reply, over a log that refuses nothing.
abbrev pub CalledAt : {L : Type 0} → Call → OneCore L → OneCore L → Reply → Type 0
CalledAt k c d r = (before : List Event) × (after : List Event) × Called (λ (l : List Event). l) (λ _. []) (λ _. ⊥) caller k c d before after r

-- an addition that was taken is of this request, by these origins
abbrev pub IsAdded : {Q : Type 0} → AddReply Q → List Origin → RequestValue → Type 0
IsAdded (add.Added t) origins request = IsOwn origins t request
IsAdded _ origins request = Unit {0}

-- a worker took a turn, and then further ones, or none
abbrev pub TurnsOn : {L : Type 0} → (L → List Answer) → (L → ℕ) → Worker L → Worker L → Type 0
TurnsOn {L} history token_of w v = (mid : Worker L) × WorkerTurn history token_of w mid × Runs history token_of mid v

-- The worker took turns from its gate's `was` to `is`, and what it did is what became of the core: each deed is a step of it.
pub record Performs {L : Type 0} (history : L → List Answer) (token_of : L → ℕ) (s t : SoloView L) (was is : List Said) : Type 0 where
  pub did : List (Deed L)
  pub turns : TurnsOn history token_of (record s.worker { said = was }) (record t.worker { did = did; said = is })
  pub done : Each Does did s.core t.core

-- a wait of so many milliseconds from this moment on, or one without an end, lasts no longer than until the deadline, if there is one
abbrev pub WaitsNoLonger : Option ℕ → ℕ → Option ℕ → Type 0
WaitsNoLonger wait now None = Unit {0}
WaitsNoLonger None now (Some deadline) = ⊥
WaitsNoLonger (Some ms) now (Some deadline) = ms ≤ deadline - now

-- what is in flight and what waits to be read is of the requests that were added under their tickets
abbrev pub IsOwnAll : {L : Type 0} → Option (OneCore L) → Worker L → Type 0
IsOwnAll (Some c) w = EndingsOwn c.origins c.endings × WorkerOwn c.origins w
IsOwnAll None w = ⊥
