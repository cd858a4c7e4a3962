-- What a worker does in one turn, as one list of cases. All that is promised of a run of turns follows from this.
use Rattle.std.specs.Prelude.{◌≡◌, ◌≢◌, ◌⊎◌, ℕ, ◌+◌, ◌-◌, ◌<◌, ◌≤◌, ◌↔◌, IsTrue, min, fold, Bool, true, false, not, ◌&&◌, ◌||◌, List, [], ◌∷◌, ◌++◌, All, Option, Some, None, Ok, Err, if◌then◌else◌}
use Rattle.mx_types.specs.Code.{is_link_code}
use Rattle.mx_types.specs.Limits.{most_transfers}
use Rattle.mx_types.specs.declared.code.Code.{Code}
use Rattle.mx_types.specs.declared.names.Ticket.{Ticket}
use Rattle.mx_types.specs.declared.reply.Look.{Look}
use Rattle.mx_types.specs.declared.reply.Look.TheVariants as look
use Rattle.mx_request.specs.Endpoint.{HostAndPort}
use Rattle.mx_link.specs.declared.answers.Answer.{Answer}
use Rattle.mx_turn.specs.Idle.{Idle, kept, HasNone, TakesNewest}
use Rattle.mx_exchange.specs.Exchanges.{WantsLink, IsDue, attached}
use Rattle.mx_chain.specs.Chains.{ChainState, received_of, home_of}
use Rattle.mx_chain.specs.Outcomes.{OutcomeValue}
use Rattle.mx_chain.specs.Steps.{How, waits, asks, ends, Steps}
use Rattle.mx_transfer_core.specs.Deliveries.{MakesRoom}
use Rattle.mx_transfer_core.specs.Cores.{Delivers}
use Rattle.mx_gate.specs.Said.{Said, told, asked, opened, lacked, waited}
use Rattle.mx_turn.specs.Workers.{Held, SetAside, Finish, lacking, Return, claims, looks, notes, finishes, gives_back, Worker, in_hand, does, hears, holds}

-- one after another, each from where the one before it left the worker
abbrev pub Each : {X W : Type 0} → (X → W → W → Type 0) → List X → W → W → Type 0
Each Step [] w v = v ≡ w
Each {X} {W} Step (x ∷ xs) w v = (mid : W) × Step x w mid × Each Step xs mid v

-- rule turn-claims: At each turn a worker claims one transfer at most, and holds what it claimed.
-- rule turn-in-flight
pub data Claims {L : Type 0} (w v : Worker L) : Type 0 where
  -- a worker that is stopping, or has as many in flight as it may have, claims none
  keeps : (w.is_stopping ≡ true) ⊎ (most_transfers ≤ in_hand w) → v ≡ w → Claims w v
  -- any other asks for one, and there may be none
  finds_none : w.is_stopping ≡ false → in_hand w < most_transfers → v ≡ does w (claims None) → Claims w v
  -- or it is given one that has not ended, and holds it as it was given; and unless it then has as many in flight as it may have, it can go
  -- on at once, as there may be more
  claims_one : (h : Held L) (has_room : Bool) → w.is_stopping ≡ false → in_hand w < most_transfers → h.transfer.code ≡ None
      → IsTrue has_room ↔ (in_hand w + 1 < most_transfers)
      → v ≡ holds (does (record w { can_go_on = w.can_go_on || has_room }) (claims (Some h))) h → Claims w v

-- An end is handed in. Where memory was refused, it is set aside after the others; else it is no longer in flight.
abbrev pub handed_in : {L : Type 0} → Ticket → OutcomeValue → Finish → Worker L → Worker L
handed_in ticket o lacking w =
    record (does w (finishes ticket o lacking)) { set_aside = w.set_aside ++ record { ticket = ticket; outcome = o } ∷ [] }
handed_in ticket o f w = does w (finishes ticket o f)

-- rule turn-set-aside: An end that was refused memory is tried again at each turn, in order.
--
-- an end that was set aside is tried again
abbrev pub Retries : {L : Type 0} → SetAside → Worker L → Worker L → Type 0
Retries s w v = (f : Finish) × (v ≡ handed_in s.ticket s.outcome f w)

-- the transfer, once its hop was handed a link
abbrev pub served_by : {L : Type 0} → ChainState L → L → Bool → ChainState L
served_by t link reused = record t { now = attached t.now link reused; linked = true; link = None }

-- the transfer, once its hop has the code of why there is no link
abbrev pub unserved : {L : Type 0} → ChainState L → Code → ChainState L
unserved t c = record t { now = record t.now { failure = Some c } }

-- no idle link will do: a fresh one is wanted, or none is of the endpoint
abbrev pub MustOpen : {L : Type 0} → ChainState L → Idle L → Type 0
MustOpen t idle = (t.now.needs_fresh ≡ true) ⊎ HasNone t.now.request.endpoint idle.links

-- all idle links were dropped
abbrev pub cleared : {L : Type 0} → Idle L → Idle L
cleared idle = record idle { links = [] }

-- the idle links, once the gate has said whether too many files are open: then all are dropped
abbrev pub relieved : {L : Type 0} → Bool → Idle L → Idle L
relieved true idle = cleared idle
relieved false idle = idle

-- rule turn-files: Where its gate says that too many files are open, a worker drops its idle links: at each turn, and where a link can't be
-- opened. The gate opens that link once more, if it says that it can; else the transfer is given none in this turn.
--
-- it asks its gate whether too many files are open, for a link of its own or of another worker
abbrev pub relieves : {L : Type 0} → Bool → Worker L → Worker L
relieves lacks w = record (hears w (lacked lacks)) { idle = relieved lacks w.idle }

-- rule turn-links: A transfer gets an idle link of its endpoint, unless only a fresh one will do; else the gate opens one, once it says
-- that it can.
-- rule turn-files
--
-- A transfer gets the link that it wants, for the endpoint of the hop that is under way; and this is what the gate said meanwhile.
pub data Supplied {L : Type 0} (history : L → List Answer) (token_of : L → ℕ) (t new : ChainState L) (idle left : Idle L) : List Said → Type 0 where
  -- one that wants no link is given none
  unwanted : ¬ (WantsLink t.now) → new ≡ t → left ≡ idle → Supplied history token_of t new idle left []
  -- unless it wants a fresh one, it is given the newest idle link of its endpoint, as one that was in use before
  reuses : (link : L) → WantsLink t.now → t.now.needs_fresh ≡ false → TakesNewest t.now.request.endpoint idle.links link left.links
      → left.limit ≡ idle.limit → new ≡ served_by t link true → Supplied history token_of t new idle left []
  -- where no idle link will do, and none can be opened yet, it is given none in this turn
  delays : WantsLink t.now → MustOpen t idle → left ≡ idle → new ≡ t
      → Supplied history token_of t new idle left (asked t.now.request.endpoint false ∷ [])
  -- where one can, it is given one that the gate opens to its endpoint, which has answered nothing yet
  opens : (link : L) → WantsLink t.now → MustOpen t idle → left ≡ idle → history link ≡ [] → new ≡ served_by t link false
      → Supplied history token_of t new idle left (asked t.now.request.endpoint true ∷ opened t.now.request.endpoint (Ok (token_of link)) ∷ [])
  -- where that fails, and not since too many files are open, it gets the code of why
  fails : (c : Code) → WantsLink t.now → MustOpen t idle → left ≡ idle → is_link_code c ≡ true → new ≡ unserved t c
      → Supplied history token_of t new idle left (asked t.now.request.endpoint true ∷ opened t.now.request.endpoint (Err c) ∷ lacked false ∷ [])
  -- where it fails for that cause, all idle links are dropped; and where one can then be opened, it is given one that the gate opens
  reopens : (c : Code) (link : L) → WantsLink t.now → MustOpen t idle → left ≡ cleared idle → is_link_code c ≡ true → history link ≡ []
      → new ≡ served_by t link false → Supplied history token_of t new idle left
      (asked t.now.request.endpoint true ∷ opened t.now.request.endpoint (Err c) ∷ lacked true ∷ asked t.now.request.endpoint true
      ∷ opened t.now.request.endpoint (Ok (token_of link)) ∷ [])
  -- where that fails, too, it gets the code of why
  gives_up : (c again : Code) → WantsLink t.now → MustOpen t idle → left ≡ cleared idle → is_link_code c ≡ true → is_link_code again ≡ true
      → new ≡ unserved t again → Supplied history token_of t new idle left
      (asked t.now.request.endpoint true ∷ opened t.now.request.endpoint (Err c) ∷ lacked true ∷ asked t.now.request.endpoint true
      ∷ opened t.now.request.endpoint (Err again) ∷ [])
  -- and where none can be opened yet, it is given none in this turn
  puts_off : (c : Code) → WantsLink t.now → MustOpen t idle → left ≡ cleared idle → is_link_code c ≡ true → new ≡ t
      → Supplied history token_of t new idle left
      (asked t.now.request.endpoint true ∷ opened t.now.request.endpoint (Err c) ∷ lacked true ∷ asked t.now.request.endpoint false ∷ [])

-- no link can be opened yet
abbrev pub is_not_yet : Said → Bool
is_not_yet (asked endpoint false) = true
is_not_yet _ = false

-- the last that the gate said is that no link can be opened yet
abbrev pub is_delayed : List Said → Bool
is_delayed [] = false
is_delayed (said ∷ []) = is_not_yet said
is_delayed (_ ∷ said ∷ more) = is_delayed (said ∷ more)

-- the transfer, once the link was taken out of it that a hop has left
abbrev pub unlinked : {L : Type 0} → ChainState L → ChainState L
unlinked t = record t { link = None }

-- The link that a hop of the transfer has left, and that may serve again, goes to the idle links: after a poll that ended the transfer, and
-- after one that goes on to its next hop.
pub data Keeps {L : Type 0} (t : ChainState L) (idle left : Idle L) : Type 0 where
  -- it has left none
  leaves_none : t.link ≡ None → left ≡ idle → Keeps t idle left
  -- it is kept under the endpoint that it goes to, and where there are then more than may be the oldest leaves
  puts : (link : L) (home : HostAndPort) → t.link ≡ Some link → home_of t ≡ Some home
      → left ≡ record idle { links = kept idle.limit (idle.links ++ (home, link) ∷ []) } → Keeps t idle left
  -- or it is dropped: where memory for its endpoint is refused, which nothing here can see
  drops : (link : L) → t.link ≡ Some link → left ≡ idle → Keeps t idle left

-- rule turn-wait-for-link: A worker doesn't wait where a transfer that goes on needs a link, unless its gate has said in this turn that
-- none can be opened yet.
--
-- After its poll a transfer is held on, unless it has ended; and the worker is not to wait where the transfer could go on at once. `goes`
-- says whether it may go on, and `delayed` whether no link could be opened for it yet.
abbrev pub Settles : {L : Type 0} → Held L → Bool → Bool → Worker L → Worker L → How → Type 0
-- one that waits is held on, and could go on where it wants a link, unless none could be opened yet
Settles h goes delayed w v waits =
    (wants : Bool) × (IsTrue wants ↔ WantsLink h.transfer.now) × (v ≡ holds (record w { can_go_on = w.can_go_on || (goes && (not delayed && wants)) }) h)
-- one that asked to be polled again is held on, and could go on
Settles h goes delayed w v asks = v ≡ holds (record w { can_go_on = w.can_go_on || goes }) h
-- the end of one that has ended is handed in
Settles h goes delayed w v (ends o) = (f : Finish) × (v ≡ handed_in h.ticket o f w)

-- it goes on where the look says so: a look of nothing counts as paused
abbrev pub is_go : Option Look → Bool
is_go (Some look.Go) = true
is_go _ = false

-- the transfer, once it was given the moment, and whether it is paused
abbrev pub prepared : {L : Type 0} → ℕ → Bool → ChainState L → ChainState L
prepared now goes t = record t { now = record t.now { moment = now; is_paused = not goes } }

-- rule turn-paused: A transfer that is paused, or of which no version can be read, gets no link.
--
-- it gets a link only where it goes on
abbrev pub Readies : {L : Type 0} → (L → List Answer) → (L → ℕ) → Bool → ChainState L → ChainState L → Idle L → Idle L → List Said → Type 0
Readies history token_of true t new idle left said = Supplied history token_of t new idle left said
Readies history token_of false t new idle left said = (new ≡ t) × (left ≡ idle) × (said ≡ [])

-- rule turn-room: A transfer whose delivery has no room, or has failed, is as one that is paused.
-- rule turn-gone: A transfer that is gone is requeued with its link, so that its claim comes back.
-- rule turn-progress: What is noted is the count of the bytes that the transfer has received, after its poll.
--
-- It looks at a transfer.
pub data LooksAt {L : Type 0} (history : L → List Answer) (token_of : L → ℕ) (now : ℕ) (h : Held L) (w v : Worker L) : Type 0 where
  -- one that is gone is given back as it is, with its link, and is held no more
  lets_go : (r : Return) → v ≡ does (does w (looks h.ticket (Some look.Gone))) (gives_back h r) → LooksAt history token_of now h w v
  -- The delivery of any other makes room for content. The transfer is prepared, gets a link where it goes on, and is polled once; it goes on
  -- where the look says so and there is room. The count of its bytes is noted, the link that a hop left is kept, and it is held on or its end
  -- is handed in.
  serves : (seen : Option Look) (room : Bool) (offered ready new : ChainState L) (idle left : Idle L) (said : List Said) (went how : How)
      → seen ≢ Some look.Gone
      → MakesRoom h.transfer offered room
      → Readies history token_of (is_go seen && room) (prepared now (is_go seen && room) offered) ready w.idle idle said
      → Steps history ready new went
      → Delivers went how
      → Keeps new idle left
      → Settles (record h { transfer = unlinked new }) (is_go seen && room) (is_delayed said)
      (record w { idle = left; did = w.did ++ looks h.ticket seen ∷ notes h.ticket h.slot (received_of new) ∷ []; said = w.said ++ said }) v how
      → LooksAt history token_of now h w v

-- a transfer whose deadline has come
abbrev pub IsLate : {L : Type 0} → ℕ → Held L → Type 0
IsLate now h = IsDue h.transfer.now.deadline now

-- rule turn-order: The transfers whose deadline has come are looked at first, then the others in order of claim, each once.
-- rule turn-clock: Before each transfer that isn't due the clock is read, and what has become due comes first.
--
-- It goes through these transfers from here to its end, where the moment is `last`, and looks at each once. `now` is the moment here, and
-- `is_new` says that it has polled none since it read that.
pub data GoesThrough {L : Type 0} (history : L → List Answer) (token_of : L → ℕ) (last : ℕ) (v : Worker L) : ℕ → Bool → List (Held L) → Worker L → Type 0 where
  -- none is left
  through : (is_new : Bool) → GoesThrough history token_of last v last is_new [] v
  -- while some are due, it looks at one of them
  due : {w mid : Worker L} (now : ℕ) (is_new : Bool) (earlier later : List (Held L)) (h : Held L) → IsLate now h
      → LooksAt history token_of now h w mid → GoesThrough history token_of last v now false (earlier ++ later) mid
      → GoesThrough history token_of last v now is_new (earlier ++ h ∷ later) w
  -- where none is, it reads the clock, unless it has polled none since the last reading: then some may be due
  asks_time : {w : Worker L} (now since : ℕ) (todo : List (Held L)) → All (λ k. ¬ (IsLate now k)) todo
      → GoesThrough history token_of last v since true todo (hears w (told since)) → GoesThrough history token_of last v now false todo w
  -- where none is now, it looks at the one that was claimed first
  next : {w mid : Worker L} (now : ℕ) (h : Held L) (later : List (Held L)) → All (λ k. ¬ (IsLate now k)) (h ∷ later)
      → LooksAt history token_of now h w mid → GoesThrough history token_of last v now false later mid
      → GoesThrough history token_of last v now true (h ∷ later) w

-- the longest wait of a turn, in milliseconds
abbrev pub longest_wait : ℕ
longest_wait = 20

-- the milliseconds to a deadline
abbrev pub time_left : ℕ → Option ℕ → ℕ
time_left now None = longest_wait
time_left now (Some deadline) = deadline - now

-- rule turn-wait: A turn waits until the next deadline, at most 20 milliseconds, and not at all where something of its own could go on at
-- once.
abbrev pub wait_of : {L : Type 0} → ℕ → Worker L → ℕ
wait_of now w = if w.can_go_on then 0 else fold (λ ms h. min ms (time_left now h.transfer.now.deadline)) longest_wait w.held

-- What becomes of a transfer once the worker is told to stop.
pub data GivesBack {L : Type 0} (h : Held L) (w v : Worker L) : Type 0 where
  -- one that has started is held on
  holds_on : h.transfer.now.is_started ≡ true → v ≡ holds w h → GivesBack h w v
  -- one that has not is given back as it is, and is held no more
  returns : (r : Return) → h.transfer.now.is_started ≡ false → v ≡ does w (gives_back h r) → GivesBack h w v

-- rule turn-stop: Once a worker is told to stop it requeues what has not started, and keeps the others.
--
-- What follows from whether it is told to stop, and whether it was before.
abbrev pub Stops : {L : Type 0} → Bool → Bool → Worker L → Worker L → Type 0
-- nothing where it isn't told, or was before
Stops false already w v = v ≡ w
Stops true true w v = v ≡ w
-- where it is told for the first time it is stopping from then on, and gives back what has not started
Stops true false w v = Each GivesBack w.held (record w { is_stopping = true; held = [] }) v

-- One turn: the worker before and after.
pub record WorkerTurn {L : Type 0} (history : L → List Answer) (token_of : L → ℕ) (w v : Worker L) : Type 0 where
  -- the moment at its beginning, and the last that it was given
  pub now : ℕ
  pub last : ℕ
  -- whether too many files are open
  pub lacks : Bool
  -- the worker once it has claimed, once it has tried the ends again, and once it has gone through its transfers
  pub claimed : Worker L
  pub tried : Worker L
  pub gone_through : Worker L
  -- whether it is told to stop
  pub stop : Bool
  -- it asks its gate for the moment and whether it is to drop its idle links, and claims at most one transfer
  pub claim : Claims (relieves lacks (hears (record w { can_go_on = false }) (told now))) claimed
  -- it tries the ends again that were refused memory, in order
  pub retries : Each Retries claimed.set_aside (record claimed { set_aside = [] }) tried
  -- it goes through its transfers, the due ones first, then in order of claim, and asks for the moment between
  pub each : GoesThrough history token_of last gone_through now true tried.held (record tried { held = [] })
  -- it waits at its gate, and gives back what has not started once it is told to stop
  pub stops : Stops stop gone_through.is_stopping (hears gone_through (waited (wait_of last gone_through) stop)) v

-- Turn after turn.
pub data Runs {L : Type 0} (history : L → List Answer) (token_of : L → ℕ) (w : Worker L) : Worker L → Type 0 where
  -- it has taken no turn yet
  begins : Runs history token_of w w
  -- it has taken one turn more
  turns : {m v : Worker L} → Runs history token_of w m → WorkerTurn history token_of m v → Runs history token_of w v
