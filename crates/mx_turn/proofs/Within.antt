-- A worker has at most 64 in flight.
use Rattle.std.proofs.Common.{ℕ, ◌+◌, ◌≤◌, Bool, true, false, List, [], ◌∷◌, ◌++◌, length, sym, subst, arith, length-append}
use Rattle.mx_types.specs.Limits.{most_transfers}
use Rattle.mx_types.specs.declared.names.Ticket.{Ticket}
use Rattle.mx_link.specs.declared.answers.Answer.{Answer}
use Rattle.mx_chain.specs.Outcomes.{OutcomeValue}
use Rattle.mx_chain.specs.Steps.{How, waits, asks, ends}
use Rattle.mx_gate.specs.Said.{told}
use Rattle.mx_turn.specs.Workers.{Held, SetAside, Worker, Finish, recorded, stale, lacking, unseated, in_hand, hears, starts}
use Rattle.mx_turn.specs.Turn.{Each, Claims, keeps, finds_none, claims_one, handed_in, Retries, Settles, LooksAt, lets_go, serves, unlinked, GoesThrough, through, due, asks_time, next, GivesBack, holds_on, returns, Stops, WorkerTurn, Runs, begins, turns}
use Rattle.mx_turn.specs.Laws.{AtMost64}

-- with n more there are at most 64
abbrev pub Fits : {L : Type 0} → Worker L → ℕ → Type 0
Fits w n = in_hand w + n ≤ most_transfers

module _ {L : Type 0} where
  hands_in : (t : Ticket) (o : OutcomeValue) (f : Finish) (w : Worker L) (n : ℕ) → Fits w (1 + n) → Fits (handed_in t o f w) n
  hands_in t o recorded w n h = omega arith
  hands_in t o stale w n h = omega arith
  hands_in t o unseated w n h = omega arith
  hands_in t o lacking w n h = let push = length-append w.set_aside (record { ticket = t; outcome = o } ∷ []) in omega arith

  each_fits : {X : Type 0} (Step : X → Worker L → Worker L → Type 0) → ((x : X) (w v : Worker L) (n : ℕ) → Step x w v → Fits w (1 + n) → Fits v n)
      → (xs : List X) (w v : Worker L) (n : ℕ) → Each Step xs w v → Fits w (length xs + n) → Fits v n
  each_fits Step step [] w v n e h = subst (λ x. Fits x n) (sym e) (omega (arith, h))
  each_fits Step step (x ∷ xs) w v n (mid, one, rest) h = each_fits Step step xs mid v n rest (step x w mid (length xs + n) one (omega (arith, h)))

  pub retries_step : (s : SetAside) (w v : Worker L) (n : ℕ) → Retries s w v → Fits w (1 + n) → Fits v n
  retries_step s w v n (f, e) h = subst (λ x. Fits x n) (sym e) (hands_in s.ticket s.outcome f w n h)

  pub gives_step : (k : Held L) (w v : Worker L) (n : ℕ) → GivesBack k w v → Fits w (1 + n) → Fits v n
  gives_step k w v n (holds_on started e) h = let push = length-append w.held (k ∷ []) in subst (λ x. Fits x n) (sym e) (omega arith)
  gives_step k w v n (returns r unstarted e) h = subst (λ x. Fits x n) (sym e) (omega arith)

  stops_step : (stop already : Bool) (w v : Worker L) → Stops stop already w v → Fits w 0 → Fits v 0
  stops_step false already w v e h = subst (λ x. Fits x 0) (sym e) h
  stops_step true true w v e h = subst (λ x. Fits x 0) (sym e) h
  stops_step true false w v each h = each_fits GivesBack gives_step w.held (record w { is_stopping = true; held = [] }) v 0 each (omega (arith, h))

  settles_step : (k : Held L) (goes delayed : Bool) (w v : Worker L) (how : How) (n : ℕ) → Settles k goes delayed w v how → Fits w (1 + n) → Fits v n
  settles_step k goes delayed w v waits n (wants, is, e) h = let push = length-append w.held (k ∷ []) in subst (λ x. Fits x n) (sym e) (omega arith)
  settles_step k goes delayed w v asks n e h = let push = length-append w.held (k ∷ []) in subst (λ x. Fits x n) (sym e) (omega arith)
  settles_step k goes delayed w v (ends out) n (f, e) h = subst (λ x. Fits x n) (sym e) (hands_in k.ticket out f w n h)

  pub claims_step : (w v : Worker L) → Claims w v → Fits w 0 → Fits v 0
  claims_step w v (keeps why e) h = subst (λ x. Fits x 0) (sym e) h
  claims_step w v (finds_none going room e) h = subst (λ x. Fits x 0) (sym e) h
  claims_step w v (claims_one k has_room going room runs more e) h = let push = length-append w.held (k ∷ []) in subst (λ x. Fits x 0) (sym e) (omega arith)

  module _ (history : L → List Answer) (token_of : L → ℕ) where
    pub looks_step : (now : ℕ) (k : Held L) (w v : Worker L) (n : ℕ) → LooksAt history token_of now k w v → Fits w (1 + n) → Fits v n
    looks_step now k w v n (lets_go r e) h = subst (λ x. Fits x n) (sym e) (omega arith)
    looks_step now k w v n (serves seen room offered ready new idle left said went how ne makes ready_is steps delivers keeping settles) h = settles_step (record k { transfer = unlinked new }) _ _ _ v how n settles h

    through_step : (last : ℕ) (v : Worker L) (at : ℕ) (new : Bool) (todo : List (Held L)) (w : Worker L) → GoesThrough history token_of last v at new todo w → Fits w (length todo) → Fits v 0
    through_step last v at new todo w (through is_new) h = h
    through_step last v at new todo w (due {mid = mid} now is_new earlier later k d seen rest) h =
        let a = length-append earlier (k ∷ later) in
        let b = length-append earlier later in
        through_step last v now false (earlier ++ later) mid rest (looks_step now k w mid (length (earlier ++ later)) seen (omega arith))
    through_step last v at new todo w (asks_time now since left none rest) h = through_step last v since true left (hears w (told since)) rest h
    through_step last v at new todo w (next {mid = mid} now k later none seen rest) h = through_step last v now false later mid rest (looks_step now k w mid (length later) seen (omega arith))

    turn_step : (w v : Worker L) → WorkerTurn history token_of w v → Fits w 0 → Fits v 0
    turn_step w v t h =
        let at_claimed = claims_step _ t.claimed t.claim h in
        let at_tried : Fits t.tried 0 = each_fits Retries retries_step t.claimed.set_aside (record t.claimed { set_aside = [] }) t.tried 0 t.retries (omega arith) in
        let at_through = through_step t.last t.gone_through t.now true t.tried.held (record t.tried { held = [] }) t.each (omega arith) in
        stops_step t.stop t.gone_through.is_stopping _ v t.stops at_through

    run_fits : (w v : Worker L) → Runs history token_of w v → Fits w 0 → Fits v 0
    run_fits w v begins h = h
    run_fits w v (turns {m = m} run turn) h = turn_step m v turn (run_fits w m run h)

pub at_most_64 : {L : Type 0} (history : L → List Answer) (token_of : L → ℕ) → AtMost64 history token_of
at_most_64 history token_of limit said v run = let h = run_fits history token_of (record (starts limit) { said = said }) v run (omega arith) in omega arith
