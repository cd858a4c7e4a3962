-- Whom a worker looks at, and what it claims and holds once it is stopping.
use Rattle.std.proofs.Common.{◌≡◌, ℕ, ◌+◌, Bool, true, false, cond, List, [], ◌∷◌, ◌++◌, Some, None, refl, sym, ap, subst, ◌∙◌, arith, append-nil}
use Rattle.std.specs.Prelude.{All, count_by, ◌||◌, ◌&&◌, not}
use Rattle.std.proofs.lemmas.List.Elements.{All-nil, All-push}
use Rattle.std.proofs.lemmas.List.Sums.{sum_by-append, sum_by-cons, sum_by_push}
use Rattle.mx_types.specs.declared.names.Ticket.{Ticket}
use Rattle.mx_types.specs.declared.reply.Look.TheVariants as look
use Rattle.mx_link.specs.declared.answers.Answer.{Answer}
use Rattle.mx_chain.specs.Chains.{received_of}
use Rattle.mx_chain.specs.Outcomes.{OutcomeValue}
use Rattle.mx_chain.specs.Steps.{How, waits, asks, ends}
use Rattle.mx_gate.specs.Said.{told, waited}
use Rattle.mx_turn.specs.Workers.{Held, SetAside, Worker, Finish, recorded, stale, lacking, unseated, Return, Deed, claims, looks, notes, finishes, gives_back, hears, does, holds}
use Rattle.mx_turn.specs.Turn.{relieves, Each, Claims, keeps, finds_none, claims_one, handed_in, Retries, Settles, LooksAt, lets_go, serves, unlinked, GoesThrough, through, due, asks_time, next, GivesBack, holds_on, returns, Stops, wait_of, WorkerTurn}
use Rattle.mx_turn.specs.Laws.{claimed_by, looked_at_by, many, EachIsLookedAt, ClaimsNoneOnceStopping, HoldsWhatHasStarted}
use Rattle.mx_turn.proofs.Accounts.{many-append}

module _ (p : Ticket → Bool) where
  abbrev one : Ticket → ℕ
  one t = cond (p t) 1 0

  module _ {L : Type 0} where
    abbrev of_held : List (Held L) → ℕ
    of_held hs = count_by (λ h. p h.ticket) hs

    -- from w on so many tickets more were looked at, and none was claimed
    record Looked (w v : Worker L) (n : ℕ) : Type 0 where
      looks_more : many looked_at_by p v.did ≡ many looked_at_by p w.did + n
      claims_same : many claimed_by p v.did ≡ many claimed_by p w.did

    none_looked : (w : Worker L) → Looked w w 0
    none_looked w = record { looks_more = omega arith; claims_same = refl }

    looked_on : (w m v : Worker L) (n k s : ℕ) → n + k ≡ s → Looked w m n → Looked m v k → Looked w v s
    looked_on w m v n k s e a b = record {
      looks_more = omega (arith, e, a.looks_more, b.looks_more);
      claims_same = b.claims_same ∙ a.claims_same;
    }

    looked_as : (w u v : Worker L) (n : ℕ) → v ≡ u → Looked w u n → Looked w v n
    looked_as w u v n e h = subst (λ x. Looked w x n) (sym e) h

    -- with these deeds after what it did
    did_more : (w v : Worker L) (ds : List (Deed L)) (n : ℕ) → v.did ≡ w.did ++ ds → many looked_at_by p ds ≡ n → many claimed_by p ds ≡ 0 → Looked w v n
    did_more w v ds n e l c =
        let a = ap (many looked_at_by p) e ∙ many-append p looked_at_by w.did ds in
        let b = ap (many claimed_by p) e ∙ many-append p claimed_by w.did ds in
        record { looks_more = omega (arith, a, l); claims_same = omega (arith, b, c) }

    same_did : (w v : Worker L) → v.did ≡ w.did → Looked w v 0
    same_did w v e = did_more w v [] 0 (e ∙ sym (append-nil w.did)) refl refl

    hands : (t : Ticket) (o : OutcomeValue) (f : Finish) (w : Worker L) → Looked w (handed_in t o f w) 0
    hands t o recorded w = did_more w _ (finishes t o recorded ∷ []) 0 refl refl refl
    hands t o stale w = did_more w _ (finishes t o stale ∷ []) 0 refl refl refl
    hands t o unseated w = did_more w _ (finishes t o unseated ∷ []) 0 refl refl refl
    hands t o lacking w = did_more w _ (finishes t o lacking ∷ []) 0 refl refl refl

    hands_held : (t : Ticket) (o : OutcomeValue) (f : Finish) (w : Worker L) → (handed_in t o f w).held ≡ w.held
    hands_held t o recorded w = refl
    hands_held t o stale w = refl
    hands_held t o unseated w = refl
    hands_held t o lacking w = refl

    retried : (ss : List SetAside) (w v : Worker L) → Each Retries ss w v → Looked w v 0 × (v.held ≡ w.held)
    retried [] w v e = (looked_as w w v 0 e (none_looked w), ap (λ x. x.held) e)
    retried (s ∷ ss) w v (mid, (f, e), rest) =
        let first = looked_as w _ mid 0 e (hands s.ticket s.outcome f w) in
        let then = retried ss mid v rest in
        (looked_on w mid v 0 0 0 refl first then.0, then.1 ∙ ap (λ x. x.held) e ∙ hands_held s.ticket s.outcome f w)

    gave : (h : Held L) (r : Return) (w : Worker L) → Looked w (does w (gives_back h r)) 0
    gave h r w = did_more w _ (gives_back h r ∷ []) 0 refl refl refl

    given : (hs : List (Held L)) (w v : Worker L) → Each GivesBack hs w v → Looked w v 0
    given [] w v e = looked_as w w v 0 e (none_looked w)
    given (h ∷ hs) w v (mid, holds_on started e, rest) =
        looked_on w mid v 0 0 0 refl (looked_as w _ mid 0 e (same_did w (holds w h) refl)) (given hs mid v rest)
    given (h ∷ hs) w v (mid, returns r unstarted e, rest) =
        looked_on w mid v 0 0 0 refl (looked_as w _ mid 0 e (gave h r w)) (given hs mid v rest)

    stopped : (stop already : Bool) (w v : Worker L) → Stops stop already w v → Looked w v 0
    stopped false already w v e = looked_as w w v 0 e (none_looked w)
    stopped true true w v e = looked_as w w v 0 e (none_looked w)
    stopped true false w v each =
        let emptied : Worker L = record w { is_stopping = true; held = [] } in
        looked_on w emptied v 0 0 0 refl (same_did w emptied refl) (given w.held emptied v each)

    settled : (h : Held L) (goes delayed : Bool) (w v : Worker L) (how : How) → Settles h goes delayed w v how → Looked w v 0
    settled h goes delayed w v waits (wants, is, e) = looked_as w _ v 0 e (same_did w (holds (record w { can_go_on = w.can_go_on || (goes && (not delayed && wants)) }) h) refl)
    settled h goes delayed w v asks e = looked_as w _ v 0 e (same_did w (holds (record w { can_go_on = w.can_go_on || goes }) h) refl)
    settled h goes delayed w v (ends o) (f, e) = looked_as w _ v 0 e (hands h.ticket o f w)

    -- the one that was claimed is held
    claimed : (w v : Worker L) → Claims w v
        → (many looked_at_by p v.did ≡ many looked_at_by p w.did) × (many claimed_by p v.did + of_held w.held ≡ many claimed_by p w.did + of_held v.held)
    claimed w v (keeps why e) = subst (λ x. (many looked_at_by p x.did ≡ many looked_at_by p w.did) × (many claimed_by p x.did + of_held w.held ≡ many claimed_by p w.did + of_held x.held)) (sym e) (refl, refl)
    claimed w v (finds_none going room e) =
        let did = did_more w (does w (claims None)) (claims None ∷ []) 0 refl refl refl in
        subst (λ x. (many looked_at_by p x.did ≡ many looked_at_by p w.did) × (many claimed_by p x.did + of_held w.held ≡ many claimed_by p w.did + of_held x.held)) (sym e)
        (omega (arith, did.looks_more), omega (arith, did.claims_same))
    claimed w v (claims_one h has_room going room runs more e) =
        let a = many-append p looked_at_by w.did (claims (Some h) ∷ []) in
        let b = many-append p claimed_by w.did (claims (Some h) ∷ []) in
        let push : of_held (w.held ++ h ∷ []) ≡ of_held w.held + one h.ticket = sum_by_push (λ (k : Held L). cond (p k.ticket) 1 0) w.held h in
        let none : many looked_at_by p (claims (Some h) ∷ []) ≡ 0 = refl in
        let this : many claimed_by p (claims (Some h) ∷ []) ≡ one h.ticket = omega arith in
        subst (λ x. (many looked_at_by p x.did ≡ many looked_at_by p w.did) × (many claimed_by p x.did + of_held w.held ≡ many claimed_by p w.did + of_held x.held)) (sym e)
        (omega (arith, a, none), omega (arith, b, this, push))

    module _ (history : L → List Answer) (token_of : L → ℕ) where
      looked : (now : ℕ) (h : Held L) (w v : Worker L) → LooksAt history token_of now h w v → Looked w v (one h.ticket)
      looked now h w v (lets_go r e) =
          let mid : Worker L = does w (looks h.ticket (Some look.Gone)) in
          let first = did_more w mid (looks h.ticket (Some look.Gone) ∷ []) (one h.ticket) refl (omega arith) refl in
          looked_as w _ v (one h.ticket) e (looked_on w mid (does mid (gives_back h r)) (one h.ticket) 0 (one h.ticket) (omega arith) first (gave h r mid))
      looked now h w v (serves seen room offered ready new idle left said went how ne makes ready_is steps delivers keeping settles) =
          let ds = looks h.ticket seen ∷ notes h.ticket h.slot (received_of new) ∷ [] in
          let mid : Worker L = record w { idle = left; did = w.did ++ ds; said = w.said ++ said } in
          looked_on w mid v (one h.ticket) 0 (one h.ticket) (omega arith) (did_more w mid ds (one h.ticket) refl (omega arith) refl)
          (settled (record h { transfer = unlinked new }) _ _ mid v how settles)

      gone_through : (last : ℕ) (v : Worker L) (at : ℕ) (new : Bool) (todo : List (Held L)) (w : Worker L) → GoesThrough history token_of last v at new todo w → Looked w v (of_held todo)
      gone_through last v at new todo w (through is_new) = none_looked w
      gone_through last v at new todo w (due {mid = mid} now is_new earlier later h d seen rest) =
          let a = sum_by-append (λ (k : Held L). cond (p k.ticket) 1 0) earlier (h ∷ later) in
          let b = sum_by-cons (λ (k : Held L). cond (p k.ticket) 1 0) h later in
          let c = sum_by-append (λ (k : Held L). cond (p k.ticket) 1 0) earlier later in
          looked_on w mid v (one h.ticket) (of_held (earlier ++ later)) _ (omega (arith, a, b, c)) (looked now h w mid seen) (gone_through last v now false (earlier ++ later) mid rest)
      gone_through last v at new todo w (asks_time now since left none rest) =
          looked_on w (hears w (told since)) v 0 (of_held left) _ (omega arith) (same_did w (hears w (told since)) refl) (gone_through last v since true left (hears w (told since)) rest)
      gone_through last v at new todo w (next {mid = mid} now h later none seen rest) =
          let b = sum_by-cons (λ (k : Held L). cond (p k.ticket) 1 0) h later in
          looked_on w mid v (one h.ticket) (of_held later) _ (omega (arith, b)) (looked now h w mid seen) (gone_through last v now false later mid rest)

      turn_looks : (w v : Worker L) → WorkerTurn history token_of w v
          → many looked_at_by p v.did + many claimed_by p w.did ≡ many looked_at_by p w.did + of_held w.held + many claimed_by p v.did
      turn_looks w v t =
          let begun : Worker L = relieves t.lacks (hears (record w { can_go_on = false }) (told t.now)) in
          let at_claimed = claimed begun t.claimed t.claim in
          let emptied : Worker L = record t.claimed { set_aside = [] } in
          let at_tried = retried t.claimed.set_aside emptied t.tried t.retries in
          let held : of_held t.tried.held ≡ of_held t.claimed.held = ap of_held at_tried.1 in
          let at_through = gone_through t.last t.gone_through t.now true t.tried.held (record t.tried { held = [] }) t.each in
          let at_end = stopped t.stop t.gone_through.is_stopping (hears t.gone_through (waited (wait_of t.last t.gone_through) t.stop)) v t.stops in
          omega (
            arith,
            at_claimed.0,
            at_claimed.1,
            at_tried.0.looks_more,
            at_tried.0.claims_same,
            held,
            at_through.looks_more,
            at_through.claims_same,
            at_end.looks_more,
            at_end.claims_same,
          )

pub looked_at_once : {L : Type 0} (history : L → List Answer) (token_of : L → ℕ) → EachIsLookedAt history token_of
looked_at_once history token_of w v t p = turn_looks p history token_of w v t

module _ {L : Type 0} where
  -- whether it is stopping changes in no step but the last
  hands_stopping : (t : Ticket) (o : OutcomeValue) (f : Finish) (w : Worker L) → (handed_in t o f w).is_stopping ≡ w.is_stopping
  hands_stopping t o recorded w = refl
  hands_stopping t o stale w = refl
  hands_stopping t o unseated w = refl
  hands_stopping t o lacking w = refl

  claims_stopping : (w v : Worker L) → Claims w v → v.is_stopping ≡ w.is_stopping
  claims_stopping w v (keeps why e) = ap (λ x. x.is_stopping) e
  claims_stopping w v (finds_none going room e) = ap (λ x. x.is_stopping) e
  claims_stopping w v (claims_one h has_room going room runs more e) = ap (λ x. x.is_stopping) e

  retries_stopping : (ss : List SetAside) (w v : Worker L) → Each Retries ss w v → v.is_stopping ≡ w.is_stopping
  retries_stopping [] w v e = ap (λ x. x.is_stopping) e
  retries_stopping (s ∷ ss) w v (mid, (f, e), rest) =
      retries_stopping ss mid v rest ∙ ap (λ x. x.is_stopping) e ∙ hands_stopping s.ticket s.outcome f w

  settles_stopping : (h : Held L) (goes delayed : Bool) (w v : Worker L) (how : How) → Settles h goes delayed w v how → v.is_stopping ≡ w.is_stopping
  settles_stopping h goes delayed w v waits (wants, is, e) = ap (λ x. x.is_stopping) e
  settles_stopping h goes delayed w v asks e = ap (λ x. x.is_stopping) e
  settles_stopping h goes delayed w v (ends o) (f, e) = ap (λ x. x.is_stopping) e ∙ hands_stopping h.ticket o f w

  -- a stop changes nothing where it is stopping, or isn't told to stop
  stops_again : (stop already : Bool) (w v : Worker L) → already ≡ true → Stops stop already w v → v ≡ w
  stops_again false already w v is e = e
  stops_again true true w v is e = e
  stops_again true false w v is each = let no : false ≡ true = is in cc

  -- a transfer that has started
  abbrev HasStarted : Held L → Type 0
  HasStarted h = h.transfer.now.is_started ≡ true

  gives_started : (hs : List (Held L)) (w v : Worker L) → All HasStarted w.held → Each GivesBack hs w v → All HasStarted v.held
  gives_started [] w v all e = subst (λ x. All HasStarted x.held) (sym e) all
  gives_started (h ∷ hs) w v all (mid, holds_on started e, rest) =
      gives_started hs mid v (subst (λ x. All HasStarted x.held) (sym e) (All-push HasStarted w.held h all started)) rest
  gives_started (h ∷ hs) w v all (mid, returns r unstarted e, rest) =
      gives_started hs mid v (subst (λ x. All HasStarted x.held) (sym e) all) rest

  stops_started : (stop already : Bool) (w v : Worker L) → w.is_stopping ≡ false → v.is_stopping ≡ true → Stops stop already w v → All HasStarted v.held
  stops_started false already w v going stopping e = let same : v.is_stopping ≡ w.is_stopping = ap (λ x. x.is_stopping) e in cc
  stops_started true true w v going stopping e = let same : v.is_stopping ≡ w.is_stopping = ap (λ x. x.is_stopping) e in cc
  stops_started true false w v going stopping each =
      gives_started w.held (record w { is_stopping = true; held = [] }) v (All-nil HasStarted) each

  module _ (history : L → List Answer) (token_of : L → ℕ) where
    looks_stopping : (now : ℕ) (h : Held L) (w v : Worker L) → LooksAt history token_of now h w v → v.is_stopping ≡ w.is_stopping
    looks_stopping now h w v (lets_go r e) = ap (λ x. x.is_stopping) e
    looks_stopping now h w v (serves seen room offered ready new idle left said went how ne makes ready_is steps delivers keeping settles) = settles_stopping _ _ _ _ v how settles

    through_stopping : (last : ℕ) (v : Worker L) (at : ℕ) (new : Bool) (todo : List (Held L)) (w : Worker L) → GoesThrough history token_of last v at new todo w → v.is_stopping ≡ w.is_stopping
    through_stopping last v at new todo w (through is_new) = refl
    through_stopping last v at new todo w (due {mid = mid} now is_new earlier later h d seen rest) = through_stopping last v now false _ mid rest ∙ looks_stopping now h w mid seen
    through_stopping last v at new todo w (asks_time now since left none rest) = through_stopping last v since true _ (hears w (told since)) rest
    through_stopping last v at new todo w (next {mid = mid} now h later none seen rest) = through_stopping last v now false later mid rest ∙ looks_stopping now h w mid seen

    until_told : (w v : Worker L) (t : WorkerTurn history token_of w v) → t.gone_through.is_stopping ≡ w.is_stopping
    until_told w v t =
        through_stopping t.last t.gone_through t.now true t.tried.held (record t.tried { held = [] }) t.each
        ∙ retries_stopping t.claimed.set_aside (record t.claimed { set_aside = [] }) t.tried t.retries
        ∙ claims_stopping (relieves t.lacks (hears (record w { can_go_on = false }) (told t.now))) t.claimed t.claim

    claimed_none : (p : Ticket → Bool) (w v : Worker L) → Claims w v → w.is_stopping ≡ true → many claimed_by p v.did ≡ many claimed_by p w.did
    claimed_none p w v (keeps why e) is = ap (λ x. many claimed_by p x.did) e
    claimed_none p w v (finds_none going room e) is = let no : true ≡ false = sym is ∙ going in cc
    claimed_none p w v (claims_one h has_room going room runs more e) is = let no : true ≡ false = sym is ∙ going in cc

    pub none_once_stopping : ClaimsNoneOnceStopping history token_of
    none_once_stopping w v t is =
        let told_before = until_told w v t ∙ is in
        let heard : Worker L = hears t.gone_through (waited (wait_of t.last t.gone_through) t.stop) in
        let same = stops_again t.stop t.gone_through.is_stopping heard v told_before t.stops in (
          ap (λ x. x.is_stopping) same ∙ told_before,
          λ p.
              let begun : Worker L = relieves t.lacks (hears (record w { can_go_on = false }) (told t.now)) in
              let at_tried = retried p t.claimed.set_aside (record t.claimed { set_aside = [] }) t.tried t.retries in
              let at_through = gone_through p history token_of t.last t.gone_through t.now true t.tried.held (record t.tried { held = [] }) t.each in
              ap (λ x. many claimed_by p x.did) same ∙ at_through.claims_same ∙ at_tried.0.claims_same ∙ claimed_none p begun t.claimed t.claim is,
        )

    pub what_has_started : HoldsWhatHasStarted history token_of
    what_has_started w v t going stopping =
        let heard : Worker L = hears t.gone_through (waited (wait_of t.last t.gone_through) t.stop) in
        stops_started t.stop t.gone_through.is_stopping heard v (until_told w v t ∙ going) stopping t.stops
