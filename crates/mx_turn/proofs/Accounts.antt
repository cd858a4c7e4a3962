-- Each claim of a worker comes to one end.
use Rattle.std.proofs.Common.{◌≡◌, ℕ, ◌+◌, Bool, true, false, cond, List, [], ◌∷◌, ◌++◌, Option, Some, None, refl, sym, ap, subst, ◌∙◌, arith, append-nil}
use Rattle.std.specs.Prelude.{count_by, sum_by, filter_map, ◌||◌, ◌&&◌, not}
use Rattle.std.specs.List.{cons_option}
use Rattle.std.proofs.lemmas.List.Sums.{sum_by-append, sum_by-cons, sum_by_push}
use Rattle.mx_types.specs.declared.names.Ticket.{Ticket}
use Rattle.mx_types.specs.declared.reply.Look.{Look}
use Rattle.mx_types.specs.declared.reply.Look.TheVariants as look
use Rattle.mx_link.specs.declared.answers.Answer.{Answer}
use Rattle.mx_chain.specs.Chains.{received_of}
use Rattle.mx_chain.specs.Outcomes.{OutcomeValue}
use Rattle.mx_chain.specs.Steps.{How, waits, asks, ends}
use Rattle.mx_gate.specs.Said.{told, waited}
use Rattle.mx_turn.specs.Workers.{Held, SetAside, Worker, Finish, recorded, stale, lacking, unseated, Return, returned, ended_before, unreturned, Deed, claims, looks, notes, gives_back, hears, does, holds, starts}
use Rattle.mx_turn.specs.Turn.{relieves, Each, Claims, keeps, finds_none, claims_one, handed_in, Retries, Settles, LooksAt, lets_go, serves, unlinked, GoesThrough, through, due, asks_time, next, GivesBack, holds_on, returns, Stops, wait_of, WorkerTurn, Runs, begins, turns}
use Rattle.mx_turn.specs.Laws.{claimed_by, recorded_by, stale_by, given_back_by, gone_by, unseated_by, many, EachClaimIsAccounted}

module _ (p : Ticket → Bool) where
  abbrev one : Ticket → ℕ
  one t = cond (p t) 1 0

  cons-count : (o : Option Ticket) (ts : List Ticket) → count_by p (cons_option o ts) ≡ count_by p (cons_option o []) + count_by p ts
  cons-count None ts = omega arith
  cons-count (Some t) ts = sum_by-append _ (t ∷ []) ts

  abbrev of_aside : List SetAside → ℕ
  of_aside ss = count_by (λ s. p s.ticket) ss

  module _ {L : Type 0} where
    many-cons : (by : Deed L → Option Ticket) (d : Deed L) (ds : List (Deed L)) → many by p (d ∷ ds) ≡ many by p (d ∷ []) + many by p ds
    many-cons by d ds = cons-count (by d) (filter_map by ds)

    pub many-append : (by : Deed L → Option Ticket) (ds es : List (Deed L)) → many by p (ds ++ es) ≡ many by p ds + many by p es
    many-append by [] es = omega arith
    many-append by (d ∷ ds) es =
        let a = many-cons by d (ds ++ es) in
        let b = many-cons by d ds in
        let c = many-append by ds es in
        a ∙ omega (arith, c) ∙ ap (λ n. n + many by p es) (sym b)

    -- how many claims are no longer in flight
    abbrev settled : List (Deed L) → ℕ
    settled did = many recorded_by p did + many stale_by p did + many given_back_by p did + many gone_by p did + many unseated_by p did

    settled-append : (ds es : List (Deed L)) → settled (ds ++ es) ≡ settled ds + settled es
    settled-append ds es =
        let a = many-append recorded_by ds es in
        let b = many-append stale_by ds es in
        let c = many-append given_back_by ds es in
        let d = many-append gone_by ds es in
        let e = many-append unseated_by ds es in
        omega arith

    abbrev of_held : List (Held L) → ℕ
    of_held hs = count_by (λ h. p h.ticket) hs

    -- of the claims, those that are neither settled nor in flight
    abbrev Owes : Worker L → ℕ → Type 0
    Owes w n = many claimed_by p w.did ≡ settled w.did + of_held w.held + of_aside w.set_aside + n

    owes_is : (w : Worker L) (n k : ℕ) → Owes w n → n ≡ k → Owes w k
    owes_is w n k o e = omega (arith, o, e)

    -- further deeds, which settle what is no longer in flight
    owes_more : (w v : Worker L) (n k : ℕ) (ds : List (Deed L)) → Owes w n → v.did ≡ w.did ++ ds
        → many claimed_by p ds + of_held w.held + of_aside w.set_aside + n ≡ settled ds + of_held v.held + of_aside v.set_aside + k → Owes v k
    owes_more w v n k ds o e h =
        let a = ap (many claimed_by p) e ∙ many-append claimed_by w.did ds in
        let b = ap settled e ∙ settled-append w.did ds in
        omega (arith, a, b, o, h)

    -- deeds that settle nothing
    record IsQuiet (ds : List (Deed L)) : Type 0 where
      claims_none : many claimed_by p ds ≡ 0
      settles_none : settled ds ≡ 0

    quiet-append : (ds es : List (Deed L)) → IsQuiet ds → IsQuiet es → IsQuiet (ds ++ es)
    quiet-append ds es q r = record {
      claims_none = omega (arith, many-append claimed_by ds es, q.claims_none, r.claims_none);
      settles_none = omega (arith, settled-append ds es, q.settles_none, r.settles_none);
    }

    quiet-looks : (t : Ticket) (seen : Option Look) → IsQuiet (looks t seen ∷ [])
    quiet-looks t seen = record { claims_none = refl; settles_none = refl }

    quiet-notes : (t : Ticket) (slot n : ℕ) → IsQuiet (notes t slot n ∷ [])
    quiet-notes t slot n = record { claims_none = refl; settles_none = refl }

    owes_quiet : (w v : Worker L) (n : ℕ) (ds : List (Deed L)) → IsQuiet ds → Owes w n → v.did ≡ w.did ++ ds → of_held v.held ≡ of_held w.held → of_aside v.set_aside ≡ of_aside w.set_aside → Owes v n
    owes_quiet w v n ds q o e held aside = owes_more w v n n ds o e (omega (arith, q.claims_none, q.settles_none, held, aside))

    claims_step : (w v : Worker L) → Claims w v → Owes w 0 → Owes v 0
    claims_step w v (keeps why e) o = subst (λ x. Owes x 0) (sym e) o
    claims_step w v (finds_none going room e) o = subst (λ x. Owes x 0) (sym e) (owes_more w (does w (claims None)) 0 0 (claims None ∷ []) o refl refl)
    claims_step w v (claims_one h has_room going room runs more e) o =
        let push : of_held (w.held ++ h ∷ []) ≡ of_held w.held + one h.ticket = sum_by_push (λ (k : Held L). cond (p k.ticket) 1 0) w.held h in
        subst (λ x. Owes x 0) (sym e) (owes_more w (holds (does (record w { can_go_on = w.can_go_on || has_room }) (claims (Some h))) h) 0 0 (claims (Some h) ∷ []) o refl (omega (arith, push)))

    hands_in : (t : Ticket) (o : OutcomeValue) (f : Finish) (w : Worker L) (n : ℕ) → Owes w (one t + n) → Owes (handed_in t o f w) n
    hands_in t o recorded w n h = owes_more w (handed_in t o recorded w) (one t + n) n _ h refl (omega arith)
    hands_in t o stale w n h = owes_more w (handed_in t o stale w) (one t + n) n _ h refl (omega arith)
    hands_in t o unseated w n h = owes_more w (handed_in t o unseated w) (one t + n) n _ h refl (omega arith)
    hands_in t o lacking w n h =
        let s : SetAside = record { ticket = t; outcome = o } in
        let push : of_aside (w.set_aside ++ s ∷ []) ≡ of_aside w.set_aside + one t = sum_by_push (λ (k : SetAside). cond (p k.ticket) 1 0) w.set_aside s in
        owes_more w (handed_in t o lacking w) (one t + n) n _ h refl (omega (arith, push))

    -- one after another, each of which settles its own
    each_owes : {X : Type 0} (Step : X → Worker L → Worker L → Type 0) (of : X → ℕ) → ((x : X) (w v : Worker L) (n : ℕ) → Step x w v → Owes w (of x + n) → Owes v n)
        → (xs : List X) (w v : Worker L) (n : ℕ) → Each Step xs w v → Owes w (sum_by of xs + n) → Owes v n
    each_owes Step of step [] w v n e o = subst (λ x. Owes x n) (sym e) (owes_is w _ n o (omega arith))
    each_owes Step of step (x ∷ xs) w v n (mid, one, rest) o =
        let split = sum_by-cons of x xs in
        each_owes Step of step xs mid v n rest (step x w mid (sum_by of xs + n) one (owes_is w _ _ o (omega (arith, split))))

    retries_step : (s : SetAside) (w v : Worker L) (n : ℕ) → Retries s w v → Owes w (one s.ticket + n) → Owes v n
    retries_step s w v n (f, e) o = subst (λ x. Owes x n) (sym e) (hands_in s.ticket s.outcome f w n o)

    -- one that is given back is settled, whatever the answer is
    gives_back_step : (h : Held L) (r : Return) (w : Worker L) (n : ℕ) → Owes w (one h.ticket + n) → Owes (does w (gives_back h r)) n
    gives_back_step h returned w n o = owes_more w (does w (gives_back h returned)) (one h.ticket + n) n _ o refl (omega arith)
    gives_back_step h ended_before w n o = owes_more w (does w (gives_back h ended_before)) (one h.ticket + n) n _ o refl (omega arith)
    gives_back_step h unreturned w n o = owes_more w (does w (gives_back h unreturned)) (one h.ticket + n) n _ o refl (omega arith)

    gives_step : (h : Held L) (w v : Worker L) (n : ℕ) → GivesBack h w v → Owes w (one h.ticket + n) → Owes v n
    gives_step h w v n (holds_on started e) o =
        let push : of_held (w.held ++ h ∷ []) ≡ of_held w.held + one h.ticket = sum_by_push (λ (k : Held L). cond (p k.ticket) 1 0) w.held h in
        subst (λ x. Owes x n) (sym e) (owes_more w (holds w h) (one h.ticket + n) n [] o (sym (append-nil w.did)) (omega (arith, push)))
    gives_step h w v n (returns r unstarted e) o = subst (λ x. Owes x n) (sym e) (gives_back_step h r w n o)

    stops_step : (stop already : Bool) (w v : Worker L) → Stops stop already w v → Owes w 0 → Owes v 0
    stops_step false already w v e o = subst (λ x. Owes x 0) (sym e) o
    stops_step true true w v e o = subst (λ x. Owes x 0) (sym e) o
    stops_step true false w v each o =
        each_owes GivesBack (λ (h : Held L). cond (p h.ticket) 1 0) gives_step w.held (record w { is_stopping = true; held = [] }) v 0 each
        (owes_more w (record w { is_stopping = true; held = [] }) 0 _ [] o (sym (append-nil w.did)) (omega arith))

    settles_step : (h : Held L) (goes delayed : Bool) (w v : Worker L) (how : How) (n : ℕ) → Settles h goes delayed w v how → Owes w (one h.ticket + n) → Owes v n
    settles_step h goes delayed w v waits n (wants, is, e) o =
        let push : of_held (w.held ++ h ∷ []) ≡ of_held w.held + one h.ticket = sum_by_push (λ (k : Held L). cond (p k.ticket) 1 0) w.held h in
        subst (λ x. Owes x n) (sym e) (owes_more w (holds (record w { can_go_on = w.can_go_on || (goes && (not delayed && wants)) }) h) (one h.ticket + n) n [] o (sym (append-nil w.did)) (omega (arith, push)))
    settles_step h goes delayed w v asks n e o =
        let push : of_held (w.held ++ h ∷ []) ≡ of_held w.held + one h.ticket = sum_by_push (λ (k : Held L). cond (p k.ticket) 1 0) w.held h in
        subst (λ x. Owes x n) (sym e) (owes_more w (holds (record w { can_go_on = w.can_go_on || goes }) h) (one h.ticket + n) n [] o (sym (append-nil w.did)) (omega (arith, push)))
    settles_step h goes delayed w v (ends out) n (f, e) o = subst (λ x. Owes x n) (sym e) (hands_in h.ticket out f w n o)

    module _ (history : L → List Answer) (token_of : L → ℕ) where
      looks_step : (now : ℕ) (h : Held L) (w v : Worker L) (n : ℕ) → LooksAt history token_of now h w v → Owes w (one h.ticket + n) → Owes v n
      looks_step now h w v n (lets_go r e) o =
          let mid : Worker L = does w (looks h.ticket (Some look.Gone)) in
          let q = quiet-looks h.ticket (Some look.Gone) in
          subst (λ x. Owes x n) (sym e) (gives_back_step h r mid n (owes_quiet w mid (one h.ticket + n) _ q o refl refl refl))
      looks_step now h w v n (serves seen room offered ready new idle left said went how ne makes ready_is steps delivers keeping settles) o =
          let ds = looks h.ticket seen ∷ notes h.ticket h.slot (received_of new) ∷ [] in
          let q : IsQuiet ds = quiet-append (looks h.ticket seen ∷ []) _ (quiet-looks h.ticket seen) (quiet-notes h.ticket h.slot (received_of new)) in
          let mid : Worker L = record w { idle = left; did = w.did ++ ds; said = w.said ++ said } in
          settles_step (record h { transfer = unlinked new }) _ _ mid v how n settles (owes_quiet w mid (one h.ticket + n) ds q o refl refl refl)

      through_step : (last : ℕ) (v : Worker L) (at : ℕ) (new : Bool) (todo : List (Held L)) (w : Worker L) → GoesThrough history token_of last v at new todo w → Owes w (of_held todo) → Owes v 0
      through_step last v at new todo w (through is_new) o = o
      through_step last v at new todo w (due {mid = mid} now is_new earlier later h d looked rest) o =
          let a = sum_by-append (λ (k : Held L). cond (p k.ticket) 1 0) earlier (h ∷ later) in
          let b = sum_by-cons (λ (k : Held L). cond (p k.ticket) 1 0) h later in
          let c = sum_by-append (λ (k : Held L). cond (p k.ticket) 1 0) earlier later in
          through_step last v now false (earlier ++ later) mid rest (looks_step now h w mid (of_held (earlier ++ later)) looked (owes_is w _ _ o (omega (arith, a, b, c))))
      through_step last v at new todo w (asks_time now since left none rest) o =
          let told_more : Worker L = hears w (told since) in
          through_step last v since true left told_more rest (owes_more w told_more (of_held left) (of_held left) [] o (sym (append-nil w.did)) (omega arith))
      through_step last v at new todo w (next {mid = mid} now h later none looked rest) o =
          let b = sum_by-cons (λ (k : Held L). cond (p k.ticket) 1 0) h later in
          through_step last v now false later mid rest (looks_step now h w mid (of_held later) looked (owes_is w _ _ o (omega (arith, b))))

      turn_step : (w v : Worker L) → WorkerTurn history token_of w v → Owes w 0 → Owes v 0
      turn_step w v t o =
          let begun : Worker L = relieves t.lacks (hears (record w { can_go_on = false }) (told t.now)) in
          let at_claimed = claims_step begun t.claimed t.claim o in
          let emptied : Worker L = record t.claimed { set_aside = [] } in
          let at_emptied : Owes emptied (of_aside t.claimed.set_aside + 0) = owes_more t.claimed emptied 0 _ [] at_claimed (sym (append-nil t.claimed.did)) (omega arith) in
          let at_tried : Owes t.tried 0 = each_owes Retries (λ (s : SetAside). cond (p s.ticket) 1 0) retries_step t.claimed.set_aside emptied t.tried 0 t.retries at_emptied in
          let laid : Worker L = record t.tried { held = [] } in
          let at_laid : Owes laid (of_held t.tried.held) = owes_more t.tried laid 0 _ [] at_tried (sym (append-nil t.tried.did)) (omega arith) in
          let at_through = through_step t.last t.gone_through t.now true t.tried.held laid t.each at_laid in
          stops_step t.stop t.gone_through.is_stopping (hears t.gone_through (waited (wait_of t.last t.gone_through) t.stop)) v t.stops at_through

      run_owes : (w v : Worker L) → Runs history token_of w v → Owes w 0 → Owes v 0
      run_owes w v begins o = o
      run_owes w v (turns {m = m} run turn) o = turn_step m v turn (run_owes w m run o)

pub accounted : {L : Type 0} (history : L → List Answer) (token_of : L → ℕ) → EachClaimIsAccounted history token_of
accounted {L} history token_of limit said v run over p =
    let o = run_owes p history token_of (record (starts limit) { said = said }) v run (omega arith) in
    let held : of_held p v.held ≡ 0 = ap (of_held p) over.1 in
    let aside : of_aside p v.set_aside ≡ 0 = ap (of_aside p) over.2 in
    omega (arith, o, held, aside)
