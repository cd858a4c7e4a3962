-- What a worker's calls make of its seat, of the list of what was done with it, and of its counts.
use Rattle.std.proofs.Common.{◌≡◌, ◌∙◌, ◌⊎◌, inl, inr, ℕ, ◌+◌, ◌-◌, ◌^◌, List, [], ◌∷◌, ◌++◌, append-nil, append_assoc, length, length-append, map, refl, ap, sym, subst, arith, Option, Some, None}
use Rattle.std.specs.Prelude.{All, min, filter_map, option_map, MatchOption, IfSome, Result, Ok, Err, MatchResult, IfOk, OnErr}
use Rattle.std.proofs.lemmas.List.{map-append}
use Rattle.std.proofs.lemmas.List.Elements.{All-append, All-cons, All-nil, All-weaker, filter_map-append}
use Rattle.mx_types.specs.declared.names.Ticket.{Ticket}
use Rattle.mx_types.specs.declared.call.Call.{Call}
use Rattle.mx_types.specs.declared.call.Call.TheVariants as call
use Rattle.mx_types.specs.declared.call.Receipt.{Receipt}
use Rattle.mx_types.specs.declared.reply.Reply.{Reply}
use Rattle.mx_types.specs.declared.reply.Reply.TheVariants as reply
use Rattle.mx_types.specs.declared.reply.Look.{Look}
use Rattle.mx_request.specs.Request.{request_origin}
use Rattle.mx_chain.specs.Outcomes.{OutcomeValue, size_of}
use Rattle.logbook.specs.Pages.{Book}
use Rattle.mx_journal.specs.declared.replies.FinishReply.{FinishReply}
use Rattle.mx_journal.specs.declared.replies.FinishReply.TheVariants as finish
use Rattle.mx_journal.specs.declared.replies.GiveBackReply.{GiveBackReply}
use Rattle.mx_journal.specs.declared.replies.GiveBackReply.TheVariants as giving
use Rattle.mx_journal.specs.Replies.{IsHandedBack, reply_of_finish}
use Rattle.mx_multi.proofs.Runs.{later_none, later_more, later_sees}
use Rattle.mx_journal.specs.Slots.{slot_of}
use Rattle.mx_multi.specs.Seats.{SeatView, Stands, Sees, Later, FindsOther, ClaimsLeast, ClaimsNothing, given_with}
use Rattle.mx_multi.specs.Progress.{noted_by}
use Rattle.mx_chain.specs.Chains.{ChainState}
use Rattle.mx_turn.specs.Workers.{Held, Deed, Finish, starts, claims, looks, notes, finishes, gives_back, recorded, stale, lacking, unseated, returned, ended_before, unreturned}
use Rattle.mx_link.specs.declared.answers.Answer.{Answer}
use Rattle.mx_gate.specs.Said.{Said}
use Rattle.mx_turn.specs.Turn.{Runs}
use Rattle.mx_turn.proofs.Accounts.{accounted}
use Rattle.mx_turn.specs.Engines.{EndView, HandsIn, HeldView}
use Rattle.mx_worker_turns.specs.WorkerSteps.{HasRun}
use Rattle.mx_lock.specs.Ties.{TiedClaimed}
use Rattle.mx_turn.specs.Laws.{claimed_by, recorded_by, stale_by, given_back_by, unseated_by}
use Rattle.mx_worker.specs.Work.{AreCounted, AreHeld, FoundOther, IsDone, IsUncounted, WasQueued, WorkerRan, answered_by, claimed_whole, code_of, end_of, finish_call, finish_of, handed_back, held_count, noted_by_deed, return_of}

-- what a deed more adds to a list that is picked out of the deeds
picks_more : {D X : Type 0} (by : D → Option X) (ds : List D) (d : D) (old is start : List X) → old ≡ start ++ filter_map by ds → is ≡ old ++ filter_map by (d ∷ []) → is ≡ start ++ filter_map by (ds ++ d ∷ [])
picks_more by ds d old is start h e =
    e ∙ ap (λ l. l ++ filter_map by (d ∷ [])) h ∙ append_assoc start (filter_map by ds) (filter_map by (d ∷ [])) ∙ ap (λ l. start ++ l) (sym (filter_map-append by ds (d ∷ [])))

picks_same : {D X : Type 0} (by : D → Option X) (ds : List D) (d : D) → filter_map by (d ∷ []) ≡ [] → filter_map by (ds ++ d ∷ []) ≡ filter_map by ds
picks_same by ds d e = filter_map-append by ds (d ∷ []) ∙ ap (λ l. filter_map by ds ++ l) e ∙ append-nil (filter_map by ds)

abbrev Seat : Type 0 → Type 0
Seat Q = SeatView Q OutcomeValue

noted_on : {Q : Type 0} (t u : Seat Q) → (u ≡ t) ⊎ Sees t u → u.words.noted ≡ t.words.noted ++ []
noted_on {Q} t u (inl e) = ap (λ (v : Seat Q). v.words.noted) e ∙ sym (append-nil t.words.noted)
noted_on t u (inr h) = ap (λ w. w.noted) h.words ∙ sym (append-nil t.words.noted)

-- a seat that has noted a count
later_notes : {Q : Type 0} (s t : Seat Q) (slot : ℕ) (ticket : Ticket) (count : ℕ) (more : List Receipt) → Later s t more → Later s (noted_by t slot ticket count) more
later_notes s t slot ticket count more h = record {
  of = h.of;
  who = h.who;
  later = h.later;
  ties = h.ties;
  legal = h.legal;
  mine = h.mine;
  placed = λ p. let q = h.placed p in record { placed = q.placed; polled = q.polled };
}

-- what a seat did goes on from t to u, with these receipts
abbrev GoesOn : {Q : Type 0} → Seat Q → Seat Q → List Receipt → Type 0
GoesOn {Q} t u more = (x : Seat Q) (earlier : List Receipt) → Later x t earlier → Later x u (earlier ++ more)

-- the seat is as it was, or has seen a journal
later_on : {Q : Type 0} (t u : Seat Q) → (u ≡ t) ⊎ Sees t u → GoesOn t u []
later_on t u (inl e) = λ x earlier run. subst (λ l. Later x u l) (sym (append-nil earlier)) (subst (λ v. Later x v earlier) (sym e) run)
later_on t u (inr h) = λ x earlier run. subst (λ l. Later x u l) (sym (append-nil earlier)) (later_sees x t u earlier run h)

-- what was found is found for each longer run
found_on : {Q : Type 0} (s t u : Seat Q) (more : List Receipt) → GoesOn t u more → FoundOther s t → FoundOther s u
found_on s t u more on f = record { seat = f.seat; before = f.before; since = f.since; after = f.after ++ more; until = on f.seat f.after f.until; other = f.other }

abbrev Own : Type 0 → Type 0
Own L = Seat (ChainState L)

module _ {L : Type 0} where
  abbrev Done : Own L → Own L → List (Deed L) → Type 0
  Done s t did = IsDone s t did

  pub done_none : (s : Own L) → Done s s []
  done_none s = record {
    more = [];
    later = later_none s;
    answers = refl;
    claims = sym (append-nil s.claims);
    given = sym (append-nil s.given);
    noted = sym (append-nil s.words.noted);
    seated = inl refl;
    queued = All-nil (WasQueued s s);
  }

  -- what was lost
  seated_more : (s t u : Own L) (did : List (Deed L)) (d : Deed L) (more : List Receipt) → GoesOn t u more → (filter_map unseated_by did ≡ []) ⊎ FoundOther s t
      → (filter_map unseated_by (d ∷ []) ≡ []) ⊎ FindsOther code_of size_of t → (earlier : List Receipt) → Later s t earlier → (filter_map unseated_by (did ++ d ∷ []) ≡ []) ⊎ FoundOther s u
  seated_more s t u did d more on (inr f) _ earlier run = inr (found_on s t u more on f)
  seated_more s t u did d more on (inl e) (inr f) earlier run =
      inr (found_on s t u more on (record { seat = t; before = earlier; since = run; after = []; until = later_none t; other = f }))
  seated_more s t u did d more on (inl e) (inl k) earlier run = inl (picks_same unseated_by did d k ∙ e)

  -- what was claimed
  queued_on : (s t u : Own L) (more : List Receipt) → GoesOn t u more → (h : Held L) → WasQueued s t h → WasQueued s u h
  queued_on s t u more on h q = record {
    seat = q.seat;
    before = q.before;
    since = q.since;
    after = q.after ++ more;
    until = on q.seat q.after q.until;
    work = q.work;
    claimed = q.claimed;
    same = q.same;
    slot = q.slot;
  }

  no_claim : (s u : Own L) (d : Deed L) → filter_map claimed_whole (d ∷ []) ≡ [] → All (WasQueued s u) (filter_map claimed_whole (d ∷ []))
  no_claim s u d e = subst (All (WasQueued s u)) (sym e) (All-nil (WasQueued s u))

  -- one deed more
  done_more : (s t u : Own L) (did : List (Deed L)) (d : Deed L) (more : List Receipt) (w : Done s t did)
      → GoesOn t u more
      → map (λ (r : Receipt). (r.call, r.reply)) more ≡ filter_map answered_by (d ∷ [])
      → u.claims ≡ t.claims ++ filter_map claimed_by (d ∷ [])
      → u.given ≡ t.given ++ filter_map given_back_by (d ∷ [])
      → u.words.noted ≡ t.words.noted ++ filter_map noted_by_deed (d ∷ [])
      → (filter_map unseated_by (d ∷ []) ≡ []) ⊎ FindsOther code_of size_of t
      → All (WasQueued s u) (filter_map claimed_whole (d ∷ []))
      → Done s u (did ++ d ∷ [])
  done_more s t u did d more w on answers claimed given noted seated queued = record {
    more = w.more ++ more;
    later = on s w.more w.later;
    answers = map-append (λ (r : Receipt). (r.call, r.reply)) w.more more ∙ ap (λ l. l ++ map (λ (r : Receipt). (r.call, r.reply)) more) w.answers
        ∙ ap (λ l. filter_map answered_by did ++ l) answers ∙ sym (filter_map-append answered_by did (d ∷ []));
    claims = picks_more claimed_by did d t.claims u.claims s.claims w.claims claimed;
    given = picks_more given_back_by did d t.given u.given s.given w.given given;
    noted = picks_more noted_by_deed did d t.words.noted u.words.noted s.words.noted w.noted noted;
    seated = seated_more s t u did d more on w.seated seated w.more w.later;
    queued = subst (All (WasQueued s u)) (sym (filter_map-append claimed_whole did (d ∷ [])))
        (All-append (WasQueued s u) (filter_map claimed_whole did) (filter_map claimed_whole (d ∷ []))
        (All-weaker (WasQueued s t) (WasQueued s u) (queued_on s t u more on) (filter_map claimed_whole did) w.queued) queued);
  }

  -- it asked for work, and there was none
  pub done_claims_none : (s t u : Own L) (did : List (Deed L)) → Done s t did → (u ≡ t) ⊎ Sees t u → u.claims ≡ t.claims → u.given ≡ t.given → Done s u (did ++ claims None ∷ [])
  done_claims_none s t u did w h claimed given =
      done_more s t u did _ [] w (later_on t u h) refl (claimed ∙ sym (append-nil t.claims)) (given ∙ sym (append-nil t.given)) (noted_on t u h) (inl refl) (All-nil (WasQueued s u))

  -- and was given some
  pub done_claims : (s t u : Own L) (did : List (Deed L)) (h : Held L) (work : ChainState L) → Done s t did → ClaimsLeast code_of size_of u h.ticket work → h.transfer ≡ work → slot_of h.ticket u.seen ≡ Some h.slot
      → Sees t u → u.claims ≡ t.claims ++ h.ticket ∷ [] → u.given ≡ t.given → Done s u (did ++ claims (Some h) ∷ [])
  done_claims s t u did h work w least same slot sees claimed given =
      let on = later_on t u (inr sees) in
      done_more s t u did _ [] w on refl claimed (given ∙ sym (append-nil t.given)) (noted_on t u (inr sees)) (inl refl)
      (All-cons (WasQueued s u) h [] (record {
        seat = u;
        before = w.more ++ [];
        since = on s w.more w.later;
        after = [];
        until = later_none u;
        work = work;
        claimed = least;
        same = same;
        slot = slot;
      }) (All-nil (WasQueued s u)))

  -- the seat is as it was
  as_it_was : (s t u : Own L) (did : List (Deed L)) (d : Deed L) → Done s t did → u ≡ t → filter_map answered_by (d ∷ []) ≡ [] → filter_map claimed_by (d ∷ []) ≡ [] → filter_map given_back_by (d ∷ []) ≡ []
      → filter_map noted_by_deed (d ∷ []) ≡ [] → filter_map claimed_whole (d ∷ []) ≡ [] → (filter_map unseated_by (d ∷ []) ≡ []) ⊎ FindsOther code_of size_of t → Done s u (did ++ d ∷ [])
  as_it_was s t u did d w e answers claimed given noted whole seated =
      done_more s t u did d [] w (later_on t u (inl e)) (sym answers)
      (ap (λ (v : Own L). v.claims) e ∙ sym (append-nil t.claims) ∙ ap (λ l. t.claims ++ l) (sym claimed))
      (ap (λ (v : Own L). v.given) e ∙ sym (append-nil t.given) ∙ ap (λ l. t.given ++ l) (sym given))
      (ap (λ (v : Own L). v.words.noted) e ∙ sym (append-nil t.words.noted) ∙ ap (λ l. t.words.noted ++ l) (sym noted))
      seated (no_claim s u d whole)

  -- no version could be read
  pub done_looks_none : (s t u : Own L) (did : List (Deed L)) (ticket : Ticket) → Done s t did → u ≡ t → Done s u (did ++ looks ticket None ∷ [])
  done_looks_none s t u did ticket w e = as_it_was s t u did _ w e refl refl refl refl refl (inl refl)

  -- a call was answered
  answered : (s t u : Own L) (did : List (Deed L)) (d : Deed L) (c : Call) (r : Reply) → Done s t did → Stands t u c r → filter_map answered_by (d ∷ []) ≡ (c, r) ∷ []
      → filter_map claimed_by (d ∷ []) ≡ [] → filter_map given_back_by (d ∷ []) ≡ [] → filter_map noted_by_deed (d ∷ []) ≡ [] → filter_map unseated_by (d ∷ []) ≡ [] → filter_map claimed_whole (d ∷ []) ≡ [] → Done s u (did ++ d ∷ [])
  answered s t u did d c r w h answers claimed given noted seated whole =
      done_more s t u did d (record { cut = length u.seen; call = c; reply = r } ∷ []) w (λ x earlier run. later_more x t u earlier c r run h) (sym answers)
      (h.claims ∙ sym (append-nil t.claims) ∙ ap (λ l. t.claims ++ l) (sym claimed))
      (h.given ∙ sym (append-nil t.given) ∙ ap (λ l. t.given ++ l) (sym given))
      (ap (λ x. x.noted) h.words ∙ sym (append-nil t.words.noted) ∙ ap (λ l. t.words.noted ++ l) (sym noted))
      (inl seated) (no_claim s u d whole)

  pub done_looks : (s t u : Own L) (did : List (Deed L)) (ticket : Ticket) (look : Look) → Done s t did → Stands t u (call.Look ticket) (reply.Look look) → Done s u (did ++ looks ticket (Some look) ∷ [])
  done_looks s t u did ticket look w h = answered s t u did _ _ _ w h refl refl refl refl refl refl

  -- a ticket was looked at
  pub done_looked : (s t u : Own L) (did : List (Deed L)) (ticket : Ticket) (seen : Option Look) → Done s t did → MatchOption seen (u ≡ t) (λ l. Stands t u (call.Look ticket) (reply.Look l)) → Done s u (did ++ looks ticket seen ∷ [])
  done_looked s t u did ticket None w e = done_looks_none s t u did ticket w e
  done_looked s t u did ticket (Some l) w h = done_looks s t u did ticket l w h

  pub done_recorded : (s t u : Own L) (did : List (Deed L)) (ticket : Ticket) (o : OutcomeValue) → Done s t did → Stands t u (finish_call ticket o) reply.Recorded → Done s u (did ++ finishes ticket o recorded ∷ [])
  done_recorded s t u did ticket o w h = answered s t u did _ _ _ w h refl refl refl refl refl refl

  pub done_stale : (s t u : Own L) (did : List (Deed L)) (ticket : Ticket) (o : OutcomeValue) → Done s t did → Stands t u (finish_call ticket o) reply.Stale → Done s u (did ++ finishes ticket o stale ∷ [])
  done_stale s t u did ticket o w h = answered s t u did _ _ _ w h refl refl refl refl refl refl

  pub done_lacking : (s t u : Own L) (did : List (Deed L)) (ticket : Ticket) (o : OutcomeValue) → Done s t did → Stands t u (finish_call ticket o) reply.OutOfMemory → Done s u (did ++ finishes ticket o lacking ∷ [])
  done_lacking s t u did ticket o w h = answered s t u did _ _ _ w h refl refl refl refl refl refl

  -- the journal in the lock was another
  pub done_unseated : (s t u : Own L) (did : List (Deed L)) (ticket : Ticket) (o : OutcomeValue) → Done s t did → u ≡ t → FindsOther code_of size_of t → Done s u (did ++ finishes ticket o unseated ∷ [])
  done_unseated s t u did ticket o w e f = as_it_was s t u did _ w e refl refl refl refl refl (inr f)

  pub done_unreturned : (s t u : Own L) (did : List (Deed L)) (h : Held L) → Done s t did → u ≡ t → FindsOther code_of size_of t → Done s u (did ++ gives_back h unreturned ∷ [])
  done_unreturned s t u did h w e f = as_it_was s t u did _ w e refl refl refl refl refl (inr f)

  -- work went back
  pub done_returned : (s t u : Own L) (did : List (Deed L)) (h : Held L) (ticket : Ticket) → Done s t did → h.ticket ≡ ticket → Sees t u → u.claims ≡ t.claims → u.given ≡ t.given ++ ticket ∷ [] → Done s u (did ++ gives_back h returned ∷ [])
  done_returned s t u did h ticket w is sees claimed given =
      done_more s t u did _ [] w (later_on t u (inr sees)) refl (claimed ∙ sym (append-nil t.claims)) (given ∙ ap (λ x. t.given ++ x ∷ []) (sym is)) (noted_on t u (inr sees)) (inl refl) (All-nil (WasQueued s u))

  pub done_ended_before : (s t u : Own L) (did : List (Deed L)) (h : Held L) → Done s t did → Sees t u → u.claims ≡ t.claims → u.given ≡ t.given → Done s u (did ++ gives_back h ended_before ∷ [])
  done_ended_before s t u did h w sees claimed given =
      done_more s t u did _ [] w (later_on t u (inr sees)) refl (claimed ∙ sym (append-nil t.claims)) (given ∙ sym (append-nil t.given)) (noted_on t u (inr sees)) (inl refl) (All-nil (WasQueued s u))

  -- a count was noted
  pub done_notes : (s t u : Own L) (did : List (Deed L)) (slot : ℕ) (ticket : Ticket) (count : ℕ) → Done s t did → u ≡ noted_by t slot ticket count → Done s u (did ++ notes ticket slot count ∷ [])
  done_notes s t u did slot ticket count w e = subst (λ v. Done s v (did ++ notes ticket slot count ∷ [])) (sym e)
      (done_more s t (noted_by t slot ticket count) did _ [] w (λ x earlier run. subst (λ l. Later x (noted_by t slot ticket count) l) (sym (append-nil earlier)) (later_notes x t slot ticket count earlier run))
      refl (sym (append-nil t.claims)) (sym (append-nil t.given)) refl (inl refl) (All-nil (WasQueued s (noted_by t slot ticket count))))

-- the counts after a deed that none of them counts
module _ {L : Type 0} where
  pub counts_none : AreCounted {L = L} [] 0 0 0
  counts_none = record { recorded_is = refl; stale_is = refl; given_back_is = refl }

  count_same : (by : Deed L → Option Ticket) (did : List (Deed L)) (d : Deed L) (n : ℕ) → filter_map by (d ∷ []) ≡ [] → n ≡ held_count (filter_map by did) → n ≡ held_count (filter_map by (did ++ d ∷ []))
  count_same by did d n e h = h ∙ ap held_count (sym (picks_same by did d e))

  count_more : (by : Deed L → Option Ticket) (did : List (Deed L)) (d : Deed L) (t : Ticket) (n k : ℕ) → filter_map by (d ∷ []) ≡ t ∷ [] → n ≡ held_count (filter_map by did) → k ≡ min (n + 1) (2 ^ 32 - 1) → k ≡ held_count (filter_map by (did ++ d ∷ []))
  count_more by did d t n k e h is =
      let l : length (filter_map by (did ++ d ∷ [])) ≡ length (filter_map by did) + 1 = ap length (filter_map-append by did (d ∷ [])) ∙ length-append (filter_map by did) (filter_map by (d ∷ [])) ∙ ap (λ x. length (filter_map by did) + length x) e in
      omega (arith, h, is, l)

  pub counts_same : (did : List (Deed L)) (d : Deed L) (r k g : ℕ) → AreCounted did r k g → filter_map recorded_by (d ∷ []) ≡ [] → filter_map stale_by (d ∷ []) ≡ [] → filter_map given_back_by (d ∷ []) ≡ [] → AreCounted (did ++ d ∷ []) r k g
  counts_same did d r k g c a b e = record {
    recorded_is = count_same recorded_by did d r a c.recorded_is;
    stale_is = count_same stale_by did d k b c.stale_is;
    given_back_is = count_same given_back_by did d g e c.given_back_is;
  }

  pub counts_recorded : (did : List (Deed L)) (ticket : Ticket) (o : OutcomeValue) (r k g n : ℕ) → AreCounted did r k g → n ≡ min (r + 1) (2 ^ 32 - 1) → AreCounted (did ++ finishes ticket o recorded ∷ []) n k g
  counts_recorded did ticket o r k g n c e = record {
    recorded_is = count_more recorded_by did _ ticket r n refl c.recorded_is e;
    stale_is = count_same stale_by did _ k refl c.stale_is;
    given_back_is = count_same given_back_by did _ g refl c.given_back_is;
  }

  pub counts_stale : (did : List (Deed L)) (ticket : Ticket) (o : OutcomeValue) (r k g n : ℕ) → AreCounted did r k g → n ≡ min (k + 1) (2 ^ 32 - 1) → AreCounted (did ++ finishes ticket o stale ∷ []) r n g
  counts_stale did ticket o r k g n c e = record {
    recorded_is = count_same recorded_by did _ r refl c.recorded_is;
    stale_is = count_more stale_by did _ ticket k n refl c.stale_is e;
    given_back_is = count_same given_back_by did _ g refl c.given_back_is;
  }

  pub counts_returned : (did : List (Deed L)) (h : Held L) (r k g n : ℕ) → AreCounted did r k g → n ≡ min (g + 1) (2 ^ 32 - 1) → AreCounted (did ++ gives_back h returned ∷ []) r k n
  counts_returned did h r k g n c e = record {
    recorded_is = count_same recorded_by did _ r refl c.recorded_is;
    stale_is = count_same stale_by did _ k refl c.stale_is;
    given_back_is = count_more given_back_by did _ h.ticket g n refl c.given_back_is e;
  }

-- a deed more, as a call reported it
pub with_last : {L : Type 0} (P : List (Deed L) → Type 0) (did is : List (Deed L)) (told d : Deed L) → is ≡ did ++ told ∷ [] → told ≡ d → P (did ++ d ∷ []) → P is
with_last P did is told d e f p = subst P (sym (e ∙ ap (λ x. did ++ x ∷ []) f)) p

module _ {L : Type 0} where
  -- an end was handed in
  pub done_finish : {W : Type 0} (P : W → Type 0) (s t u : Own L) (did : List (Deed L)) (e : EndView) (claim right : TiedClaimed) (o : OutcomeValue) (answer : Result (FinishReply TiedClaimed OutcomeValue) W) → IsDone s t did
      → e ≡ record { end = record { ticket = right.ticket; outcome = o }; of = right.of } → claim ≡ right
      → MatchResult answer (λ r. Stands t u (finish_call claim.ticket o) (reply_of_finish r)) (λ w. (u ≡ t) × P w) → OnErr answer (FindsOther code_of size_of t)
      → IsDone s u (did ++ finishes e.end.ticket e.end.outcome (finish_of answer) ∷ [])
  done_finish {W} P s t u did e claim right o answer w e_is own stands other =
      subst (λ (x : EndView). IsDone s u (did ++ finishes x.end.ticket x.end.outcome (finish_of answer) ∷ [])) (sym e_is)
      (subst (λ (x : TiedClaimed). IsDone s u (did ++ finishes x.ticket o (finish_of answer) ∷ [])) own (by answer stands other)) where
        by : (a : Result (FinishReply TiedClaimed OutcomeValue) W) → MatchResult a (λ r. Stands t u (finish_call claim.ticket o) (reply_of_finish r)) (λ w. (u ≡ t) × P w) → OnErr a (FindsOther code_of size_of t)
            → IsDone s u (did ++ finishes claim.ticket o (finish_of a) ∷ [])
        by (Ok finish.Recorded) st _ = done_recorded s t u did claim.ticket o w st
        by (Ok (finish.Stale _)) st _ = done_stale s t u did claim.ticket o w st
        by (Ok (finish.OutOfMemory _ _)) st _ = done_lacking s t u did claim.ticket o w st
        by (Err _) st f = done_unseated s t u did claim.ticket o w st.0 f

  -- a transfer was given back
  pub done_return : {W X : Type 0} (P : W → Type 0) (s t u : Own L) (did : List (Deed L)) (h : Held L) (ticket : Ticket) (answer : Result (GiveBackReply X) W) → IsDone s t did → h.ticket ≡ ticket
      → MatchResult answer (λ r. Sees t u) (λ w. (u ≡ t) × P w) → u.claims ≡ t.claims → IfOk answer (λ r. u.given ≡ given_with r ticket t.given) → OnErr answer (FindsOther code_of size_of t)
      → IsDone s u (did ++ gives_back h (return_of answer) ∷ [])
  done_return P s t u did h ticket (Ok giving.Back) w is sees claimed given _ = done_returned s t u did h ticket w is sees claimed given
  done_return P s t u did h ticket (Ok (giving.Stale _)) w is sees claimed given _ = done_ended_before s t u did h w sees claimed given
  done_return P s t u did h ticket (Err _) w is sees claimed given f = done_unreturned s t u did h w sees.0 f

  -- it asked for work
  pub done_claimed : (s t u : Own L) (did : List (Deed L)) (claimed : Option (TiedClaimed × ChainState L)) (held : Option (HeldView L)) → IsDone s t did → AreHeld claimed held
      → MatchOption claimed ((u ≡ t) ⊎ Sees t u) (λ r. Sees t u) → MatchOption claimed (u.claims ≡ t.claims) (λ r. u.claims ≡ t.claims ++ r.0.ticket ∷ []) → u.given ≡ t.given
      → MatchOption claimed ((u ≡ t) ⊎ ClaimsNothing code_of size_of u) (λ r. ClaimsLeast code_of size_of u r.0.ticket r.1) → IfSome claimed (λ r. slot_of r.0.ticket u.seen ≡ Some r.0.slot)
      → IsDone s u (did ++ claims (option_map (λ h. h.held) held) ∷ [])
  done_claimed s t u did (Some (c, work)) (Some h) w are sees claimed given least slot =
      subst (λ x. IsDone s u (did ++ claims (Some x) ∷ [])) (sym are.0)
      (done_claims s t u did (record { ticket = c.ticket; slot = c.slot; transfer = work }) work w least refl slot sees claimed given)
  done_claimed s t u did None None w are sees claimed given least slot = done_claims_none s t u did w sees claimed given
  done_claimed s t u did (Some _) None w are sees claimed given least slot = absurd are
  done_claimed s t u did None (Some _) w are sees claimed given least slot = absurd are

-- what is held is of the claim's engine
pub held_own : {L : Type 0} (claimed : Option (TiedClaimed × ChainState L)) (held : Option (HeldView L)) (b k : Book) → AreHeld claimed held → IfSome claimed (λ r. r.0.of ≡ b) → b ≡ k → IfSome held (λ h. h.of ≡ k)
held_own (Some (c, _)) (Some h) b k are own e = are.1 ∙ own ∙ e
held_own None None b k are own e = tt
held_own (Some _) None b k are own e = absurd are
held_own None (Some _) b k are own e = absurd are

-- what comes back of an end is of one request
pub back_own : {W : Type 0} (claim right : TiedClaimed) (o : OutcomeValue) (answer : Result (FinishReply TiedClaimed OutcomeValue) W) → IfOk answer (IsHandedBack claim o) → claim ≡ right → request_origin o.request ≡ right.origin
    → IfSome (handed_back answer) (λ r. request_origin r.1.request ≡ r.0.origin)
back_own claim right o (Ok finish.Recorded) handed own of = tt
back_own claim right o (Ok (finish.Stale _)) handed own of = tt
back_own claim right o (Ok (finish.OutOfMemory c x)) handed own of =
    ap (λ (y : OutcomeValue). request_origin y.request) handed.1 ∙ of ∙ ap (λ (t : TiedClaimed). t.origin) (sym (handed.0 ∙ own))
back_own claim right o (Err _) handed own of = tt

-- an end comes back where memory was refused for it, and only there
pub hands_in_so : {L W : Type 0} (was is : List (Deed L)) (noted e : EndView) (claim right : TiedClaimed) (o : OutcomeValue) (answer : Result (FinishReply TiedClaimed OutcomeValue) W) (back : Option EndView)
    → is ≡ was ++ finishes noted.end.ticket noted.end.outcome (finish_of answer) ∷ [] → noted ≡ e → back ≡ option_map end_of (handed_back answer) → IfOk answer (IsHandedBack claim o)
    → e ≡ record { end = record { ticket = right.ticket; outcome = o }; of = right.of } → claim ≡ right → HandsIn was is e back
hands_in_so {L} {W} was is noted e claim right o answer back did noted_is b handed e_is own = by answer (did ∙ ap (λ (x : EndView). was ++ finishes x.end.ticket x.end.outcome (finish_of answer) ∷ []) noted_is) b handed where
  taken : (f : Finish) → (f ≡ lacking → ⊥) → is ≡ was ++ finishes e.end.ticket e.end.outcome f ∷ [] → back ≡ None → HandsIn was is e back
  taken f other d n = record { f = f; did = d; comes_back = λ x. absurd (other x); is_taken = λ _. n }

  none : ((lacking ≡ recorded) ⊎ (lacking ≡ stale)) ⊎ (lacking ≡ unseated) → back ≡ None
  none (inl (inl x)) = absurd cc
  none (inl (inr x)) = absurd cc
  none (inr x) = absurd cc

  by : (a : Result (FinishReply TiedClaimed OutcomeValue) W) → is ≡ was ++ finishes e.end.ticket e.end.outcome (finish_of a) ∷ [] → back ≡ option_map end_of (handed_back a) → IfOk a (IsHandedBack claim o) → HandsIn was is e back
  by (Ok finish.Recorded) d n _ = taken recorded (λ x. cc) d n
  by (Ok (finish.Stale _)) d n _ = taken stale (λ x. cc) d n
  by (Ok (finish.OutOfMemory c x)) d n h = record {
    f = lacking;
    did = d;
    comes_back = λ _.
        n ∙ ap Some (ap (λ (t : TiedClaimed). record { end = record { ticket = t.ticket; outcome = x }; of = t.of }) (h.0 ∙ own) ∙ ap (λ y. record { end = record { ticket = right.ticket; outcome = y }; of = right.of }) h.1 ∙ sym e_is);
    is_taken = none;
  }
  by (Err _) d n _ = taken unseated (λ x. cc) d n

-- a deed that isn't counted, as a call reported it
pub uncounted : {L : Type 0} (told d : Deed L) → told ≡ d → IsUncounted d → IsUncounted told
uncounted told d e p = subst IsUncounted (sym e) p

-- a run of an engine that was a seat, from its start on
pub ran : {L : Type 0} (history : L → List Answer) (token_of : L → ℕ) (s t : Own L) (limit : ℕ) (did : List (Deed L)) (was is : List Said) (r k g : ℕ)
    → limit ≡ s.of.limits.max_connects → HasRun history token_of limit [] did was is → IsDone s t did → AreCounted did r k g → WorkerRan history token_of s t was is r k g
ran history token_of s t limit did was is r k g e h done counted =
    let run = subst (λ n. Runs history token_of (record (starts n) { said = was }) h.last) e h.run in
    record {
      last = h.last;
      run = run;
      over = h.over;
      said = h.said_is;
      done = subst (IsDone s t) h.did_is done;
      accounted = accounted history token_of s.of.limits.max_connects was h.last run h.over;
      counted = subst (λ d. AreCounted d r k g) h.did_is counted;
    }
