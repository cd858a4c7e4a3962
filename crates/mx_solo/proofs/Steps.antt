-- Steps of the core, one after another.
use Rattle.std.proofs.Common.{◌≡◌, ℕ, Bool, true, false, List, [], ◌∷◌, ◌++◌, Option, Some, None, refl, sym, ap, subst, ◌∙◌}
use Rattle.std.specs.Prelude.{IsSome}
use Rattle.mx_types.specs.declared.names.Ticket.{Ticket}
use Rattle.mx_link.specs.declared.answers.Answer.{Answer}
use Rattle.mx_gate.specs.Said.{Said}
use Rattle.mx_chain.specs.Outcomes.{OutcomeValue}
use Rattle.mx_turn.specs.Engines.{EndView, HandsIn}
use Rattle.mx_turn.specs.Workers.{Worker, Deed, Held, claims, notes, finishes, recorded, stale, lacking, gives_back}
use Rattle.mx_turn.specs.Turn.{Each}
use Rattle.mx_types.specs.declared.origin.Origin.{Origin}
use Rattle.mx_request.specs.Request.{request_origin}
use Rattle.mx_chain.specs.Chains.{ChainState, IsChain}
use Rattle.mx_history.specs.Slots.{slot_of}
use Rattle.mx_journal.specs.Core.{Claimed, one_out, origin_of}
use Rattle.mx_solo.specs.Owning.{IsOwn}
use Rattle.mx_solo.proofs.Requests.{begins_right}
use Rattle.mx_solo.specs.Seats.{OneCore, Claims, Does, DoesAt, Ends, GivesBack, Performs, TurnsOn, finish_by, reply_of_end, return_by, there, unnoted}
use Rattle.mx_worker_turns.specs.WorkerSteps.{beside}

-- one step more, which is noted as this
pub each_more : {X W : Type 0} (Step : X → W → W → Type 0) (xs all : List X) (x y : X) (w v u : W) → Each Step xs w v → Step x v u → all ≡ xs ++ y ∷ [] → y ≡ x → Each Step all w u
each_more {X} {W} Step xs all x y w v u before last is same = subst (λ l. Each Step l w u) (sym (is ∙ ap (λ z. xs ++ z ∷ []) same)) (more xs w before) where
  more : (ys : List X) (a : W) → Each Step ys a v → Each Step (ys ++ x ∷ []) a u
  more [] a e = (u, subst (λ y. Step x y u) e last, refl)
  more (y ∷ ys) a (mid, first, rest) = (mid, first, more ys mid rest)

module _ {L : Type 0} where
  -- a count that is noted changes nothing
  pub notes_at : (t : Ticket) (slot count : ℕ) (core : Option (OneCore L)) → DoesAt {L = L} (notes t slot count) core core
  notes_at t slot count (Some c) = refl
  notes_at t slot count None = tt

  -- an end, by what became of it
  pub ends_at : (t : Ticket) (o : OutcomeValue) (b : Bool) (c d : OneCore L) → Ends t o (reply_of_end b) c d → Does (finishes t o (finish_by b)) c d
  ends_at t o true c d e = e
  ends_at t o false c d e = e

  pub gives_at : (h : Held L) (b : Bool) (c d : OneCore L) → GivesBack h b c d → Does (gives_back h (return_by b)) c d
  gives_at h true c d e = e
  gives_at h false c d e = e

  -- the same, where the core is there
  pub ends_there : (t : Ticket) (o : OutcomeValue) (b : Bool) (core : Option (OneCore L)) (c d : OneCore L) → core ≡ Some c → Ends t o (reply_of_end b) c d → DoesAt (finishes t o (finish_by b)) core (Some d)
  ends_there t o b core c d there e = subst (λ x. DoesAt (finishes t o (finish_by b)) x (Some d)) (sym there) (ends_at t o b c d e)

  pub gives_there : (h : Held L) (b : Bool) (core : Option (OneCore L)) (c d : OneCore L) → core ≡ Some c → GivesBack h b c d → DoesAt (gives_back h (return_by b)) core (Some d)
  gives_there h b core c d there e = subst (λ x. DoesAt (gives_back h (return_by b)) x (Some d)) (sym there) (gives_at h b c d e)

  core_is : (d : OneCore L) (c : OneCore L) → d.opening ≡ c.opening → d.journal ≡ c.journal → d.origins ≡ c.origins → d.endings ≡ c.endings → d.out ≡ one_out c.out → d ≡ record c { queue = d.queue; out = one_out c.out }
  core_is d c a b e f g = λ i. record { opening = a i; journal = b i; origins = e i; queue = d.queue; endings = f i; out = g i }

  -- a transfer that was claimed, as it is held
  abbrev pub as_held : Claimed → ChainState L → Held L
  as_held claim work = record { ticket = claim.ticket; slot = claim.slot; transfer = work }

  pub claims_there : (h : Held L) (claim : Claimed) (work : ChainState L) (core : Option (OneCore L)) (c d : OneCore L) → core ≡ Some c → h ≡ as_held claim work → IsChain work → work.code ≡ None
      → c.queue ≡ (claim.ticket, work) ∷ d.queue → slot_of claim.ticket c.journal ≡ Some claim.slot → origin_of claim.ticket d.origins ≡ Some claim.origin → claim.origin ≡ request_origin work.request
      → d.opening ≡ c.opening → d.journal ≡ c.journal → d.origins ≡ c.origins → d.endings ≡ c.endings → d.out ≡ one_out c.out → DoesAt (claims (Some h)) core (Some d)
  claims_there h claim work core c d there is chain going first slot own origin opening journal origins endings out =
      let k : Held L = as_held claim work in
      let owned : IsOwn c.origins claim.ticket work.request = subst (λ (l : List Origin). IsOwn l claim.ticket work.request) origins (own ∙ ap (λ (o : Origin). Some o) origin) in
      let done : Claims k c d = record { first = first; slot = slot; own = (begins_right work chain going, owned); after = core_is d c opening journal origins endings out } in
      subst (λ (x : Option (OneCore L)). DoesAt (claims (Some h)) x (Some d)) (sym there) (subst (λ (x : Held L). Claims x c d) (sym is) done)

  -- at a spare seat nothing is done
  pub away : (deed : Deed L) (core : Option (OneCore L)) → core ≡ None → DoesAt deed core core
  away deed (Some c) none = let x : Some c ≡ None = none in cc
  away deed None none = tt

  -- an end that was recorded or stale is taken, and so is one at a spare seat
  pub taken_in : (was is : List (Deed L)) (e f : EndView) (b : Bool) (deed : Deed L) → is ≡ was ++ deed ∷ [] → deed ≡ finishes f.end.ticket f.end.outcome (finish_by b) → f ≡ e → HandsIn was is e None
  taken_in was is e f true deed more is_deed same = record {
    f = recorded;
    did = more ∙ ap (λ x. was ++ x ∷ []) (is_deed ∙ ap (λ (x : EndView). finishes x.end.ticket x.end.outcome recorded) same);
    comes_back = λ no. let x : recorded ≡ lacking = no in cc;
    is_taken = λ _. refl;
  }
  taken_in was is e f false deed more is_deed same = record {
    f = stale;
    did = more ∙ ap (λ x. was ++ x ∷ []) (is_deed ∙ ap (λ (x : EndView). finishes x.end.ticket x.end.outcome stale) same);
    comes_back = λ no. let x : stale ≡ lacking = no in cc;
    is_taken = λ _. refl;
  }

  -- the core stays where it is there
  pub stays : (did : List (Deed L)) (core after : Option (OneCore L)) → Each DoesAt did core after → IsSome core → IsSome after
  stays [] core after e some = subst IsSome (sym e) some
  stays (x ∷ did) None after steps some = let y : false ≡ true = some in cc
  stays (x ∷ did) (Some c) after (None, a, rest) some = absurd a
  stays (x ∷ did) (Some c) after (Some m, a, rest) some = stays did (Some m) after rest refl

  -- where the core is there, each deed is a step of it
  each_of : (did : List (Deed L)) (core after : Option (OneCore L)) → Each DoesAt did core after → IsSome core → Each Does did (there core) (there after)
  each_of [] core after e some = ap there e
  each_of (x ∷ did) None after steps some = let y : false ≡ true = some in cc
  each_of (x ∷ did) (Some c) after (None, a, rest) some = absurd a
  each_of (x ∷ did) (Some c) after (Some m, a, rest) some = (m, a, each_of did (Some m) after rest refl)

  -- a worker took its turns with the core, from a spare engine to a spare engine
  pub performed : (history : L → List Answer) (token_of : L → ℕ) (w mid end new : Worker L) (was is : List Said) (core start after : Option (OneCore L)) (did none other : List (Deed L)) → IsSome core → mid ≡ record w { did = none } → none ≡ []
      → TurnsOn history token_of (beside mid was) (beside end is) → new ≡ record end { did = other } → did ≡ end.did → start ≡ core → Each DoesAt did start after
      → Performs history token_of (record { core = there core; worker = unnoted w }) (record { core = there after; worker = unnoted new }) was is
  performed history token_of w mid end new was is core start after did none other some begun nothing turned last noted first done = record {
    did = end.did;
    turns = subst (λ (x : Worker L). TurnsOn history token_of x (record (unnoted new) { did = end.did; said = is })) (ap (λ (x : Worker L). beside x was) (begun ∙ ap (λ (l : List (Deed L)). record w { did = l }) nothing))
        (subst (λ (x : Worker L). TurnsOn history token_of (beside mid was) x) (sym (ap (λ (x : Worker L). record x { did = end.did; said = is }) last)) turned);
    done = each_of end.did core after (subst (λ (x : Option (OneCore L)). Each DoesAt end.did x after) first (subst (λ (l : List (Deed L)). Each DoesAt l start after) noted done)) some;
  }
