-- Over its turns a worker has only ends of requests that were added under their tickets.
use Rattle.std.proofs.Common.{◌≡◌, ℕ, Bool, true, false, List, [], ◌∷◌, ◌++◌, Option, Some, None, refl, sym, ap, subst, ◌∙◌, append_assoc, append-nil}
use Rattle.std.specs.List.{AllByRecursion}
use Rattle.mx_types.specs.declared.origin.Origin.{Origin}
use Rattle.mx_types.specs.declared.names.Ticket.{Ticket}
use Rattle.mx_link.specs.declared.answers.Answer.{Answer}
use Rattle.mx_chain.specs.Chains.{ChainState}
use Rattle.mx_chain.specs.Outcomes.{OutcomeValue}
use Rattle.mx_chain.specs.Steps.{How, waits, asks, ends}
use Rattle.mx_request.specs.Request.{RequestValue}
use Rattle.mx_types.specs.declared.reply.Look.TheVariants as look
use Rattle.mx_turn.specs.Workers.{Held, SetAside, Worker, Deed, claims, looks, notes, finishes, gives_back, Finish, recorded, stale, lacking, unseated, Return, returned, ended_before, unreturned, does, holds}
use Rattle.mx_turn.specs.Turn.{Each, Claims, keeps, finds_none, claims_one, handed_in, Retries, Settles, LooksAt, lets_go, serves, unlinked, GoesThrough, through, due, asks_time, next, GivesBack, holds_on, returns, Stops, WorkerTurn, Runs, begins, turns}
use Rattle.mx_solo.specs.Owning.{BeginsRight, EndingsOwn, IsOwn, HeldOwn, AsideOwn, WorkerOwn}
use Rattle.mx_worker_turns.specs.WorkerSteps.{beside}
use Rattle.mx_gate.specs.Said.{Said}
use Rattle.mx_solo.specs.Seats.{OneCore, Does, DoesAt, Ends, IsOwnAll, TurnsOn, there}
use Rattle.mx_solo.proofs.Requests.{ComesTo, polled_right}

pub all_append : {X : Type 0} (P : X → Type 0) (xs ys : List X) → AllByRecursion P xs → AllByRecursion P ys → AllByRecursion P (xs ++ ys)
all_append P [] ys a b = b
all_append P (x ∷ xs) ys (one, a) b = (one, all_append P xs ys a b)

all_front : {X : Type 0} (P : X → Type 0) (xs ys : List X) → AllByRecursion P (xs ++ ys) → AllByRecursion P xs
all_front P [] ys a = tt
all_front P (x ∷ xs) ys (one, a) = (one, all_front P xs ys a)

all_back : {X : Type 0} (P : X → Type 0) (xs ys : List X) → AllByRecursion P (xs ++ ys) → AllByRecursion P ys
all_back P [] ys a = a
all_back P (x ∷ xs) ys (one, a) = all_back P xs ys a

-- steps, and further ones
each_split : {X W : Type 0} (Step : X → W → W → Type 0) (xs ys : List X) (w v : W) → Each Step (xs ++ ys) w v → (mid : W) × Each Step xs w mid × Each Step ys mid v
each_split Step [] ys w v steps = (w, refl, steps)
each_split Step (x ∷ xs) ys w v (m, one, rest) = let r = each_split Step xs ys m v rest in (r.0, (m, one, r.1), r.2)

module _ {L : Type 0} (history : L → List Answer) (token_of : L → ℕ) (origins : List Origin) where
  -- its endings are own, by these origins
  abbrev pub CoreOwn : OneCore L → Type 0
  CoreOwn c = (c.origins ≡ origins) × EndingsOwn origins c.endings

  -- The worker goes on by these deeds, each of which is a step of the core. Where this was given, and all was own, all is.
  pub record Goes (Given : Type 0) (w v : Worker L) : Type 0 where
    pub more : List (Deed L)
    pub did : v.did ≡ w.did ++ more
    pub so : Given → (c d : OneCore L) → Each Does more c d → CoreOwn c → WorkerOwn origins w → WorkerOwn origins v × CoreOwn d

  one_step : (deed : Deed L) (c d : OneCore L) → ((m : OneCore L) → Does deed c m → CoreOwn m) → Each Does (deed ∷ []) c d → CoreOwn d
  one_step deed c d step (m, does, last) = subst CoreOwn (sym last) (step m does)

  goes_same : (w v : Worker L) → v.did ≡ w.did → v.held ≡ w.held → v.set_aside ≡ w.set_aside → Goes (Unit {0}) w v
  goes_same w v d h s = record {
    more = [];
    did = d ∙ sym (append-nil w.did);
    so = λ _ c e steps core own. ((subst (AllByRecursion (HeldOwn origins)) (sym h) own.0, subst (AllByRecursion (AsideOwn origins)) (sym s) own.1), subst CoreOwn (sym steps) core);
  }

  goes_then : {A B : Type 0} (w m v : Worker L) → Goes A w m → Goes B m v → Goes (A × B) w v
  goes_then w m v a b = record {
    more = a.more ++ b.more;
    did = b.did ∙ ap (λ (l : List (Deed L)). l ++ b.more) a.did ∙ append_assoc w.did a.more b.more;
    so = λ given c d steps core own.
        let parts = each_split Does a.more b.more c d steps in
        let first = a.so given.0 c parts.0 parts.1 core own in
        b.so given.1 parts.0 d parts.2 first.1 first.0;
  }

  -- where it is enough to be given something else
  goes_given : {A B : Type 0} (w v : Worker L) → (B → A) → Goes A w v → Goes B w v
  goes_given w v to g = record { more = g.more; did = g.did; so = λ given. g.so (to given) }

  goes_to : {A : Type 0} (w v u : Worker L) → u ≡ v → Goes A w v → Goes A w u
  goes_to {A} w v u e g = subst (Goes A w) (sym e) g

  -- each of these, of which the same is given
  each_goes : {X : Type 0} (P : X → Type 0) (Step : X → Worker L → Worker L → Type 0) → ((x : X) (w v : Worker L) → Step x w v → Goes (P x) w v)
      → (xs : List X) (w v : Worker L) → Each Step xs w v → Goes (AllByRecursion P xs) w v
  each_goes P Step step [] w v e = goes_to w w v e (goes_same w w refl refl refl)
  each_goes P Step step (x ∷ xs) w v (mid, one, rest) = goes_then w mid v (step x w mid one) (each_goes P Step step xs mid v rest)

  -- what a step of the core leaves own
  by_origins : (c d : OneCore L) → d.origins ≡ c.origins → d.endings ≡ c.endings → CoreOwn c → CoreOwn d
  by_origins c d o e core = (o ∙ core.0, subst (EndingsOwn origins) (sym e) core.1)

  at_origins : (c : OneCore L) (t : Ticket) (r : RequestValue) → CoreOwn c → IsOwn origins t r → IsOwn c.origins t r
  at_origins c t r core is = subst (λ (l : List Origin). IsOwn l t r) (sym core.0) is

  by_end : (t : Ticket) (o : OutcomeValue) (r : _) (c d : OneCore L) → CoreOwn c → IsOwn origins t o.request → Ends t o r c d → CoreOwn d
  by_end t o r c d core is e = (e.origins ∙ core.0, subst (λ (l : List Origin). EndingsOwn l d.endings) (e.origins ∙ core.0) (e.own (subst (λ (l : List Origin). EndingsOwn l c.endings) (sym core.0) core.1) (at_origins c t o.request core is)))

  by_return : (h : Held L) (r : Return) (c d : OneCore L) → CoreOwn c → HeldOwn origins h → Does (gives_back h r) c d → CoreOwn d
  by_return h returned c d core is e = by_origins c d (e.origins (at_origins c h.ticket h.transfer.request core is.1)) e.endings core
  by_return h ended_before c d core is e = by_origins c d (ap (λ (x : OneCore L). x.origins) e.1) (ap (λ (x : OneCore L). x.endings) e.1) core
  by_return h unreturned c d core is e = absurd e

  -- an end that is handed in
  hands : (t : Ticket) (o : OutcomeValue) (f : Finish) (w : Worker L) → Goes (IsOwn origins t o.request) w (handed_in t o f w)
  hands t o recorded w = record { more = finishes t o recorded ∷ []; did = refl; so = λ is c d steps core own. (own, one_step (finishes t o recorded) c d (λ m. by_end t o _ c m core is) steps) }
  hands t o stale w = record { more = finishes t o stale ∷ []; did = refl; so = λ is c d steps core own. (own, one_step (finishes t o stale) c d (λ m. by_end t o _ c m core is) steps) }
  hands t o unseated w = record { more = finishes t o unseated ∷ []; did = refl; so = λ is c d steps core own. absurd steps.1 }
  hands t o lacking w = record { more = finishes t o lacking ∷ []; did = refl; so = λ is c d steps core own. absurd steps.1 }

  -- a transfer that is held
  holds_it : (h : Held L) (w : Worker L) → Goes (HeldOwn origins h) w (holds w h)
  holds_it h w = record { more = []; did = sym (append-nil w.did); so = λ is c d steps core own. ((all_append (HeldOwn origins) w.held (h ∷ []) own.0 (is, tt), own.1), subst CoreOwn (sym steps) core) }

  let_go : (h : Held L) (r : Return) (w : Worker L) → Goes (HeldOwn origins h) w (does w (gives_back h r))
  let_go h r w = record { more = gives_back h r ∷ []; did = refl; so = λ is c d steps core own. (own, one_step (gives_back h r) c d (λ m. by_return h r c m core is) steps) }

  -- one that makes no difference to the core
  sees : (deed : Deed L) (w : Worker L) → ((c d : OneCore L) → Does deed c d → d ≡ c) → Goes (Unit {0}) w (does w deed)
  sees deed w same = record { more = deed ∷ []; did = refl; so = λ _ c d steps core own. (own, one_step deed c d (λ m e. subst CoreOwn (sym (same c m e)) core) steps) }

  gives : (h : Held L) (w v : Worker L) → GivesBack h w v → Goes (HeldOwn origins h) w v
  gives h w v (holds_on started e) = goes_to w (holds w h) v e (holds_it h w)
  gives h w v (returns r unstarted e) = goes_to w (does w (gives_back h r)) v e (let_go h r w)

  retries : (s : SetAside) (w v : Worker L) → Retries s w v → Goes (AsideOwn origins s) w v
  retries s w v (f, e) = goes_to w (handed_in s.ticket s.outcome f w) v e (hands s.ticket s.outcome f w)

  claiming : (w v : Worker L) → Claims w v → Goes (Unit {0}) w v
  claiming w v (keeps why e) = goes_to w w v e (goes_same w w refl refl refl)
  claiming w v (finds_none going room e) = goes_to w (does w (claims None)) v e (sees (claims None) w (λ c d e. e.1))
  claiming w v (claims_one h has_room going room running left e) = record {
    more = claims (Some h) ∷ [];
    did = ap (λ (x : Worker L). x.did) e;
    so = λ _ c d steps core own.
        let claim = steps.1 in
        let is : HeldOwn origins h = subst (λ (l : List Origin). HeldOwn l h) core.0 claim.own in (
          (
            subst (AllByRecursion (HeldOwn origins)) (sym (ap (λ (x : Worker L). x.held) e)) (all_append (HeldOwn origins) w.held (h ∷ []) own.0 (is, tt)),
            subst (AllByRecursion (AsideOwn origins)) (sym (ap (λ (x : Worker L). x.set_aside) e)) own.1,
          ),
          subst CoreOwn (sym steps.2) (by_origins c steps.0 (ap (λ (x : OneCore L). x.origins) claim.after) (ap (λ (x : OneCore L). x.endings) claim.after) core),
        );
  }

  -- what was noted before the transfer is held on, or its end is handed in
  noted : (w : Worker L) (idle : _) (said : _) (t : Ticket) (seen : _) (slot count : ℕ) → Goes (Unit {0}) w (record w { idle = idle; did = w.did ++ looks t seen ∷ notes t slot count ∷ []; said = said })
  noted w idle said t seen slot count = record {
    more = looks t seen ∷ notes t slot count ∷ [];
    did = refl;
    so = λ _ c d steps core own. (own, subst CoreOwn (sym (steps.2.2 ∙ steps.2.1 ∙ steps.1.1)) core);
  }

  on_its_way : (t : ChainState L) (h : Held L) (new : ChainState L) → HeldOwn origins h → BeginsRight new → new.request ≡ h.transfer.request → HeldOwn origins (record h { transfer = unlinked new })
  on_its_way t h new is right same = (right, subst (IsOwn origins h.ticket) (sym same) is.1)

  settles : (h : Held L) (new : ChainState L) (goes delayed : Bool) (w v : Worker L) (how : How) → (HeldOwn origins h → ComesTo history token_of h.transfer.request new how)
      → Settles (record h { transfer = unlinked new }) goes delayed w v how → Goes (HeldOwn origins h) w v
  settles h new goes delayed w v waits comes (wants, is, e) =
      let k : Held L = record h { transfer = unlinked new } in
      let x : Worker L = record w { can_go_on = v.can_go_on } in
      goes_to w (holds x k) v (e ∙ ap (λ (b : Bool). holds (record w { can_go_on = b }) k) (sym (ap (λ (y : Worker L). y.can_go_on) e)))
      (goes_given w (holds x k) (λ own. (tt, on_its_way h.transfer h new own (comes own).0 (comes own).1)) (goes_then w x (holds x k) (goes_same w x refl refl refl) (holds_it k x)))
  settles h new goes delayed w v asks comes e =
      let k : Held L = record h { transfer = unlinked new } in
      let x : Worker L = record w { can_go_on = v.can_go_on } in
      goes_to w (holds x k) v (e ∙ ap (λ (b : Bool). holds (record w { can_go_on = b }) k) (sym (ap (λ (y : Worker L). y.can_go_on) e)))
      (goes_given w (holds x k) (λ own. (tt, on_its_way h.transfer h new own (comes own).0 (comes own).1)) (goes_then w x (holds x k) (goes_same w x refl refl refl) (holds_it k x)))
  settles h new goes delayed w v (ends o) comes (f, e) =
      goes_to w (handed_in h.ticket o f w) v e (goes_given w (handed_in h.ticket o f w) (λ own. subst (IsOwn origins h.ticket) (sym (comes own)) own.1) (hands h.ticket o f w))

  looked : (now : ℕ) (h : Held L) (w v : Worker L) → LooksAt history token_of now h w v → Goes (HeldOwn origins h) w v
  looked now h w v (lets_go r e) =
      let x : Worker L = does w (looks h.ticket (Some look.Gone)) in
      goes_to w _ v e (goes_given w (does x (gives_back h r)) (λ is. (tt, is)) (goes_then w x (does x (gives_back h r)) (sees (looks h.ticket (Some look.Gone)) w (λ c d e. e.1)) (let_go h r x)))
  looked now h w v (serves seen room offered ready new idle left said went how there makes readies steps delivers kept end) =
      goes_given w v (λ is. (tt, is))
      (goes_then w _ v (noted w left _ h.ticket seen h.slot _)
      (settles h new _ _ _ v how (λ own. polled_right history token_of now _ room h.transfer offered ready new _ _ _ went how own.0 makes readies steps delivers) end))

  going_through : (last : ℕ) (v : Worker L) (now : ℕ) (is_new : Bool) (todo : List (Held L)) (w : Worker L) → GoesThrough history token_of last v now is_new todo w → Goes (AllByRecursion (HeldOwn origins) todo) w v
  going_through last v now is_new todo w (through n) = goes_same w w refl refl refl
  going_through last v now is_new todo w (due n b earlier later h late look rest) =
      goes_given w v (λ own. ((all_back (HeldOwn origins) earlier (h ∷ later) own).0, all_append (HeldOwn origins) earlier later (all_front (HeldOwn origins) earlier (h ∷ later) own) (all_back (HeldOwn origins) earlier (h ∷ later) own).1))
      (goes_then w _ v (looked now h w _ look) (going_through last v now false (earlier ++ later) _ rest))
  going_through last v now is_new todo w (asks_time n since t none rest) =
      goes_given w v (λ own. (tt, own)) (goes_then w _ v (goes_same w _ refl refl refl) (going_through last v since true todo _ rest))
  going_through last v now is_new todo w (next n h later none look rest) = goes_then w _ v (looked now h w _ look) (going_through last v now false later _ rest)

  stopping : (stop already : Bool) (w v : Worker L) → Stops stop already w v → Goes (Unit {0}) w v
  stopping false already w v e = goes_to w w v e (goes_same w w refl refl refl)
  stopping true true w v e = goes_to w w v e (goes_same w w refl refl refl)
  stopping true false w v each =
      let x : Worker L = record w { is_stopping = true; held = [] } in
      let g = each_goes (HeldOwn origins) GivesBack gives w.held x v each in
      record { more = g.more; did = g.did; so = λ _ c d steps core own. g.so own.0 c d steps core (tt, own.1) }

  -- one part of a turn goes through what was held, or set aside, and leaves the other
  aside : (w v : Worker L) → Each Retries w.set_aside (record w { set_aside = [] }) v → Goes (Unit {0}) w v
  aside w v each =
      let g = each_goes (AsideOwn origins) Retries retries w.set_aside (record w { set_aside = [] }) v each in
      record { more = g.more; did = g.did; so = λ _ c d steps core own. g.so own.1 c d steps core (own.0, tt) }

  all_held : (last now : ℕ) (w v : Worker L) → GoesThrough history token_of last v now true w.held (record w { held = [] }) → Goes (Unit {0}) w v
  all_held last now w v goes =
      let g = going_through last v now true w.held (record w { held = [] }) goes in
      record { more = g.more; did = g.did; so = λ _ c d steps core own. g.so own.0 c d steps core (tt, own.1) }

  turning : (w v : Worker L) → WorkerTurn history token_of w v → Goes (Unit {0}) w v
  turning w v t =
      goes_given w v (λ _. ((((tt, tt), tt), tt), (tt, tt)))
      (goes_then w t.gone_through v
      (goes_then w t.tried t.gone_through
      (goes_then w t.claimed t.tried (goes_then w _ t.claimed (goes_same w _ refl refl refl) (claiming _ t.claimed t.claim)) (aside t.claimed t.tried t.retries))
      (all_held t.last t.now t.tried t.gone_through t.each))
      (goes_then t.gone_through _ v (goes_same t.gone_through _ refl refl refl) (stopping t.stop _ _ v t.stops)))

  running : (w v : Worker L) → Runs history token_of w v → Goes (Unit {0}) w v
  running w v begins = goes_same w w refl refl refl
  running w v (turns runs turn) = goes_given w v (λ _. (tt, tt)) (goes_then w _ v (running w _ runs) (turning _ v turn))

  pub turning_on : (w v : Worker L) → TurnsOn history token_of w v → Goes (Unit {0}) w v
  turning_on w v (mid, turn, runs) = goes_given w v (λ _. (tt, tt)) (goes_then w mid v (turning w mid turn) (running mid v runs))

module _ {L : Type 0} where
  -- where the core is there it stays, and each deed is a step of it
  pub each_there : (did : List (Deed L)) (c : OneCore L) (after : Option (OneCore L)) → Each DoesAt did (Some c) after → (d : OneCore L) × (after ≡ Some d) × Each Does did c d
  each_there [] c after e = (c, e, refl)
  each_there (x ∷ did) c after (None, a, rest) = absurd a
  each_there (x ∷ did) c after (Some m, a, rest) = let r = each_there did m after rest in (r.0, r.1, (m, a, r.2))

  own_worker : (origins : List Origin) (w v : Worker L) → v.held ≡ w.held → v.set_aside ≡ w.set_aside → WorkerOwn origins w → WorkerOwn origins v
  own_worker origins w v h s own = (subst (AllByRecursion (HeldOwn origins)) (sym h) own.0, subst (AllByRecursion (AsideOwn origins)) (sym s) own.1)

  -- a worker took its turns with the core: all stays own, by the same origins
  pub performs_own : (history : L → List Answer) (token_of : L → ℕ) (w mid end new : Worker L) (was is : List Said) (core start after : Option (OneCore L)) (did none other : List (Deed L)) → mid ≡ record w { did = none } → none ≡ []
      → TurnsOn history token_of (beside mid was) (beside end is) → new ≡ record end { did = other } → did ≡ end.did → start ≡ core → Each DoesAt did start after → IsOwnAll core w
      → IsOwnAll after new × ((there after).origins ≡ (there core).origins)
  performs_own history token_of w mid end new was is None start after did none other begun nothing turned last noted first done own = absurd own
  performs_own history token_of w mid end new was is (Some c) start after did none other begun nothing turned last noted first done own =
      let g = turning_on history token_of c.origins (beside mid was) (beside end is) turned in
      let stays = each_there end.did c after (subst (λ (x : Option (OneCore L)). Each DoesAt end.did x after) first (subst (λ (l : List (Deed L)). Each DoesAt l start after) noted done)) in
      let all : end.did ≡ g.more = g.did ∙ ap (λ (l : List (Deed L)). l ++ g.more) (ap (λ (x : Worker L). x.did) begun ∙ nothing) in
      let has = own_worker c.origins w mid (ap (λ (x : Worker L). x.held) begun) (ap (λ (x : Worker L). x.set_aside) begun) own.1 in
      let r = g.so tt c stays.0 (subst (λ (l : List (Deed L)). Each Does l c stays.0) all stays.2) (refl, own.0) has in
      let left : WorkerOwn c.origins new = own_worker c.origins end new (ap (λ (x : Worker L). x.held) last) (ap (λ (x : Worker L). x.set_aside) last) r.0 in (
        subst (λ (x : Option (OneCore L)). IsOwnAll x new) (sym stays.1) (subst (λ (l : List Origin). EndingsOwn l stays.0.endings × WorkerOwn l new) (sym r.1.0) (r.1.1, left)),
        ap (λ (x : Option (OneCore L)). (there x).origins) stays.1 ∙ r.1.0,
      )
