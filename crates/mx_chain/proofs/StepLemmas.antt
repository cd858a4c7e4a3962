-- What a turn of a transfer leaves.
use Rattle.std.proofs.Common.{◌≡◌, ◌≢◌, ℕ, ◌≤◌, Bool, true, false, cond, List, [], ◌∷◌, ◌++◌, length, Option, Some, None, refl, sym, ap, ◌∙◌, subst, inl, inr, ◌↔◌, arith}
use Rattle.std.specs.Prelude.{IsSome}
use Rattle.mx_request.specs.Request.{RequestValue}
use Rattle.mx_types.specs.declared.code.Code.{Code}
use Rattle.mx_types.specs.declared.code.Code.TheVariants as code
use Rattle.mx_link.specs.declared.answers.Answer.{Answer}
use Rattle.mx_line.specs.Endings.{IsUndecided}
use Rattle.mx_exchange.specs.Exchanges.{HopValue, ExchangeState, IsExchange, KeepsToken, capped, clocked, renewed}
use Rattle.mx_chain.specs.Hops.{LeadTo, EndsWith}
use Rattle.mx_chain.specs.Outcomes.{OutcomeValue, hops_of, outcome_of, passed_on}
use Rattle.mx_chain.specs.Chains.{ChainState, IsChain, counted, bytes_in, received_of, released, left_of, halted, over, onward}
use Rattle.mx_exchange.specs.Turns as hop
use Rattle.mx_exchange.specs.Turns.{Turns}
use Rattle.mx_chain.specs.Steps.{How, waits, how_of, content_by, IfEnded, IfGoing, SettlesHome, GoesOn, follows, finishes, Steps, ended}
use Rattle.mx_chain.specs.declared.chains.Stepped.{Stepped}
use Rattle.mx_chain.specs.declared.chains.Stepped.TheVariants as stepped
use Rattle.mx_chain.specs.Going.{IsFollowed, GoesOnTo}
use Rattle.mx_exchange.specs.Hops.{IsHop}
use Rattle.mx_chain.proofs.HopLemmas.{late_as, bytes_more, made, first_is, redirect_sends}
use Rattle.mx_chain.proofs.Passing.{redirect_passes}

module _ {L : Type 0} (t : ChainState L) (mid : ExchangeState L) (o : HopValue) (new : ChainState L) where
  not_waits : (how : How) → GoesOn t mid o new how → how ≡ waits → ⊥
  not_waits how (follows next r few n e) w = cc
  not_waits how (finishes c why e home) w = cc

  pub goes_again : (s : Stepped) → GoesOn t mid o new (how_of s) → IfGoing s (new.code ≡ None)
  goes_again stepped.Waits g = absurd (not_waits waits g refl)
  goes_again stepped.Asks (follows next r few n e) = ap (λ (x : ChainState L). x.code) e
  goes_again (stepped.Ended x) g = tt

  pub goes_same : (s : Stepped) → GoesOn t mid o new (how_of s) → IfGoing s (new.request ≡ t.request)
  goes_same stepped.Waits g = absurd (not_waits waits g refl)
  goes_same stepped.Asks (follows next r few n e) = ap (λ (x : ChainState L). x.request) e
  goes_same (stepped.Ended x) g = tt

  pub goes_ended : (s : Stepped) → GoesOn t mid o new (how_of s) → IfEnded s (λ x. new.code ≡ Some x.code)
  goes_ended stepped.Waits g = tt
  goes_ended stepped.Asks g = tt
  goes_ended (stepped.Ended x) (finishes c why e home) = ap (λ (x : ChainState L). x.code) e

  pub goes_late : (s : Stepped) (Due : Type 0) → GoesOn t mid o new (how_of s) → (o.code ≡ code.OperationTimedout) ↔ Due
      → IfEnded s (λ x. (x.code ≡ code.OperationTimedout) ↔ Due)
  goes_late stepped.Waits Due g d = tt
  goes_late stepped.Asks Due g d = tt
  goes_late (stepped.Ended x) Due (finishes c why e home) d = late_as t.request.settings.max_redirects (length t.hops) o c Due why d

  released_count : (b : Bool) (m n : ExchangeState L) → m.received ≡ n.received → (cond b m n).received ≡ n.received
  released_count true m n e = e
  released_count false m n e = refl

  pub goes_counted : (how : How) (was : ℕ) → GoesOn t mid o new how → was ≤ mid.received → counted t.earlier was ≤ received_of new
  goes_counted how was (follows next r few n e) more =
      let earlier = ap (λ (x : ChainState L). x.earlier) e in
      let now = ap (λ (x : ChainState L). x.now.received) e in
      omega (arith, earlier, now, more)
  goes_counted how was (finishes c why e home) more =
      let earlier = ap (λ (x : ChainState L). x.earlier) e in
      let now = ap (λ (x : ChainState L). x.now.received) e in
      let same : (released mid).received ≡ mid.received = released_count mid.is_kept _ mid refl in
      omega (arith, earlier, now, same, more)

  pub goes_home : (s : Stepped) → GoesOn t mid o new (how_of s) → IfEnded s (λ x. new.link ≢ None → IsSome new.home)
  goes_home stepped.Waits g = tt
  goes_home stepped.Asks g = tt
  goes_home (stepped.Ended x) (finishes c why e (inl home)) = λ left. (home.1 left).0
  goes_home (stepped.Ended x) (finishes c why e (inr home)) = λ left. absurd (left home.0)

  pub goes_received : (s : Stepped) → GoesOn t mid o new (how_of s) → t.earlier ≡ bytes_in t.hops → mid.received ≡ capped (length o.wire)
      → IfEnded s (λ x. received_of new ≡ bytes_in (hops_of x))
  goes_received stepped.Waits g was wire = tt
  goes_received stepped.Asks g was wire = tt
  goes_received (stepped.Ended x) (finishes c why e home) was wire =
      let earlier = ap (λ (x : ChainState L). x.earlier) e in
      let now = ap (λ (x : ChainState L). x.now.received) e in
      let same : (released mid).received ≡ mid.received = released_count mid.is_kept _ mid refl in
      omega (arith, earlier, now, same, was, wire, bytes_more t.hops o)

  token_none : (f : L → ℕ) (x : Option L) → KeepsToken f x None
  token_none f None = tt
  token_none f (Some l) = tt

  released_token : (f : L → ℕ) (x : Option L) (b : Bool) (m n : ExchangeState L) → m.link ≡ None → KeepsToken f x n.link → KeepsToken f x (cond b m n).link
  released_token f x true m n none k = subst (λ (y : Option L). KeepsToken f x y) (sym none) (token_none f x)
  released_token f x false m n none k = k

  pub goes_token : (f : L → ℕ) (x : Option L) (how : How) → GoesOn t mid o new how → KeepsToken f x mid.link → KeepsToken f x new.now.link
  goes_token f x how (follows next r few n e) k =
      subst (λ (y : Option L). KeepsToken f x y) (sym (ap (λ (z : ChainState L). z.now.link) e)) (token_none f x)
  goes_token f x how (finishes c why e home) k =
      subst (λ (y : Option L). KeepsToken f x y) (sym (ap (λ (z : ChainState L). z.now.link) e)) (released_token f x mid.is_kept _ mid refl k)

  pub goes_undecided : (history : L → List Answer) (asked : L → List ℕ) (token_of : L → ℕ) (s : Stepped) → GoesOn t mid o new (how_of s) → IsChain new
      → IsExchange history asked token_of new.now → IfGoing s (IsUndecided new.now.limit new.now.request.method new.now.answers)
  goes_undecided history asked token_of stepped.Waits g k h = absurd (not_waits waits g refl)
  goes_undecided history asked token_of stepped.Asks g k h = h.undecided (k.going.0 (goes_again stepped.Asks g))
  goes_undecided history asked token_of (stepped.Ended x) g k h = tt

-- ---- what a hop hands on, and its limit

pub if_ended_limit : (s : Stepped) (a b : Option ℕ) → a ≡ b → IfEnded s (λ x. x.last.limit ≡ a) → IfEnded s (λ x. x.last.limit ≡ b)
if_ended_limit s a b e h = subst (λ (l : Option ℕ). IfEnded s (λ x. x.last.limit ≡ l)) e h

module _ {L : Type 0} (t : ChainState L) (mid : ExchangeState L) (o : HopValue) (new : ChainState L) where
  released_limit : (b : Bool) (m n : ExchangeState L) → m.limit ≡ n.limit → (cond b m n).limit ≡ n.limit
  released_limit true m n e = e
  released_limit false m n e = refl

  pub goes_limit : (how : How) → GoesOn t mid o new how → new.now.limit ≡ mid.limit
  goes_limit how (follows next r few n e) = ap (λ (x : ChainState L). x.now.limit) e
  goes_limit how (finishes c why e home) = ap (λ (x : ChainState L). x.now.limit) e ∙ released_limit mid.is_kept _ mid refl

  pub goes_last : (s : Stepped) → GoesOn t mid o new (how_of s) → IfEnded s (λ x. x.last.limit ≡ o.limit)
  goes_last stepped.Waits g = tt
  goes_last stepped.Asks g = tt
  goes_last (stepped.Ended x) (finishes c why e home) = refl

  -- a hop that is followed hands nothing on, and the last one what its outcome has
  pub goes_content : (s : Stepped) → LeadTo t.request.settings.max_redirects t.request t.hops o.request → GoesOn t mid o new (how_of s)
      → content_by new (how_of s) ≡ passed_on t.request.settings.max_redirects o
  goes_content stepped.Waits leads g = absurd (not_waits t mid o new waits g refl)
  goes_content stepped.Asks leads (follows next r few n e) =
      ap (λ (x : ChainState L). x.content) e ∙ sym (redirect_passes t.request.settings.max_redirects o (redirect_sends t.request.settings.max_redirects o r))
  goes_content (stepped.Ended x) leads (finishes c why e home) =
      ap (λ (r : RequestValue). passed_on r.settings.max_redirects o) (first_is t.request.settings.max_redirects t.request t.hops o leads)

  -- it goes on from a hop that has ended
  pub goes_halted : (s : ChainState L) (how : How) → s ≡ record t { now = mid; code = Some o.code; content = s.content } → s.content ≡ [] → GoesOn s mid o new how
      → GoesOn (halted t mid o) mid o new how
  goes_halted s how is none g =
      subst (λ (x : ChainState L). GoesOn x mid o new how) (is ∙ ap (λ (l : List ℕ). record t { now = mid; code = Some o.code; content = l }) none) g

-- so a turn ends that hop
pub ended_by : {L : Type 0} (history : L → List Answer) (t new : ChainState L) (how : How) (o : HopValue) (mid : ExchangeState L) (s : ChainState L) → Turns history (clocked t.now) mid (hop.ends o)
    → s ≡ record t { now = mid; code = Some o.code; content = s.content } → s.content ≡ [] → GoesOn s mid o new how → Steps history t new how
ended_by history t new how o mid s turn is none g = ended o mid turn (goes_halted t mid o new s how is none g)

-- ---- an exchange whose link was taken

module _ {L : Type 0} (n : ExchangeState L) where
  released_same : n.is_kept ≡ false → released n ≡ n
  released_same e = rw e refl

  released_twice : released (released n) ≡ released n
  released_twice = elim (n.is_kept) as (λ b. n.is_kept ≡ b → released (cond b (record n { link = None; attached = None; answers = []; is_reused = false; needs_probe = false; is_kept = false }) n) ≡ cond b (record n { link = None; attached = None; answers = []; is_reused = false; needs_probe = false; is_kept = false }) n) [ true ↦ λ e. refl | false ↦ λ e. released_same e ] refl

  renewed_released : (next : RequestValue) → renewed (released n) next ≡ renewed n next
  renewed_released next = elim (n.is_kept) as (λ b. renewed (cond b (record n { link = None; attached = None; answers = []; is_reused = false; needs_probe = false; is_kept = false }) n) next ≡ renewed n next) [ true ↦ refl | false ↦ refl ]

  pub received_released : (released n).received ≡ n.received
  received_released = elim (n.is_kept) as (λ b. (cond b (record n { link = None; attached = None; answers = []; is_reused = false; needs_probe = false; is_kept = false }) n).received ≡ n.received) [ true ↦ refl | false ↦ refl ]

  pub released_content : (released n).content ≡ n.content
  released_content = elim (n.is_kept) as (λ b. (cond b (record n { link = None; attached = None; answers = []; is_reused = false; needs_probe = false; is_kept = false }) n).content ≡ n.content) [ true ↦ refl | false ↦ refl ]

  left_same : (x : Option L) → n.is_kept ≡ false → left_of x n ≡ x
  left_same x e = rw e refl

  left_released : (x : Option L) → left_of x (released n) ≡ x
  left_released x = elim (n.is_kept) as (λ b. n.is_kept ≡ b → left_of x (cond b (record n { link = None; attached = None; answers = []; is_reused = false; needs_probe = false; is_kept = false }) n) ≡ x) [ true ↦ λ e. refl | false ↦ λ e. left_same x e ] refl

-- a transfer whose link was released goes on as the transfer itself
pub goes_released : {L : Type 0} (t s new : ChainState L) (o : HopValue) (how : How) → s ≡ record t { now = released t.now; link = left_of t.link t.now }
    → GoesOn s s.now o new how → GoesOn t t.now o new how
goes_released {L} t s new o how was g = on how (subst (λ (x : ChainState L). GoesOn x x.now o new how) was g)
  where
    on : (how : How) → GoesOn (record t { now = released t.now; link = left_of t.link t.now }) (released t.now) o new how → GoesOn t t.now o new how
    on how (follows next r few x e) =
        follows next r few x (e ∙ (λ i. record (onward t t.now o next) {
          now = renewed_released t.now next i;
          earlier = counted t.earlier (received_released t.now i);
          link = left_released t.now (left_of t.link t.now) i;
        }))
    on how (finishes c why e (inl home)) =
        finishes c why (e ∙ (λ i. record (over t t.now c new.link new.home) { now = released_twice t.now i })) (inl (home.0 ∙ left_released t.now (left_of t.link t.now), home.1))
    on how (finishes c why e (inr home)) =
        finishes c why (e ∙ (λ i. record (over t t.now c new.link new.home) { now = released_twice t.now i })) (inr home)

not_none : {A : Type 0} (x : Option A) → IsSome x → x ≡ None → ⊥
not_none None s e = (let k : false ≡ true = s in cc)
not_none (Some a) s e = cc

module _ {L : Type 0} where
  -- a transfer whose link was released goes on as the transfer itself
  pub goes_on_released : (t s new : ChainState L) (o : HopValue) (r : Stepped) → s ≡ record t { now = released t.now; link = left_of t.link t.now }
      → GoesOnTo s o new r → GoesOnTo t o new r
  goes_on_released t s new o r was g = record {
    goes = goes_released t s new o (how_of r) was g.goes;
    outcome = g.outcome;
    value = subst (λ (x : ChainState L). IfEnded r (λ y. y.request ≡ x.request)) was g.value;
  }

  -- and so does one that is the same, from the same hop
  pub goes_on_same : (t s new : ChainState L) (o p : HopValue) (r : Stepped) → s ≡ t → p ≡ o → GoesOnTo s p new r → GoesOnTo t o new r
  goes_on_same t s new o p r same hop g =
      subst (λ (x : HopValue). GoesOnTo t x new r) hop (subst (λ (x : ChainState L). GoesOnTo x p new r) same g)

  -- a transfer whose link was set aside follows a hop
  pub follows_on : (t new : ChainState L) (o : HopValue) (next : RequestValue) → t.now.is_kept ≡ false
      → IsFollowed t.request.settings.max_redirects (length t.hops) o next
      → new ≡ record t { hops = t.hops ++ o ∷ []; now = renewed t.now next; linked = false; earlier = counted t.earlier t.now.received; code = None; content = [] }
      → GoesOnTo t o new stepped.Asks
  follows_on t new o next unkept f e = record {
    goes = follows next f.0 f.1 f.2 (e ∙ (λ i. record (onward t t.now o next) { link = sym (left_same t.now t.link unkept) i }));
    outcome = tt;
    value = tt;
  }

  -- it ends with it
  pub ends_on : (t new : ChainState L) (o : HopValue) (c : Code) (x : OutcomeValue) → t.now.is_kept ≡ false
      → LeadTo t.request.settings.max_redirects t.request t.hops o.request → length t.hops ≤ t.request.settings.max_redirects → IsHop o → (t.heads_alone ≡ false → o.limit ≡ None)
      → EndsWith t.request.settings.max_redirects (length t.hops) o c → x ≡ outcome_of t.heads_alone t.hops o c
      → new ≡ record t { hops = []; code = Some c; link = new.link; home = new.home } → SettlesHome t t.link o.request new
      → GoesOnTo t o new (stepped.Ended x)
  ends_on t new o c x unkept leads few is kept why same e home =
      subst (λ (y : OutcomeValue). GoesOnTo t o new (stepped.Ended y)) (sym same) (record {
        goes = finishes c why (e ∙ (λ i. record (record t { hops = []; code = Some c; link = new.link; home = new.home }) { now = sym (released_same t.now unkept) i }))
            (subst (λ (l : Option L). SettlesHome t l o.request new) (sym (left_same t.now t.link unkept)) home);
        outcome = made t.heads_alone t.request t.hops o c leads few is kept why;
        value = first_is t.request.settings.max_redirects t.request t.hops o leads;
      })

  -- what holds of a transfer whose hop has ended, with other hops
  pub kept_with : (t : ChainState L) (hops : List HopValue) (alone : Bool) → IsSome t.code → IsChain t → length hops ≤ t.request.settings.max_redirects → alone ≡ t.heads_alone
      → IsChain (record t { hops = hops; heads_alone = alone })
  kept_with t hops alone some k few same = record {
    going = k.going;
    leads = λ e. absurd (not_none t.code some e);
    few = few;
    bytes = λ e. absurd (not_none t.code some e);
    kept = λ e. k.kept (sym same ∙ e);
    handed = λ e. absurd (not_none t.code some e);
  }

  pub released_unkept : (n : ExchangeState L) → (released n).is_kept ≡ false
  released_unkept n = elim (n.is_kept) as (λ b. n.is_kept ≡ b → (cond b (record n { link = None; attached = None; answers = []; is_reused = false; needs_probe = false; is_kept = false }) n).is_kept ≡ false) [ true ↦ λ e. refl | false ↦ λ e. e ] refl
