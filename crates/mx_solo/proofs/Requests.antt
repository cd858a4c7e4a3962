-- A poll leaves a transfer of its request, and what it ended with is of it.
use Rattle.std.proofs.Common.{◌≡◌, ℕ, Bool, true, false, List, [], ◌∷◌, ◌++◌, None, refl, sym, ap, subst, ◌∙◌}
use Rattle.mx_request.specs.Request.{RequestValue}
use Rattle.mx_link.specs.declared.answers.Answer.{Answer}
use Rattle.mx_exchange.specs.Exchanges.{HopValue, clocked}
use Rattle.mx_exchange.proofs.Advanced.{Turns-waits, Turns-asks, Turns-request}
use Rattle.mx_chain.specs.Chains.{ChainState, IsChain, halted}
use Rattle.mx_chain.specs.Hops.{LeadTo}
use Rattle.mx_chain.specs.Outcomes.{OutcomeValue, first_of}
use Rattle.mx_chain.specs.Steps.{How, waits, asks, ends, Steps, waited, asked, ended, GoesOn, follows, finishes}
use Rattle.mx_gate.specs.Said.{Said}
use Rattle.mx_transfer_core.specs.Cores.{Delivers}
use Rattle.mx_transfer_core.specs.Deliveries.{MakesRoom, takes, has_none, has_failed}
use Rattle.mx_turn.specs.Idle.{Idle}
use Rattle.mx_turn.specs.Turn.{Readies, Supplied, prepared, unwanted, reuses, delays, opens, fails, reopens, gives_up, puts_off}
use Rattle.mx_solo.specs.Owning.{BeginsRight, first_by}

-- the hops, the request under way and that of the transfer stayed
record Same {L : Type 0} (t new : ChainState L) : Type 0 where
  hops : new.hops ≡ t.hops
  under_way : new.now.request ≡ t.now.request
  request : new.request ≡ t.request

same_path : {L : Type 0} (t new : ChainState L) → new ≡ t → Same t new
same_path t new e = record { hops = ap (λ (x : ChainState _). x.hops) e; under_way = ap (λ (x : ChainState _). x.now.request) e; request = ap (λ (x : ChainState _). x.request) e }

same_then : {L : Type 0} (t mid new : ChainState L) → Same t mid → Same mid new → Same t new
same_then t mid new a b = record { hops = b.hops ∙ a.hops; under_way = b.under_way ∙ a.under_way; request = b.request ∙ a.request }

stays_right : {L : Type 0} (t new : ChainState L) → Same t new → BeginsRight t → BeginsRight new
stays_right t new s right =
    ap (λ (hs : List HopValue). first_by hs new.now.request) s.hops ∙ ap (λ (r : RequestValue). first_by t.hops r) s.under_way ∙ right ∙ sym s.request

room_made : {L : Type 0} (t new : ChainState L) (room : Bool) → MakesRoom t new room → Same t new
room_made t new room (takes e) = same_path t new e
room_made t new room (has_none limit e) = same_path t new e
room_made t new room (has_failed c limit given e) =
    record { hops = ap (λ (x : ChainState _). x.hops) e; under_way = ap (λ (x : ChainState _). x.now.request) e; request = ap (λ (x : ChainState _). x.request) e }

module _ {L : Type 0} (history : L → List Answer) (token_of : L → ℕ) where
  linked : (t new : ChainState L) (idle left : Idle L) (said : List Said) → Supplied history token_of t new idle left said → Same t new
  linked t new idle left said (unwanted n e i) = same_path t new e
  linked t new idle left said (reuses link a f n l e) = record { hops = ap (λ (x : ChainState L). x.hops) e; under_way = ap (λ (x : ChainState L). x.now.request) e; request = ap (λ (x : ChainState L). x.request) e }
  linked t new idle left said (delays a o i e) = same_path t new e
  linked t new idle left said (opens link a o i h e) = record { hops = ap (λ (x : ChainState L). x.hops) e; under_way = ap (λ (x : ChainState L). x.now.request) e; request = ap (λ (x : ChainState L). x.request) e }
  linked t new idle left said (fails c a o i l e) = record { hops = ap (λ (x : ChainState L). x.hops) e; under_way = ap (λ (x : ChainState L). x.now.request) e; request = ap (λ (x : ChainState L). x.request) e }
  linked t new idle left said (reopens c link a o i l h e) = record { hops = ap (λ (x : ChainState L). x.hops) e; under_way = ap (λ (x : ChainState L). x.now.request) e; request = ap (λ (x : ChainState L). x.request) e }
  linked t new idle left said (gives_up c again a o i l m e) = record { hops = ap (λ (x : ChainState L). x.hops) e; under_way = ap (λ (x : ChainState L). x.now.request) e; request = ap (λ (x : ChainState L). x.request) e }
  linked t new idle left said (puts_off c a o i l e) = same_path t new e

  readied : (goes : Bool) (t new : ChainState L) (idle left : Idle L) (said : List Said) → Readies history token_of goes t new idle left said → Same t new
  readied true t new idle left said r = linked t new idle left said r
  readied false t new idle left said r = same_path t new r.0

  -- what a poll comes to, of a transfer with this request
  abbrev pub ComesTo : RequestValue → ChainState L → How → Type 0
  ComesTo request new (ends o) = o.request ≡ request
  ComesTo request new _ = BeginsRight new × (new.request ≡ request)

  first_more : (hops : List HopValue) (o : HopValue) (r : RequestValue) → first_by (hops ++ o ∷ []) r ≡ first_by hops o.request
  first_more [] o r = refl
  first_more (h ∷ hops) o r = refl

  first_is : (hops : List HopValue) (o : HopValue) → first_of hops o ≡ first_by hops o.request
  first_is [] o = refl
  first_is (h ∷ hops) o = refl

  goes_right : (t new : ChainState L) (mid : _) (o : HopValue) (how : How) → BeginsRight t → o.request ≡ t.now.request → GoesOn (halted t mid o) mid o new how → ComesTo t.request new how
  goes_right t new mid o how right same (follows next redirects few is e) = (
    ap (λ (x : ChainState L). first_by x.hops x.now.request) e ∙ first_more t.hops o next ∙ ap (λ (r : RequestValue). first_by t.hops r) same ∙ right ∙ sym (ap (λ (x : ChainState L). x.request) e),
    ap (λ (x : ChainState L). x.request) e,
  )
  goes_right t new mid o how right same (finishes c cause e home) = first_is t.hops o ∙ ap (λ (r : RequestValue). first_by t.hops r) same ∙ right

  stepped : (t new : ChainState L) (how : How) → BeginsRight t → Steps history t new how → ComesTo t.request new how
  stepped t new how right (waited turns e) =
      let request = ap (λ (x : ChainState L). x.request) e in
      let now = (Turns-waits history (clocked t.now) new.now turns).0 in
      (stays_right t new (record { hops = ap (λ (x : ChainState L). x.hops) e; under_way = now; request = request }) right, request)
  stepped t new how right (asked turns e) =
      let request = ap (λ (x : ChainState L). x.request) e in
      let now = (Turns-asks history (clocked t.now) new.now turns).0 in
      (stays_right t new (record { hops = ap (λ (x : ChainState L). x.hops) e; under_way = now; request = request }) right, request)
  stepped t new how right (ended o mid turns goes) = goes_right t new mid o how right (Turns-request history (clocked t.now) mid o turns) goes

  delivered : (request : RequestValue) (new : ChainState L) (went how : How) → ComesTo request new went → Delivers went how → ComesTo request new how
  delivered request new (ends end) (ends o) right d = ap (λ (x : OutcomeValue). x.request) d.is ∙ right
  delivered request new waits waits right d = right
  delivered request new asks asks right d = right
  delivered request new (ends end) waits right d = absurd d
  delivered request new (ends end) asks right d = absurd d
  delivered request new waits (ends o) right d = absurd d
  delivered request new waits asks right d = absurd d
  delivered request new asks (ends o) right d = absurd d
  delivered request new asks waits right d = absurd d

  -- a transfer that is looked at, made ready and polled
  pub polled_right : (now : ℕ) (goes room : Bool) (t offered ready new : ChainState L) (idle left : Idle L) (said : List Said) (went how : How) → BeginsRight t → MakesRoom t offered room
      → Readies history token_of goes (prepared now goes offered) ready idle left said → Steps history ready new went → Delivers went how → ComesTo t.request new how
  polled_right now goes room t offered ready new idle left said went how right makes readies steps delivers =
      let a = room_made t offered room makes in
      let b = readied goes (prepared now goes offered) ready idle left said readies in
      let s = same_then t offered ready a (same_then offered (prepared now goes offered) ready (record { hops = refl; under_way = refl; request = refl }) b) in
      subst (λ (r : RequestValue). ComesTo r new how) s.request (delivered ready.request new went how (stepped ready new went (stays_right t ready s right) steps) delivers)

-- the hops of a transfer that goes on begin with its request
leads_right : (most : ℕ) (first last : RequestValue) (hops : List HopValue) → LeadTo most first hops last → first_by hops last ≡ first
leads_right most first last [] e = sym e
leads_right most first last (o ∷ hops) leads = leads.0

pub begins_right : {L : Type 0} (t : ChainState L) → IsChain t → t.code ≡ None → BeginsRight t
begins_right t chain going = leads_right t.request.settings.max_redirects t.request t.now.request t.hops (chain.leads going)
