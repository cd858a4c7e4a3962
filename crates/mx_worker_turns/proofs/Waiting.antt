-- What a poll that waits leaves, and a transfer that a poll wouldn't change.
use Rattle.std.proofs.Common.{◌≡◌, ◌∙◌, ◌&&◌, not, ℕ, Bool, true, false, List, Some, None, refl, sym, ap, subst, inl, inr}
use Rattle.std.specs.Prelude.{IsTrue, ◌↔◌, ◌||◌, if◌then◌else◌}
use Rattle.mx_types.specs.declared.code.Code.{Code}
use Rattle.mx_link.specs.declared.answers.Answer.{Answer}
use Rattle.mx_exchange.specs.Exchanges.{ExchangeState, WantsLink, IsDue, clocked, first_deadline}
use Rattle.mx_exchange.specs.Turns as hop
use Rattle.mx_exchange.specs.Turns.{Turns, Exchanged, Probed, refused, turned, unserved, lost, blocked}
use Rattle.mx_chain.specs.Chains.{ChainState}
use Rattle.mx_chain.specs.Steps.{How, waits, asks, ends, Steps, waited, ended}
use Rattle.mx_gate.specs.Said.{Said}
use Rattle.mx_transfer_core.specs.Deliveries.{MakesRoom, takes, has_none, has_failed}
use Rattle.mx_transfer_core.specs.Cores.{Delivers, IsPolled, how_of}
use Rattle.mx_transfer_core.specs.declared.polled.Polled.{Polled}
use Rattle.mx_transfer_core.specs.declared.polled.Polled.TheVariants as polled
use Rattle.mx_turn.specs.Idle.{Idle}
use Rattle.mx_turn.specs.Workers.{Held, Worker, holds}
use Rattle.mx_turn.specs.Turn.{Readies, Supplied, prepared, unwanted, reuses, delays, opens, fails, reopens, gives_up, puts_off}
use Rattle.mx_turn.specs.Engines.{HasWaited}
use Rattle.mx_worker_turns.specs.WorkerSteps.{AwaitsLink, IfWaits, IsNoted, IsReadied, Polls, Serves, beside}
use Rattle.mx_worker_turns.proofs.Looking.{settles_on}

module _ {L : Type 0} (history : L → List Answer) where
  probed : (t mid : ExchangeState L) → t.is_polled ≡ true → Probed history t mid → HasWaited mid
  probed t mid polled (inl (none, same)) = rw same (polled, none)
  probed t mid polled (inr blocks) = rw blocks.after (polled, refl)

  exchanged : (t new : ExchangeState L) → HasWaited t → Exchanged history t new hop.waits → HasWaited new
  exchanged t new h (unserved none same) = rw same h
  exchanged t new h (lost last answered order retries same) = rw same (h.0, refl)
  exchanged t new h (blocked answered blocks goes) = (ap (λ (x : ExchangeState L). x.is_polled) goes ∙ h.0, ap (λ (x : ExchangeState L). x.needs_probe) goes ∙ h.1)

  turned_so : (t new : ExchangeState L) → t.is_polled ≡ true → Turns history t new hop.waits → HasWaited new
  turned_so t new polled (refused may failing) = rw failing.after (polled, refl)
  turned_so t new polled (turned may mid probe over) = exchanged mid new (probed t mid polled probe) over

  stepped_so : (t new : ChainState L) → Steps history t new waits → HasWaited new.now
  stepped_so t new (waited turns same) = turned_so (clocked t.now) new.now refl turns
  stepped_so t new (ended o mid turns goes) = elim goes [ ]

  polled_so : (t new : ChainState L) (went : How) → Steps history t new went → Delivers went waits → HasWaited new.now
  polled_so t new waits steps delivers = stepped_so t new steps
  polled_so t new asks steps delivers = absurd delivers
  polled_so t new (ends o) steps delivers = absurd delivers

  -- a poll that waits
  pub has_waited_so : (t new : ChainState L) → IsPolled history t new waits → HasWaited new.now
  has_waited_so t new p = polled_so t new p.went p.steps p.delivers

  -- the same, by what the poll came to
  pub if_waits : {D : Type 0} (t new : ChainState L) (p : Polled D) → IsPolled history t new (how_of p) → IfWaits p (HasWaited new.now)
  if_waits t new polled.Waits is = has_waited_so t new is
  if_waits t new polled.Asks is = tt
  if_waits t new (polled.Ended o) is = tt

  clocked_already : (t : ExchangeState L) → t.is_polled ≡ true → clocked t ≡ t
  clocked_already t polled = λ i. record t {
    is_polled = sym polled i;
    deadline = ap (λ (b : Bool). if b then t.deadline else first_deadline t.request t.moment) polled i;
  }

  -- a poll of one that it wouldn't change
  pub rests : (t : ChainState L) → AwaitsLink t.now → IsPolled history t t waits
  rests t a =
      let turns : Turns history t.now t.now hop.waits = turned ((a.early, a.wants.2), a.unpaused) t.now (inl (a.waited.1, refl)) (unserved a.wants.1 refl) in
      record {
        went = waits;
        steps = waited (subst (λ (x : ExchangeState L). Turns history x t.now hop.waits) (sym (clocked_already t.now a.waited.0)) turns) refl;
        delivers = tt;
      }

  module _ (token_of : L → ℕ) (t ready : ChainState L) (wants : WantsLink ready.now) where
    linked : (A : Type 0) (link : L) (same : ready.now.link ≡ Some link) → A
    linked A link same = let x : Some link ≡ None = sym same ∙ wants.1 in absurd cc

    failed : (A : Type 0) (c : Code) (same : ready.now.failure ≡ Some c) → A
    failed A c same = let x : Some c ≡ None = sym same ∙ wants.2 in absurd cc

    -- one that wants a link still was given none
    ready_same : (idle left : Idle L) (said : List Said) → Supplied history token_of t ready idle left said → ready ≡ t
    ready_same idle left said (unwanted n same i) = same
    ready_same idle left said (reuses link a f n l same) = linked _ link (ap (λ (x : ChainState L). x.now.link) same)
    ready_same idle left said (delays a o i same) = same
    ready_same idle left said (opens link a o i h same) = linked _ link (ap (λ (x : ChainState L). x.now.link) same)
    ready_same idle left said (fails c a o i l same) = failed _ c (ap (λ (x : ChainState L). x.now.failure) same)
    ready_same idle left said (reopens c link a o i l h same) = linked _ link (ap (λ (x : ChainState L). x.now.link) same)
    ready_same idle left said (gives_up c again a o i l m same) = failed _ again (ap (λ (x : ChainState L). x.now.failure) same)
    ready_same idle left said (puts_off c a o i l same) = same

made : {L : Type 0} (t new : ChainState L) (room : Bool) → MakesRoom t new room → room ≡ true → new ≡ t
made t new room (takes same) e = same
made t new room (has_none limit same) e = same
made t new room (has_failed c limit given same) e = let x : false ≡ true = e in absurd cc

last : (a b : Bool) → (a && b) ≡ true → b ≡ true
last true b e = e
last false b e = let x : false ≡ true = e in absurd cc

-- One that is ready, and that a poll wouldn't change: the last one waited, it wants a link still, and no deadline has come.
pub awaits : {L : Type 0} (history : L → List Answer) (token_of : L → ℕ) (now : ℕ) (may room goes delayed : Bool) (old offered ready : ChainState L) (w v : Worker L) → HasWaited old.now → MakesRoom old offered room
    → goes ≡ (may && room) → IsReadied history token_of (prepared now goes offered) ready goes delayed w v → goes ≡ true → WantsLink ready.now → ¬ (IsDue ready.now.deadline now) → AwaitsLink ready.now
awaits {L = L} history token_of now may room goes delayed old offered ready w v before makes e r on wants early =
    let same : ready ≡ prepared now goes offered = ready_same history token_of (prepared now goes offered) ready wants w.idle r.idle r.said (subst (λ (b : Bool). Readies history token_of b (prepared now goes offered) ready w.idle r.idle r.said) on r.readies) in
    record {
      waited = subst (λ (x : ChainState L). HasWaited x.now) (sym same) (subst (λ (x : ChainState L). HasWaited x.now) (sym (made old offered room makes (last may room (sym e ∙ on)))) before);
      wants = wants;
      early = subst (λ (m : ℕ). ¬ (IsDue ready.now.deadline m)) (sym (ap (λ (x : ChainState L). x.now.moment) same)) early;
      unpaused = ap (λ (x : ChainState L). x.now.is_paused) same ∙ ap not on;
    }

-- what was noted, beside what the gate said
pub noted_beside : {L : Type 0} (h : Held L) (left : ChainState L) (w v : Worker L) (said : List Said) → IsNoted h left w v → IsNoted h left (beside w said) (beside v said)
noted_beside h left w v said n = record { idle = n.idle; keeps = n.keeps; unlinks = n.unlinks; after = ap (λ (x : Worker _). beside x said) n.after }

-- what was polled, beside what the gate said
pub polls_beside : {L : Type 0} (history : L → List Answer) (h : Held L) (left : ChainState L) (w v : Worker L) (said : List Said) (how : How) → Polls history h left w v how → Polls history h left (beside w said) (beside v said) how
polls_beside history h left w v said how p = record { new = p.new; polled = p.polled; noted = noted_beside (record h { transfer = p.new }) left w v said p.noted }

wanted : {L : Type 0} (h : Held L) (left : ChainState L) (w v : Worker L) → IsNoted h left w v → AwaitsLink h.transfer.now → IsTrue true ↔ WantsLink left.now
wanted h left w v n a = (λ _. subst (λ (x : ChainState _). WantsLink x.now) (sym n.unlinks) a.wants, λ _. refl)

-- One that a poll wouldn't change is held on without one.
pub rests_on : {L : Type 0} (history : L → List Answer) (h : Held L) (delayed could : Bool) (left : ChainState L) (w mid v : Worker L) (said : List Said) → AwaitsLink h.transfer.now → IsNoted h left w mid
    → could ≡ (true && (not delayed && true)) → v ≡ holds (record mid { can_go_on = mid.can_go_on || could }) (record h { transfer = left }) → Serves history h true delayed (beside w said) (beside v said)
rests_on history h delayed could left w mid v said a n so e = record {
  left = left;
  mid = beside mid said;
  how = waits;
  polls = record { new = h.transfer; polled = rests history h.transfer a; noted = noted_beside h left w mid said n };
  settles = settles_on (record h { transfer = left }) true delayed true could mid v said (wanted h left w mid n a) so e;
}

-- the same, of one that goes on
pub serves_on : {L : Type 0} (history : L → List Answer) (h : Held L) (goes delayed : Bool) (w v : Worker L) → goes ≡ true → Serves history h true delayed w v → Serves history h goes delayed w v
serves_on history h goes delayed w v on s = subst (λ (b : Bool). Serves history h b delayed w v) (sym on) s
