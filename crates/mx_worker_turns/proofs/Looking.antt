-- Looking at a transfer, and polling it.
use Rattle.std.proofs.Common.{◌≡◌, ◌≢◌, ◌↔◌, ◌||◌, ◌&&◌, not, ℕ, Bool, true, false, List, [], ◌∷◌, ◌++◌, refl, sym, ap, subst, ◌∙◌, append_assoc, append-nil, Option, Some}
use Rattle.mx_types.specs.declared.names.Ticket.{Ticket}
use Rattle.mx_types.specs.declared.reply.Look.{Look}
use Rattle.mx_types.specs.declared.reply.Look.TheVariants as look
use Rattle.mx_link.specs.declared.answers.Answer.{Answer}
use Rattle.std.specs.Prelude.{IsTrue}
use Rattle.mx_exchange.specs.Exchanges.{WantsLink}
use Rattle.mx_turn.specs.Idle.{Idle}
use Rattle.mx_chain.specs.Chains.{ChainState, received_of}
use Rattle.mx_chain.specs.Outcomes.{OutcomeValue}
use Rattle.mx_chain.specs.Steps.{waits}
use Rattle.mx_gate.specs.Said.{Said}
use Rattle.mx_transfer_core.specs.Deliveries.{MakesRoom}
use Rattle.mx_turn.specs.Supplies.{Supplies}
use Rattle.mx_turn.specs.Workers.{Held, Worker, does, holds, Finish, recorded, stale, lacking, unseated, Return, Deed, looks, notes, gives_back}
use Rattle.mx_turn.specs.Turn.{handed_in, is_delayed, prepared, unlinked, Keeps, Readies, Settles, Supplied, LooksAt, lets_go, serves, is_go}
use Rattle.mx_worker_turns.specs.WorkerSteps.{beside, IsNoted, IsReadied, Advances, Serves}

-- the same in each part
pub alike : {L : Type 0} (w v : Worker L) → w.held ≡ v.held → w.set_aside ≡ v.set_aside → w.idle ≡ v.idle → w.is_stopping ≡ v.is_stopping → w.can_go_on ≡ v.can_go_on → w.did ≡ v.did → w.said ≡ v.said → w ≡ v
alike w v a b c d e f g = λ i. record { held = a i; set_aside = b i; idle = c i; is_stopping = d i; can_go_on = e i; did = f i; said = g i }

-- what the gate said is kept beside it
pub handed_beside : {L : Type 0} (f : Finish) (t : Ticket) (o : OutcomeValue) (w : Worker L) (said : List Said) → beside (handed_in t o f w) said ≡ handed_in t o f (beside w said)
handed_beside recorded t o w said = refl
handed_beside stale t o w said = refl
handed_beside lacking t o w said = refl
handed_beside unseated t o w said = refl

-- one that waits is held on, and could go on at once, or couldn't
pub settles_on : {L : Type 0} (h : Held L) (goes delayed wants could : Bool) (w v : Worker L) (said : List Said) → IsTrue wants ↔ WantsLink h.transfer.now → could ≡ (goes && (not delayed && wants))
    → v ≡ holds (record w { can_go_on = w.can_go_on || could }) h → Settles h goes delayed (beside w said) (beside v said) waits
settles_on h goes delayed wants could w v said is so e =
    (wants, is, ap (λ (x : Worker _). beside x said) e ∙ ap (λ (b : Bool). beside (holds (record w { can_go_on = w.can_go_on || b }) h) said) so)

module _ {L : Type 0} (history : L → List Answer) (token_of : L → ℕ) where
  -- one that is paused
  pub ready_paused : (now : ℕ) (goes : Bool) (t ready : ChainState L) (w : Worker L) → goes ≡ false → ready ≡ prepared now goes t → IsReadied history token_of (prepared now goes t) ready goes false w w
  ready_paused now goes t ready w e r =
      subst (λ (b : Bool). (ready ≡ prepared now b t → IsReadied history token_of (prepared now b t) ready b false w w)) (sym e)
      (λ same. record { idle = w.idle; said = []; readies = (same, refl, refl); delays = refl; after = ap (λ (x : List Said). record w { said = x }) (sym (append-nil w.said)) }) r

  -- one that was given a link, if it wants one
  pub ready_on : (now : ℕ) (goes delayed : Bool) (t mid ready : ChainState L) (w : Worker L) (left : Idle L) (is : List Said) → goes ≡ true → mid ≡ prepared now goes t → Supplies history token_of mid ready w.idle left w.said is delayed
      → IsReadied history token_of (prepared now goes t) ready goes delayed w (record w { idle = left; said = is })
  ready_on now goes delayed t mid ready w left is e m s =
      let at : Supplied history token_of (prepared now goes t) ready w.idle left s.said = subst (λ (x : ChainState L). Supplied history token_of x ready w.idle left s.said) m s.supplied in
      subst (λ (b : Bool). (Supplied history token_of (prepared now b t) ready w.idle left s.said → IsReadied history token_of (prepared now b t) ready b delayed w (record w { idle = left; said = is }))) (sym e)
      (λ given. record { idle = left; said = s.said; readies = given; delays = s.delays; after = ap (λ (x : List Said). record w { idle = left; said = x }) s.meanwhile }) at

  -- one whose delivery made room, and that was made ready and served
  pub advanced : (now : ℕ) (h : Held L) (may room goes delayed : Bool) (w mid v : Worker L) (offered ready : ChainState L) → MakesRoom h.transfer offered room → goes ≡ (may && room)
      → IsReadied history token_of (prepared now goes offered) ready goes delayed w mid → Serves history (record h { transfer = ready }) goes delayed mid v → Advances history token_of now h may w v
  advanced now h may room goes delayed w mid v offered ready m e r s =
      let noted : IsNoted (record h { transfer = s.polls.new }) s.left mid s.mid = s.polls.noted in
      record {
        room = room;
        offered = offered;
        ready = ready;
        new = s.polls.new;
        idle = r.idle;
        left = noted.idle;
        said = r.said;
        how = s.how;
        makes = m;
        readies = subst (λ (b : Bool). Readies history token_of b (prepared now b offered) ready w.idle r.idle r.said) e r.readies;
        polled = s.polls.polled;
        keeps = subst (λ (x : Worker L). Keeps s.polls.new x.idle noted.idle) r.after noted.keeps;
        settles = subst (λ (x : Worker L). Settles (record h { transfer = unlinked s.polls.new }) (may && room) (is_delayed r.said) (record x { idle = noted.idle; did = x.did ++ notes h.ticket h.slot (received_of s.polls.new) ∷ [] }) v s.how) r.after
            (subst (λ (x : Worker L). Settles (record h { transfer = unlinked s.polls.new }) (may && room) (is_delayed r.said) x v s.how) noted.after
            (subst (λ (t : ChainState L). Settles (record h { transfer = t }) (may && room) (is_delayed r.said) s.mid v s.how) noted.unlinks
            (subst (λ (b : Bool). Settles (record h { transfer = s.left }) (may && room) b s.mid v s.how) r.delays
            (subst (λ (b : Bool). Settles (record h { transfer = s.left }) b delayed s.mid v s.how) e s.settles))));
      }

  -- what was looked at, and given back, as it was gone
  pub looks_gone : (now : ℕ) (h : Held L) (w v : Worker L) (d : List (Deed L)) (said : List Said) → d ≡ w.did ++ looks h.ticket (Some look.Gone) ∷ [] → (r : Return) × (v ≡ does (record w { did = d }) (gives_back h r))
      → LooksAt history token_of now h (beside w said) (beside v said)
  looks_gone now h w v d said e (r, is) =
      lets_go r (ap (λ (x : Worker L). beside x said) is ∙ ap (λ (x : List (Deed L)). beside (does (record w { did = x }) (gives_back h r)) said) e)

  -- what was looked at and polled
  pub looks_on : (now : ℕ) (h : Held L) (seen : Option Look) (w v : Worker L) (d : List (Deed L)) → seen ≢ Some look.Gone → d ≡ w.did ++ looks h.ticket seen ∷ [] → Advances history token_of now h (is_go seen) (record w { did = d }) v
      → LooksAt history token_of now h w v
  looks_on now h seen w v d ne e a =
      let more : d ++ notes h.ticket h.slot (received_of a.new) ∷ [] ≡ w.did ++ looks h.ticket seen ∷ notes h.ticket h.slot (received_of a.new) ∷ [] =
      ap (λ (x : List (Deed L)). x ++ notes h.ticket h.slot (received_of a.new) ∷ []) e ∙ append_assoc w.did (looks h.ticket seen ∷ []) (notes h.ticket h.slot (received_of a.new) ∷ []) in
      serves seen a.room a.offered a.ready a.new a.idle a.left a.said a.polled.went a.how ne a.makes a.readies a.polled.steps a.polled.delivers a.keeps
      (subst (λ (x : List (Deed L)). Settles (record h { transfer = unlinked a.new }) (is_go seen && a.room) (is_delayed a.said) (record w { idle = a.left; did = x; said = w.said ++ a.said }) v a.how) more a.settles)
