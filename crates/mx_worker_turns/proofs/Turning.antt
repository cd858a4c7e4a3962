-- A turn, from the results of its steps.
use Rattle.std.proofs.Common.{◌≡◌, ℕ, ◌+◌, ◌<◌, ◌↔◌, Bool, true, false, List, [], ◌∷◌, ◌++◌, length-append, arith, ap, subst, sym, ◌∙◌}
use Rattle.std.specs.Prelude.{IsTrue}
use Rattle.mx_types.specs.Limits.{most_transfers}
use Rattle.mx_link.specs.declared.answers.Answer.{Answer}
use Rattle.mx_turn.specs.Idle.{Idle}
use Rattle.mx_gate.specs.Said.{Said, told, waited}
use Rattle.mx_turn.specs.Workers.{Held, SetAside, Worker, in_hand, holds}
use Rattle.mx_turn.specs.Turn.{Each, Claims, keeps, finds_none, claims_one, Retries, GivesBack, holds_on, returns, Stops, GoesThrough, wait_of, relieved, relieves, WorkerTurn}
use Rattle.mx_turn.specs.Supplies.{Relieves as IdleRelieves}
use Rattle.mx_worker_turns.specs.WorkerSteps.{Relieves, beside}
use Rattle.mx_worker_turns.proofs.Looking.{handed_beside}

module _ {L : Type 0} (said : List Said) where
  claims_beside : (w v : Worker L) → Claims w v → Claims (beside w said) (beside v said)
  claims_beside w v (keeps why e) = keeps why (ap (λ (x : Worker L). beside x said) e)
  claims_beside w v (finds_none going room e) = finds_none going room (ap (λ (x : Worker L). beside x said) e)
  claims_beside w v (claims_one h has_room going room runs more e) = claims_one h has_room going room runs more (ap (λ (x : Worker L). beside x said) e)

  each_beside : {X : Type 0} (Step : X → Worker L → Worker L → Type 0) → ((x : X) (w v : Worker L) → Step x w v → Step x (beside w said) (beside v said)) → (xs : List X) (w v : Worker L) → Each Step xs w v → Each Step xs (beside w said) (beside v said)
  each_beside Step step [] w v e = ap (λ (x : Worker L). beside x said) e
  each_beside Step step (x ∷ xs) w v (mid, one, rest) = (beside mid said, step x w mid one, each_beside Step step xs mid v rest)

  retries_beside : (s : SetAside) (w v : Worker L) → Retries s w v → Retries s (beside w said) (beside v said)
  retries_beside s w v (f, e) = (f, ap (λ (x : Worker L). beside x said) e ∙ handed_beside f s.ticket s.outcome w said)

  gives_beside : (h : Held L) (w v : Worker L) → GivesBack h w v → GivesBack h (beside w said) (beside v said)
  gives_beside h w v (holds_on started e) = holds_on started (ap (λ (x : Worker L). beside x said) e)
  gives_beside h w v (returns r unstarted e) = returns r unstarted (ap (λ (x : Worker L). beside x said) e)

  stops_beside : (stop already : Bool) (w v : Worker L) → Stops stop already w v → Stops stop already (beside w said) (beside v said)
  stops_beside false already w v e = ap (λ (x : Worker L). beside x said) e
  stops_beside true true w v e = ap (λ (x : Worker L). beside x said) e
  stops_beside true false w v each = each_beside GivesBack gives_beside w.held (record w { is_stopping = true; held = [] }) v each

pub turn_is : {L : Type 0} (history : L → List Answer) (token_of : L → ℕ) (w eased claimed tried gone v : Worker L) (s0 s1 s2 s3 s4 : List Said) (now last : ℕ) (stop : Bool) → s1 ≡ s0 ++ told now ∷ [] → Relieves (record w { can_go_on = false }) eased s1 s2
    → Claims eased claimed → Each Retries claimed.set_aside (record claimed { set_aside = [] }) tried → GoesThrough history token_of last (beside gone s3) now true tried.held (record (beside tried s2) { held = [] })
    → s4 ≡ s3 ++ waited (wait_of last gone) stop ∷ [] → Stops stop gone.is_stopping gone v → WorkerTurn history token_of (beside w s0) (beside v s4)
turn_is {L} history token_of w eased claimed tried gone v s0 s1 s2 s3 s4 now last stop e1 eases claim retries each e4 stops =
    let begun : Worker L = record w { can_go_on = false } in
    let is_eased : beside eased s2 ≡ relieves eases.lacks (beside begun s1) =
    ap (λ (x : Worker L). beside x s2) eases.after ∙ ap (λ (s : List Said). record begun { idle = relieved eases.lacks begun.idle; said = s }) eases.meanwhile in
    let at_claimed : Claims (relieves eases.lacks (beside begun s1)) (beside claimed s2) = subst (λ (x : Worker L). Claims x (beside claimed s2)) is_eased (claims_beside s2 eased claimed claim) in
    record {
      now = now;
      last = last;
      lacks = eases.lacks;
      claimed = beside claimed s2;
      tried = beside tried s2;
      gone_through = beside gone s3;
      stop = stop;
      claim = subst (λ (s : List Said). Claims (relieves eases.lacks (beside begun s)) (beside claimed s2)) e1 at_claimed;
      retries = each_beside s2 Retries (retries_beside s2) claimed.set_aside (record claimed { set_aside = [] }) tried retries;
      each = each;
      stops = subst (λ (s : List Said). Stops stop gone.is_stopping (beside gone s) (beside v s4)) e4 (stops_beside s4 stop gone.is_stopping gone v stops);
    }

-- the idle links were dropped where its gate said that too many files are open
pub relieves_so : {L : Type 0} (w v : Worker L) (old new : Idle L) (was is : List Said) → w.idle ≡ old → v ≡ record w { idle = new } → IdleRelieves old new was is → Relieves w v was is
relieves_so {L} w v old new was is had left eases = record {
  lacks = eases.lacks;
  after = left ∙ ap (λ (i : Idle L). record w { idle = i }) (eases.drops ∙ ap (relieved eases.lacks) (sym had));
  meanwhile = eases.meanwhile;
}

-- whether there is room for one more, by how many are in flight once it holds the one that it has claimed
pub has_room_so : {L : Type 0} (w v : Worker L) (h : Held L) (has_room : Bool) (n : ℕ) → n ≡ in_hand v → v ≡ holds w h → IsTrue has_room ↔ (n < most_transfers) → IsTrue has_room ↔ (in_hand w + 1 < most_transfers)
has_room_so w v h has_room n many is room =
    let push = length-append w.held (h ∷ []) in
    let one_more : in_hand (holds w h) ≡ in_hand w + 1 = omega (arith, push) in
    subst (λ k. IsTrue has_room ↔ (k < most_transfers)) (many ∙ ap in_hand is ∙ one_more) room
