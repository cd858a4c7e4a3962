-- How a worker's links serve a transfer.
use Rattle.std.specs.Prelude.{◌≡◌, ◌⊎◌, ℕ, Bool, true, false, List, [], ◌∷◌, ◌++◌, Result, Ok, Err, IfOk, IfErr}
use Rattle.mx_types.specs.Code.{is_link_code}
use Rattle.mx_types.specs.declared.code.Code.{Code}
use Rattle.mx_request.specs.Endpoint.{HostAndPort}
use Rattle.mx_link.specs.declared.answers.Answer.{Answer}
use Rattle.mx_turn.specs.Idle.{Idle, HasNone, TakesNewest}
use Rattle.mx_chain.specs.Chains.{ChainState}
use Rattle.mx_gate.specs.Said.{Said, asked, opened, lacked, numbered}
use Rattle.mx_turn.specs.Turn.{Supplied, cleared, relieved, is_delayed}

-- the transfer got the link that it wants, or it learned that none can be opened yet (`delayed`). The gate had said `was` before, and has
-- said `is` since
pub record Supplies {L : Type 0} (history : L → List Answer) (token_of : L → ℕ) (t new : ChainState L) (idle left : Idle L) (was is : List Said) (delayed : Bool) : Type 0 where
  pub said : List Said
  pub supplied : Supplied history token_of t new idle left said
  pub meanwhile : is ≡ was ++ said
  pub delays : delayed ≡ is_delayed said

-- no idle link will do, and none was taken
pub record HasNoIdle {L : Type 0} (endpoint : HostAndPort) (fresh : Bool) (old new : Idle L) : Type 0 where
  pub why : (fresh ≡ true) ⊎ HasNone endpoint old.links
  pub same : new ≡ old

-- the newest one was taken, as one that was in use before will do
pub record TakesIdle {L : Type 0} (endpoint : HostAndPort) (fresh : Bool) (old : Idle L) (link : L) (new : Idle L) : Type 0 where
  pub unfresh : fresh ≡ false
  pub takes : TakesNewest endpoint old.links link new.links
  pub limit : new.limit ≡ old.limit

-- How the gate was to open a link to the endpoint, and what came of it. It had said `was` before, and has said `is` since.
pub data Opens {L : Type 0} (token_of : L → ℕ) (endpoint : HostAndPort) (old new : Idle L) (was is : List Said) (answer : Result L Code) : Type 0 where
  -- it opened one
  at_once : IfErr answer (λ _. ⊥) → new ≡ old → is ≡ was ++ opened endpoint (numbered token_of answer) ∷ [] → Opens token_of endpoint old new was is answer
  -- it couldn't, and not since too many files are open
  refused : IfOk answer (λ _. ⊥) → new ≡ old → is ≡ was ++ opened endpoint (numbered token_of answer) ∷ lacked false ∷ []
      → Opens token_of endpoint old new was is answer
  -- it couldn't for that cause; then all idle links were dropped, and this came of a second try
  once_more : (c : Code) → is_link_code c ≡ true → new ≡ cleared old
      → is ≡ was ++ opened endpoint (Err c) ∷ lacked true ∷ asked endpoint true ∷ opened endpoint (numbered token_of answer) ∷ []
      → Opens token_of endpoint old new was is answer

-- it couldn't for that cause; then all idle links were dropped, and it said that none can be opened yet
pub record IsPutOff {L : Type 0} (endpoint : HostAndPort) (old new : Idle L) (was is : List Said) : Type 0 where
  pub code : Code
  pub cause : is_link_code code ≡ true
  pub dropped : new ≡ cleared old
  pub meanwhile : is ≡ was ++ opened endpoint (Err code) ∷ lacked true ∷ asked endpoint false ∷ []

-- the gate was asked whether too many files are open: then all idle links were dropped
pub record Relieves {L : Type 0} (old new : Idle L) (was is : List Said) : Type 0 where
  pub lacks : Bool
  pub drops : new ≡ relieved lacks old
  pub meanwhile : is ≡ was ++ lacked lacks ∷ []
