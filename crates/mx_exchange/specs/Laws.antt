-- What holds of every hop, and of every exchange's life.
use Rattle.std.specs.Prelude.{◌≡◌, ℕ, ◌+◌, ◌≤◌, ◌⊎◌, ◌&&◌, Bool, true, false, List, [], Some, None, is_some, is_none, if◌then◌else◌}
use Rattle.mx_types.specs.declared.code.Code.TheVariants as code
use Rattle.mx_link.specs.declared.answers.Answer.{Answer}
use Rattle.mx_exchange.specs.Exchanges.{HopValue, ExchangeState, clocked}
use Rattle.mx_exchange.specs.Turns.{How, Turns}
use Rattle.mx_exchange.specs.Hops.{IsHop, HasBody, HasContent, is_hop_code}

-- with code 0 the parts and what was handed on are the content of the response
abbrev pub OkHasBody : Type 0
OkHasBody = (o : HopValue) → IsHop o → o.code ≡ code.Ok → HasBody o

-- and where it is held the parts are
abbrev pub OkHasContent : Type 0
OkHasContent = (o : HopValue) → IsHop o → o.code ≡ code.Ok → o.limit ≡ None → HasContent o

-- where the response is held nothing is handed on, and memory has all its bytes
abbrev pub HeldHasAll : Type 0
HeldHasAll = (o : HopValue) → IsHop o → o.limit ≡ None → (o.content ≡ []) × (o.kept ≡ o.wire)

-- a hop has one of the listed codes
abbrev pub CodesAreListed : Type 0
CodesAreListed = (o : HopValue) → IsHop o → is_hop_code o.code o.limit ≡ true

-- whether the link that there was is gone
abbrev pub drops : {L : Type 0} → ExchangeState L → ExchangeState L → ℕ
drops t new = if is_some t.link && is_none new.link then 1 else 0

-- An exchange's life: the calls on it, one after another, and how many of its turns dropped the link that there was. A call that isn't
-- a turn and attaches nothing leaves the link, or hands it out.
pub data Life {L : Type 0} (history : L → List Answer) : ExchangeState L → ℕ → Type 0 where
  begins : {t : ExchangeState L} → t.needs_fresh ≡ false → t.is_reused ≡ false → t.needs_probe ≡ false → Life history t 0
  attaches : {t : ExchangeState L} {n : ℕ} → Life history t n → (link : L) (reused : Bool) → (t.needs_fresh ≡ true → reused ≡ false)
      → Life history (record t { link = Some link; attached = Some link; answers = []; is_reused = reused; needs_probe = reused; is_started = true }) n
  polls : {t : ExchangeState L} {n : ℕ} → Life history t n → (new : ExchangeState L) (how : How) → Turns history (clocked t) new how
      → Life history new (n + drops t new)
  goes_on : {t new : ExchangeState L} {n : ℕ} → Life history t n → new.needs_fresh ≡ t.needs_fresh
      → ((new.is_reused ≡ t.is_reused) × (new.needs_probe ≡ t.needs_probe)) ⊎ ((new.is_reused ≡ false) × (new.needs_probe ≡ false)) → Life history new n

-- so an exchange drops at most one link, and tries its request again at most once
abbrev pub DropsOnce : {L : Type 0} → (L → List Answer) → Type 0
DropsOnce {L} history = (t : ExchangeState L) (n : ℕ) → Life history t n → n ≤ 1
