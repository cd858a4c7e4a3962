-- What one turn of an exchange does.
use Rattle.std.specs.Prelude.{◌≡◌, ◌≢◌, ℕ, ◌≤◌, Bool, true, false, List, [], ◌∷◌, ◌++◌, length, Option, Some, None, ◌⊎◌, count_by}
use Rattle.mx_types.specs.declared.code.Code.TheVariants as code
use Rattle.mx_body.specs.Decision.{HasStatus}
use Rattle.mx_reader.specs.Judgements.{Judgement}
use Rattle.mx_reader.specs.Readers.{may_keep}
use Rattle.mx_link.specs.Answers.{is_connect, is_read, is_write, is_blocked, given}
use Rattle.mx_link.specs.declared.answers.Answer.{Answer}
use Rattle.mx_link.specs.declared.answers.Answer.TheVariants as said
use Rattle.mx_exchange.specs.declared.exchanges.turns.Turned.{Turned}
use Rattle.mx_exchange.specs.declared.exchanges.turns.Turned.TheVariants as went
use Rattle.mx_line.specs.Order.{InOrder, most_turn_writes}
use Rattle.mx_line.specs.Endings.{EndsBy, MustRetry}
use Rattle.mx_exchange.specs.Exchanges.{HopValue, ExchangeState, IsDue, LinkTold, capped, dropped}

-- no deadline has come, and no code was given in place of a link
abbrev pub IsOnTime : {L : Type 0} → ExchangeState L → Type 0
IsOnTime t = ¬ (IsDue t.deadline t.moment) × (t.failure ≡ None)

-- rule exchange-pause: A pause stops the link and not the deadline.
--
-- it may touch its link
abbrev pub MayTouch : {L : Type 0} → ExchangeState L → Type 0
MayTouch t = IsOnTime t × (t.is_paused ≡ false)

-- a reused link was asked for a byte first, and had none: from then on it serves this exchange
pub record ProbeBlocks {L : Type 0} (history : L → List Answer) (t new : ExchangeState L) : Type 0 where
  pub link : L
  pub next : L
  pub needed : t.needs_probe ≡ true
  pub had : t.link ≡ Some link
  pub told : history next ≡ history link ++ said.ReadBlocked ∷ []
  pub after : new ≡ record t { link = Some next; attached = Some next; needs_probe = false }

-- rule exchange-probe: A reused link is probed by a read of one byte before it is used: anything but "would block" drops it, and its bytes
-- are in no wire.
--
-- it gave a byte, had ended or failed, and is dropped
pub record ProbeFails {L : Type 0} (history : L → List Answer) (t new : ExchangeState L) : Type 0 where
  pub link : L
  pub gone : L
  pub answer : Answer
  pub needed : t.needs_probe ≡ true
  pub had : t.link ≡ Some link
  pub told : history gone ≡ history link ++ answer ∷ []
  pub read : is_read answer ≡ true
  pub unblocked : answer ≢ said.ReadBlocked
  pub after : new ≡ dropped t

-- no probe was needed, or it found nothing
abbrev pub Probed : {L : Type 0} → (L → List Answer) → ExchangeState L → ExchangeState L → Type 0
Probed history t mid = ((t.needs_probe ≡ false) × (mid ≡ t)) ⊎ ProbeBlocks history t mid

-- rule exchange-turn-limits: A turn makes at most one connect, 64 writes and 64 reads, and then asks for another. Where the content is handed
-- on it makes at most 16 reads, of 262,144 bytes together.
--
-- the most reads of one turn, by the limit of the content that is handed on
abbrev pub most_turn_reads : Option ℕ → ℕ
most_turn_reads None = 64
most_turn_reads (Some limit) = 16

-- what the link answered in this turn, and how much it was asked at most
pub record Answered {L : Type 0} (history : L → List Answer) (t new : ExchangeState L) : Type 0 where
  pub more : List Answer
  pub noted : new.answers ≡ t.answers ++ more
  pub asked : more ≢ []
  pub told : LinkTold history t.link new.link more
  pub served : t.link ≢ None
  pub connects : count_by is_connect more ≤ 1
  pub reads : count_by is_read more ≤ most_turn_reads t.limit
  pub writes : count_by is_write more ≤ most_turn_writes

-- only the link, its answers and what was handed on of them have changed, and the bytes received are those that it gave
abbrev pub GoesOn : {L : Type 0} → ExchangeState L → ExchangeState L → Type 0
GoesOn t new =
    new ≡ record t { link = new.link; answers = new.answers; received = capped (length (given new.answers)); content = new.content }

-- the last answer would have waited
abbrev pub EndsBlocked : List Answer → Type 0
EndsBlocked more = (earlier : List Answer) × (last : Answer) × (more ≡ earlier ++ last ∷ []) × (is_blocked last ≡ true)

-- it has ended with the hop
pub record EndsWith {L : Type 0} (t new : ExchangeState L) (o : HopValue) : Type 0 where
  pub request : o.request ≡ t.request
  pub limit : o.limit ≡ t.limit
  pub status : HasStatus o.wire o.status
  pub answers : o.answers ≡ new.answers
  pub reused : o.is_reused ≡ t.is_reused
  pub after : new ≡ record t {
    link = new.link;
    answers = new.answers;
    code = Some o.code;
    is_kept = new.is_kept;
    received = capped (length o.wire);
    content = [];
  }

-- it has ended untouched, with no body and no link to keep
pub record StopsWith {L : Type 0} (t new : ExchangeState L) (o : HopValue) : Type 0 where
  pub ends : EndsWith t new o
  pub link : new.link ≡ t.link
  pub answers : new.answers ≡ t.answers
  pub unkept : new.is_kept ≡ false
  pub wire : o.wire ≡ given t.answers
  pub parts : o.parts ≡ []
  pub content : o.content ≡ t.content

-- rule exchange-kept-link: A link may serve again where the response says so and is all that was read.
--
-- it has ended over its link
pub record EndsOver {L : Type 0} (t new : ExchangeState L) (o : HopValue) : Type 0 where
  pub ends : EndsWith t new o
  pub judgement : Judgement
  pub cause : EndsBy t.limit t.request.method new.answers o.wire judgement o.code
  pub parts : o.parts ≡ judgement.parts
  pub content : o.content ≡ judgement.content
  pub kept : new.is_kept ≡ may_keep judgement o.wire

-- the result of a turn: it waits, it asks for another turn, or it ends
pub data How : Type 0 where
  waits : How
  asks : How
  ends : HopValue → How

-- a turn over the link, if there is one, that needs no probe
pub data Exchanged {L : Type 0} (history : L → List Answer) (t new : ExchangeState L) : How → Type 0 where
  unserved : t.link ≡ None → new ≡ t → Exchanged history t new waits
  lost : (last : ExchangeState L) → Answered history t last → InOrder t.is_reused t.request.bytes last.answers
      → MustRetry t.request.method t.is_reused last.answers → new ≡ dropped t → Exchanged history t new waits
  blocked : (a : Answered history t new) → EndsBlocked a.more → GoesOn t new → Exchanged history t new waits
  unfinished : (a : Answered history t new) → (count_by is_read a.more ≡ most_turn_reads t.limit) ⊎ (count_by is_write a.more ≡ most_turn_writes)
      → GoesOn t new → Exchanged history t new asks
  ended : {o : HopValue} → Answered history t new → EndsOver t new o
      → ¬ (MustRetry t.request.method t.is_reused new.answers) → Exchanged history t new (ends o)

-- rule exchange-order: A turn of an exchange whose clock runs looks first at the deadline, then at the code given in place of a link, then
-- at the pause; then comes the probe of a reused link, and then what the link is asked in order, if there is one.
pub data Turns {L : Type 0} (history : L → List Answer) (t new : ExchangeState L) : How → Type 0 where
  late : {o : HopValue} → IsDue t.deadline t.moment → o.code ≡ code.OperationTimedout → StopsWith t new o
      → Turns history t new (ends o)
  given_up : {o : HopValue} → ¬ (IsDue t.deadline t.moment) → t.failure ≡ Some o.code → StopsWith t new o
      → Turns history t new (ends o)
  paused : IsOnTime t → t.is_paused ≡ true → new ≡ t → Turns history t new asks
  refused : MayTouch t → ProbeFails history t new → Turns history t new waits
  turned : {how : How} → MayTouch t → (mid : ExchangeState L) → Probed history t mid → Exchanged history mid new how
      → Turns history t new how

-- the result of a turn
abbrev pub how_of : Turned → How
how_of went.Waits = waits
how_of went.Asks = asks
how_of (went.Ended o) = ends o

-- what was handed on: the hop has it, where the turn ended it
abbrev pub content_by : {L : Type 0} → ExchangeState L → How → List ℕ
content_by new (ends o) = o.content
content_by new _ = new.content

-- the bytes of the response so far: the hop has them, where the turn ended it
abbrev pub wire_by : {L : Type 0} → ExchangeState L → How → List ℕ
wire_by new (ends o) = o.wire
wire_by new _ = given new.answers

-- this holds for the hop, where the turn ended it
abbrev pub IfEnded : Turned → (HopValue → Type 0) → Type 0
IfEnded (went.Ended o) P = P o
IfEnded _ P = Unit {0}

-- where it goes on
abbrev pub IfGoing : Turned → Type 0 → Type 0
IfGoing (went.Ended o) P = Unit {0}
IfGoing _ P = P

-- what the probe leaves: a link that stays, or none
abbrev pub ProbeSo : {L : Type 0} → Bool → (L → List Answer) → ExchangeState L → ExchangeState L → Type 0
ProbeSo true history t new = Probed history t new
ProbeSo false history t new = ProbeFails history t new
