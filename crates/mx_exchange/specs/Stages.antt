-- An exchange that goes on, or has ended.
use Rattle.std.specs.Prelude.{◌≡◌, ℕ, ◌≤◌, Bool, true, false, List, [], length, Option, Some, None, IfSome, option_map, unwrap_or, ◌⊎◌}
use Rattle.mx_types.specs.declared.code.Code.{Code}
use Rattle.mx_types.specs.declared.code.Code.TheVariants as code
use Rattle.mx_request.specs.Request.{RequestValue}
use Rattle.mx_link.specs.declared.answers.Answer.{Answer}
use Rattle.mx_line.specs.Lines.{LineState, IsLine, IsGoing, MayHandOut}
use Rattle.mx_line.specs.Endings.{is_stop_code}
use Rattle.mx_exchange.specs.Exchanges.{ExchangeState, IsDue, capped, most_received}
use Rattle.mx_exchange.specs.Turns.{IsOnTime, MayTouch}
use Rattle.mx_flow.specs.Streams.{limit_of}
use Rattle.mx_exchange.specs.declared.handling.Handling.{Handling}
use Rattle.mx_exchange.specs.declared.handling.Handling.TheVariants as handling
use Rattle.mx_exchange.specs.declared.exchanges.turns.Before.{Before}
use Rattle.mx_exchange.specs.declared.exchanges.turns.Before.TheVariants as before
use Rattle.mx_exchange.specs.declared.exchanges.stages.Live.{Live}
use Rattle.mx_exchange.specs.declared.exchanges.stages.Ended.{Ended}
use Rattle.mx_exchange.specs.declared.exchanges.stages.Stage.{Stage}
use Rattle.mx_exchange.specs.declared.exchanges.stages.Stage.TheVariants as stage

-- what is known of the link, if there is one
abbrev pub link_of : {L : Type 0} → Option (LineState L) → Option L
link_of line = option_map (λ l. l.link) line

abbrev pub attached_of : {L : Type 0} → Option (LineState L) → Option L
attached_of line = option_map (λ l. l.attached) line

abbrev pub answers_of : {L : Type 0} → Option (LineState L) → List Answer
answers_of line = unwrap_or (option_map (λ l. l.answers) line) []

abbrev pub reused_of : {L : Type 0} → Option (LineState L) → Bool
reused_of line = unwrap_or (option_map (λ l. l.is_reused) line) false

abbrev pub probe_of : {L : Type 0} → Option (LineState L) → Bool
probe_of line = unwrap_or (option_map (λ l. l.needs_probe) line) false

-- the most bytes of content that are handed on, and nothing where the response is held
abbrev pub limit_by : Handling → Option ℕ
limit_by handling.Held = None
limit_by (handling.Flowing most_bytes) = Some (limit_of most_bytes)

-- the link of a stage, its code, whether the link may be taken, how many bytes came, and what was handed on of them
abbrev pub line_of : {L : Type 0} → Stage L → Option (LineState L)
line_of (stage.Live o) = o.line
line_of (stage.Ended e) = e.line

abbrev pub code_of : {L : Type 0} → Stage L → Option Code
code_of (stage.Live o) = None
code_of (stage.Ended e) = Some e.code

abbrev pub kept_of : {L : Type 0} → Stage L → Bool
kept_of (stage.Live o) = false
kept_of (stage.Ended e) = e.is_kept

abbrev pub received_of : {L : Type 0} → Stage L → ℕ
received_of (stage.Live o) = capped (length o.reader.wire)
received_of (stage.Ended e) = e.received

abbrev pub content_of : {L : Type 0} → Stage L → List ℕ
content_of (stage.Live o) = o.reader.judgement.content
content_of (stage.Ended e) = []

-- the exchange, as it goes on with this
abbrev pub alive : {L : Type 0} → ExchangeState L → Live L → ExchangeState L
alive t o = record t {
  link = link_of o.line;
  attached = attached_of o.line;
  answers = answers_of o.line;
  is_reused = reused_of o.line;
  needs_probe = probe_of o.line;
  code = None;
  is_kept = false;
  received = capped (length o.reader.wire);
  content = o.reader.judgement.content;
}

-- the exchange, as it has ended with this
abbrev pub over : {L : Type 0} → ExchangeState L → Ended L → ExchangeState L
over t e = record t {
  link = link_of e.line;
  attached = attached_of e.line;
  answers = answers_of e.line;
  is_reused = reused_of e.line;
  needs_probe = probe_of e.line;
  code = Some e.code;
  is_kept = e.is_kept;
  received = e.received;
  content = [];
}

-- What is known of a link that serves: it is one of this request, it isn't stale, and it was never in use where only a fresh one is
-- wanted; where the response is held no code was given in place of it.
pub record IsServing {L : Type 0} (history : L → List Answer) (asked : L → List ℕ) (token_of : L → ℕ) (request : RequestValue) (limit : Option ℕ) (fresh : Bool) (failure : Option Code) (l : LineState L) : Type 0 where
  pub about : l.request ≡ request
  pub current : l.is_stale ≡ false
  pub line : IsLine history asked token_of l
  pub unreused : fresh ≡ true → l.is_reused ≡ false
  pub wanted : limit ≡ None → failure ≡ None

-- what is known of an exchange that goes on
pub record IsAlive {L : Type 0} (history : L → List Answer) (asked : L → List ℕ) (token_of : L → ℕ) (request : RequestValue) (limit : Option ℕ) (fresh : Bool) (failure : Option Code) (o : Live L) : Type 0 where
  pub about : o.request ≡ request
  pub limit_is : o.reader.limit ≡ limit
  pub going : IsGoing request.method (answers_of o.line) o.reader
  pub serves : IfSome o.line (IsServing history asked token_of request limit fresh failure)

-- what is known of one that has ended
pub record IsEnded {L : Type 0} (history : L → List Answer) (asked : L → List ℕ) (token_of : L → ℕ) (request : RequestValue) (limit : Option ℕ) (fresh : Bool) (failure : Option Code) (e : Ended L) : Type 0 where
  pub serves : IfSome e.line (IsServing history asked token_of request limit fresh failure)
  pub kept : e.is_kept ≡ true → IfSome e.line MayHandOut
  pub bounded : limit ≡ None → e.received ≤ most_received

abbrev pub IsStage : {L : Type 0} → (L → List Answer) → (L → List ℕ) → (L → ℕ) → RequestValue → Option ℕ → Bool → Option Code → Stage L → Type 0
IsStage history asked token_of request limit fresh failure (stage.Live o) = IsAlive history asked token_of request limit fresh failure o
IsStage history asked token_of request limit fresh failure (stage.Ended e) = IsEnded history asked token_of request limit fresh failure e

-- what comes before the link in a turn: it ends with this code, or it is paused
abbrev pub ComesBefore : {L : Type 0} → ExchangeState L → Before → Type 0
ComesBefore t (before.Stops c) =
    ((IsDue t.deadline t.moment × (c ≡ code.OperationTimedout)) ⊎ (¬ (IsDue t.deadline t.moment) × (t.failure ≡ Some c)))
    × (is_stop_code c t.limit ≡ true)
ComesBefore t before.Pauses = IsOnTime t × (t.is_paused ≡ true)
ComesBefore t before.Nothing = MayTouch t
