-- A link while it serves a request, and what a turn asks it.
use Rattle.std.specs.Prelude.{◌≡◌, ◌≢◌, ℕ, ◌≤◌, Bool, true, false, List, [], ◌∷◌, ◌++◌, length, drop, Option, ◌⊎◌, count_by}
use Rattle.std.specs.List.{list_any}
use Rattle.mx_types.specs.declared.code.Code.{Code}
use Rattle.mx_types.specs.declared.code.Code.TheVariants as code
use Rattle.mx_types.specs.declared.method.Method.{Method}
use Rattle.mx_request.specs.Request.{RequestValue}
use Rattle.mx_body.specs.declared.decoder.Stand.TheVariants as stand
use Rattle.mx_reader.specs.Judgements.{Judgement}
use Rattle.mx_reader.specs.Readers.{ReaderValue, IsReader}
use Rattle.mx_link.specs.Answers.{is_connect, given, taken, is_read, is_write, is_blocked}
use Rattle.mx_link.specs.declared.answers.Answer.{Answer}
use Rattle.mx_link.specs.declared.answers.Answer.TheVariants as said
use Rattle.mx_line.specs.Order.{InOrder, stands, is_last, asks_of, most_turn_writes}
use Rattle.mx_line.specs.Endings.{IsUndecided, EndsBy, MustRetry}
use Rattle.mx_line.specs.declared.calls.Halt.{Halt}
use Rattle.mx_line.specs.declared.calls.Halt.TheVariants as halt

-- A link while it serves a request, as it was attached or probed; its answers since then; whether it was in use before, and is
-- still to be probed; whether its probe found something; whether its connection is made, and how many bytes it has taken.
pub record LineState (L : Type 0) : Type 0 where
  pub request : RequestValue
  pub link : L
  pub attached : L
  pub answers : List Answer
  pub is_reused : Bool
  pub needs_probe : Bool
  pub is_stale : Bool
  pub stands : Bool
  pub written : ℕ

-- what is known of a link that isn't stale
pub record IsServing {L : Type 0} (asked : L → List ℕ) (l : LineState L) : Type 0 where
  pub order : InOrder l.is_reused l.request.bytes l.answers
  pub asked_for : asked l.link ≡ asked l.attached ++ asks_of l.request.bytes l.answers
  pub stood : l.stands ≡ stands l.is_reused l.answers
  pub sent : l.request.bytes ≡ taken l.answers ++ drop l.written l.request.bytes
  pub fits : l.written ≤ length l.request.bytes

-- what is known of every link that serves
pub record IsLine {L : Type 0} (history : L → List Answer) (asked : L → List ℕ) (token_of : L → ℕ) (l : LineState L) : Type 0 where
  pub told : history l.link ≡ history l.attached ++ l.answers
  pub token : token_of l.link ≡ token_of l.attached
  pub unprobed : l.needs_probe ≡ true → (l.is_reused ≡ true) × (l.answers ≡ [])
  pub serving : l.is_stale ≡ false → IsServing asked l

-- it may be asked on
pub record IsOpen {L : Type 0} (l : LineState L) : Type 0 where
  pub probed : l.needs_probe ≡ false
  pub fresh : l.is_stale ≡ false
  pub lasts : list_any is_last l.answers ≡ false

-- a link that was asked for a byte has answered so
pub record ProbedBy {L : Type 0} (history : L → List Answer) (asked : L → List ℕ) (old new : LineState L) (answer : Answer) : Type 0 where
  pub told : history new.link ≡ history old.link ++ answer ∷ []
  pub asked_for : asked new.link ≡ asked old.link ++ 1 ∷ []
  pub read : is_read answer ≡ true

-- one that had nothing serves from then on; any other is stale
abbrev pub IsProbed : {L : Type 0} → (L → List Answer) → (L → List ℕ) → LineState L → LineState L → Bool → Type 0
IsProbed history asked old new true =
    ProbedBy history asked old new said.ReadBlocked
    × (new ≡ record old { link = new.link; attached = new.link; needs_probe = false })
IsProbed history asked old new false =
    (answer : Answer) × ProbedBy history asked old new answer × (answer ≢ said.ReadBlocked)
    × (new ≡ record old { link = new.link; answers = answer ∷ []; needs_probe = false; is_stale = true })

-- what is known of a reader as long as nothing is decided: it was fed what the link gave
pub record IsGoing (kind : Method) (answers : List Answer) (r : ReaderValue) : Type 0 where
  pub exact : IsReader r
  pub method : r.method ≡ kind
  pub wire : r.wire ≡ given answers
  pub unended : r.ended ≡ false
  pub more : r.judgement.stand ≡ stand.More
  pub undecided : IsUndecided r.limit kind answers

-- how it ended
pub record IsOver (kind : Method) (reused : Bool) (answers : List Answer) (r : ReaderValue) (c : Code) : Type 0 where
  pub exact : IsReader r
  pub cause : EndsBy r.limit kind answers r.wire r.judgement c
  pub final : ¬ (MustRetry kind reused answers)

-- the link may be handed out: what it gave has a whole response
abbrev pub MayHandOut : {L : Type 0} → LineState L → Type 0
MayHandOut l = (limit : Option ℕ) × (wire : List ℕ) × (j : Judgement) × EndsBy limit l.request.method l.answers wire j code.Ok

-- what one list has grown by was handed on, behind the other
pub record HandsOver (was is before after : List ℕ) : Type 0 where
  pub added : List ℕ
  pub grown : is ≡ was ++ added
  pub handed : after ≡ before ++ added

-- the reader is of the same method and limit, and what the content has grown by was handed on
pub record ReadsOn (old new : ReaderValue) (before after : List ℕ) : Type 0 where
  pub limit : new.limit ≡ old.limit
  pub method : new.method ≡ old.method
  pub hands : HandsOver old.judgement.content new.judgement.content before after

-- only the link has changed, by these further answers
abbrev pub Grows : {L : Type 0} → LineState L → LineState L → List Answer → Type 0
Grows old new more =
    new ≡ record old { link = new.link; answers = old.answers ++ more; stands = new.stands; written = new.written }

-- how a turn ends that makes at most so many reads
abbrev pub HaltSo : ℕ → Halt → Method → Bool → List Answer → ReaderValue → List Answer → Type 0
HaltSo most halt.Blocked kind reused answers r more =
    IsGoing kind answers r
    × ((earlier : List Answer) × (last : Answer) × (more ≡ earlier ++ last ∷ []) × (is_blocked last ≡ true))
HaltSo most halt.Unfinished kind reused answers r more =
    IsGoing kind answers r × ((count_by is_read more ≡ most) ⊎ (count_by is_write more ≡ most_turn_writes))
HaltSo most halt.Lost kind reused answers r more = MustRetry kind reused answers × (r.judgement.content ≡ [])
HaltSo most (halt.Over c) kind reused answers r more = IsOver kind reused answers r c

-- the calls of one turn on the link, with at most so many reads
pub record ServesTo {L : Type 0} (most : ℕ) (old new : LineState L) (how : Halt) (r : ReaderValue) : Type 0 where
  pub more : List Answer
  pub grows : Grows old new more
  pub asked : more ≢ []
  pub connects : count_by is_connect more ≤ 1
  pub reads : count_by is_read more ≤ most
  pub writes : count_by is_write more ≤ most_turn_writes
  pub so : HaltSo most how old.request.method old.is_reused new.answers r more
