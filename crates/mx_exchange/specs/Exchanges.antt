-- What contracts see of an exchange and of a hop.
use Rattle.std.specs.Prelude.{◌≡◌, ℕ, ◌≤◌, ◌+◌, ◌-◌, ◌^◌, ◌==◌, min, Bool, true, false, List, [], ◌++◌, length, ◌&&◌, Option, Some, None, IsSome, IfSome, is_some, if◌then◌else◌}
use Rattle.mx_types.specs.declared.code.Code.{Code}
use Rattle.mx_request.specs.Request.{RequestValue}
use Rattle.mx_types.specs.declared.method.Method.{Method}
use Rattle.mx_request.specs.Redirects.{is_redirect_status}
use Rattle.mx_body.specs.Decision.{HasStatus, TellsLocation}
use Rattle.mx_body.specs.declared.part.Part.{Part}
use Rattle.mx_reader.specs.Judgements.{Judgement}
use Rattle.mx_link.specs.Answers.{given}
use Rattle.mx_link.specs.declared.answers.Answer.{Answer}
use Rattle.mx_head.specs.Limits.{most_bytes}
use Rattle.mx_line.specs.Order.{InOrder, most_read, asks_of}
use Rattle.mx_line.specs.Endings.{IsUndecided, HasMore, is_given_code}

-- A hop. `limit` is the most bytes of content that were handed on as they came, and nothing where the response is held. The wire are the bytes of
-- the response, of which memory has those that are `kept`; the parts are where the data of a held body are in the wire, and `content` are those
-- that were handed on; `location` is the value of the first Location line of its final head, unless it is empty; `answers` are what the link
-- answered since it was attached or probed, in order, and `is_reused` says whether it was in use before.
pub record HopValue : Type 0 where
  pub request : RequestValue
  pub limit : Option ℕ
  pub wire : List ℕ
  pub kept : List ℕ
  pub code : Code
  pub status : ℕ
  pub parts : List Part
  pub content : List ℕ
  pub location : Option (List ℕ)
  pub answers : List Answer
  pub is_reused : Bool

-- An exchange. `limit` is the most bytes of content that it hands on, and nothing where it holds the response. `answers` are what its link
-- answered since it was attached or probed, in order, and `attached` is the link as it was then. `received` counts the bytes of the wire, and
-- `content` is what was handed on of them; once it has ended its hop has that.
pub record ExchangeState (L : Type 0) : Type 0 where
  pub request : RequestValue
  pub limit : Option ℕ
  pub link : Option L
  pub attached : Option L
  pub answers : List Answer
  pub is_reused : Bool
  pub needs_probe : Bool
  pub needs_fresh : Bool
  pub is_started : Bool
  pub failure : Option Code
  pub moment : ℕ
  pub is_paused : Bool
  pub is_polled : Bool
  pub deadline : Option ℕ
  pub code : Option Code
  pub is_kept : Bool
  pub received : ℕ
  pub content : List ℕ

-- it needs a link, and no code was given in place of one
abbrev pub WantsLink : {L : Type 0} → ExchangeState L → Type 0
WantsLink t = (t.code ≡ None) × (t.link ≡ None) × (t.failure ≡ None)

-- a deadline that is not after the moment
abbrev pub IsDue : Option ℕ → ℕ → Type 0
IsDue None now = ⊥
IsDue (Some deadline) now = deadline ≤ now

-- rule exchange-timeout: A timeout counts from the first poll; a deadline past 2^64 - 1 ms is held there; a timeout of 0 is none.
--
-- the deadline of a request whose first turn is at this moment
abbrev pub first_deadline : RequestValue → ℕ → Option ℕ
first_deadline request moment =
    if request.timeout_ms == 0 then None else Some (min (moment + request.timeout_ms) (2 ^ 64 - 1))

-- the exchange once its clock runs, which the first turn starts
abbrev pub clocked : {L : Type 0} → ExchangeState L → ExchangeState L
clocked t = record t {
  is_polled = true;
  deadline = if t.is_polled then t.deadline else first_deadline t.request t.moment;
}

-- an exchange of the request, at its beginning, that holds the response or hands on at most so many bytes of content
abbrev pub begun : {L : Type 0} → Option ℕ → RequestValue → ExchangeState L
begun limit request = record {
  request = request;
  limit = limit;
  link = None;
  attached = None;
  answers = [];
  is_reused = false;
  needs_probe = false;
  needs_fresh = false;
  is_started = false;
  failure = None;
  moment = 0;
  is_paused = false;
  is_polled = false;
  deadline = None;
  code = None;
  is_kept = false;
  received = 0;
  content = [];
}

-- the exchange, once the link was handed over
abbrev pub attached : {L : Type 0} → ExchangeState L → L → Bool → ExchangeState L
attached t link reused = record t {
  link = Some link;
  attached = Some link;
  answers = [];
  is_reused = reused;
  needs_probe = reused;
  is_started = true;
}

-- the exchange without its link, as it wants a fresh one
abbrev pub dropped : {L : Type 0} → ExchangeState L → ExchangeState L
dropped t = record t {
  link = None;
  attached = None;
  answers = [];
  is_reused = false;
  needs_probe = false;
  needs_fresh = true;
  received = 0;
  content = [];
}

-- rule redirect-deadline: The deadline is one for the whole chain.
--
-- the exchange, once it has ended, as it begins anew with another request: its clock goes on
abbrev pub renewed : {L : Type 0} → ExchangeState L → RequestValue → ExchangeState L
renewed t request = record t {
  request = request;
  link = None;
  attached = None;
  answers = [];
  is_reused = false;
  needs_probe = false;
  needs_fresh = false;
  failure = None;
  code = None;
  is_kept = false;
  received = 0;
  content = [];
}

-- what is known of a link grew by this
abbrev pub LinkTold : {L A : Type 0} → (L → List A) → Option L → Option L → List A → Type 0
LinkTold tells None None more = more ≡ []
LinkTold tells (Some link) (Some next) more = tells next ≡ tells link ++ more
LinkTold tells _ _ more = ⊥

-- the link that is left, if one is, has the number that it had
abbrev pub KeepsToken : {L : Type 0} → (L → ℕ) → Option L → Option L → Type 0
KeepsToken token_of (Some link) (Some next) = token_of next ≡ token_of link
KeepsToken token_of _ _ = Unit {0}

-- so many, held at the greatest number of 32 bits
abbrev pub capped : ℕ → ℕ
capped count = min count (2 ^ 32 - 1)

-- what the link answered since it was attached or probed is what the exchange has of it, in order
pub record IsServed {L : Type 0} (history : L → List Answer) (t : ExchangeState L) : Type 0 where
  pub told : LinkTold history t.attached t.link t.answers
  pub order : InOrder t.is_reused t.request.bytes t.answers
  pub received : t.code ≡ None → t.received ≡ capped (length (given t.answers))

-- the most bytes that a link gives where they are held: as many as may decide nothing yet, and one more read
abbrev pub most_received : ℕ
most_received = most_bytes + most_read

-- whether a final head among the bytes sends its request on: its status is 301, 302, 303, 307 or 308, and the value of its first Location line
-- isn't empty
pub record TellsSending (wire : List ℕ) (sends : Bool) : Type 0 where
  pub status : ℕ
  pub location : Option (List ℕ)
  pub has : HasStatus wire status
  pub tells : TellsLocation wire location
  pub sends_is : sends ≡ (is_redirect_status status && is_some location)

-- what was handed on is the content among the bytes, of which nothing is decided
abbrev pub IsHandedOn : Option ℕ → Method → List ℕ → List ℕ → Type 0
IsHandedOn limit kind bytes content = (j : Judgement) × HasMore limit kind bytes j × (j.content ≡ content)

-- What holds of every exchange.
pub record IsExchange {L : Type 0} (history : L → List Answer) (asked : L → List ℕ) (token_of : L → ℕ) (t : ExchangeState L) : Type 0 where
  pub served : IsServed history t
  -- how much the link was asked for, at each of its answers
  pub asked_for : LinkTold asked t.attached t.link (asks_of t.request.bytes t.answers)
  pub token : KeepsToken token_of t.attached t.link
  -- as long as it has not ended, what the link gave decides nothing
  pub undecided : t.code ≡ None → IsUndecided t.limit t.request.method t.answers
  -- and what was handed on is the content among it
  pub handed : t.code ≡ None → IsHandedOn t.limit t.request.method (given t.answers) t.content
  -- where it holds the response nothing is handed on
  pub held : t.limit ≡ None → t.content ≡ []
  -- a link that needs its probe was in use before, and was asked nothing
  pub unprobed : t.needs_probe ≡ true → (t.is_reused ≡ true) × (t.answers ≡ [])
  -- where only a fresh link is wanted, none that was in use before serves
  pub fresh : t.needs_fresh ≡ true → t.is_reused ≡ false
  -- a code that it was given is one of these, and where the response is held there is no link then
  pub failed : IfSome t.failure (λ c. is_given_code c t.limit ≡ true)
  pub unlinked : t.limit ≡ None → IsSome t.failure → t.link ≡ None
  pub bounded : t.limit ≡ None → t.received ≤ most_received
