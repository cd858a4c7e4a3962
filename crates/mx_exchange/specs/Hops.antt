-- What holds of every hop.
use Rattle.std.specs.Prelude.{◌≡◌, ◌⊎◌, ℕ, ◌≤◌, ◌||◌, Bool, true, false, List, Option, Some, None, is_some, ◌++◌, length, take, drop}
use Rattle.mx_types.specs.declared.code.Code.{Code}
use Rattle.mx_types.specs.declared.code.Code.TheVariants as code
use Rattle.mx_request.specs.Request.{RequestValue, IsRequest}
use Rattle.mx_body.specs.Decision.{HasStatus, TellsLocation, bytes_at}
use Rattle.mx_body.specs.declared.part.Part.{Part}
use Rattle.mx_body.specs.Decoder.{is_verdict_code}
use Rattle.mx_body.specs.Parts.{joined}
use Rattle.mx_body.specs.Response.{Response, IsResponse}
use Rattle.mx_body.specs.declared.decoder.Stand.TheVariants as stand
use Rattle.mx_reader.specs.Judgements.{Judgement, Judges}
use Rattle.mx_reader.specs.Laws.{IsWholeResponse}
use Rattle.mx_reader.specs.Readers.{ReaderValue, IsKept}
use Rattle.mx_reader.specs.Whys.{HasNone, HasReason}
use Rattle.mx_reason.specs.declared.reason.Reason.{Reason}
use Rattle.mx_link.specs.Answers.{given}
use Rattle.mx_link.specs.declared.answers.Answer.{Answer}
use Rattle.mx_line.specs.Order.{InOrder}
use Rattle.mx_line.specs.Endings.{Ends}
use Rattle.mx_exchange.specs.Exchanges.{HopValue}

-- the hop of an exchange whose reader has this, as memory keeps it
abbrev pub hop_of : RequestValue → ReaderValue → List ℕ → Code → ℕ → List Part → Option Part → List Answer → Bool → HopValue
hop_of request read kept code status parts location answers is_reused = record {
  request = request;
  limit = read.limit;
  wire = read.wire;
  kept = kept;
  code = code;
  status = status;
  parts = parts;
  content = read.judgement.content;
  location = bytes_at kept location;
  answers = answers;
  is_reused = is_reused;
}

-- The request is one that can be sent, the status and the location are those of the wire, of which memory has what is kept, the link was asked in
-- order, and the code, the parts and what was handed on are the result of its answers.
pub record IsHop (o : HopValue) : Type 0 where
  pub request : IsRequest o.request
  pub status : HasStatus o.wire o.status
  pub location : TellsLocation o.wire o.location
  pub order : InOrder o.is_reused o.request.bytes o.answers
  pub keeps : IsKept o.limit o.wire o.kept
  pub judgement : Judgement
  pub ends : Ends o.limit o.request.method o.is_reused o.answers o.wire judgement o.code
  pub parts : o.parts ≡ judgement.parts
  pub content : o.content ≡ judgement.content

-- the wire begins with a whole response, or is one once it has ended, and the parts and what was handed on are those of its content
pub record IsWhole (o : HopValue) : Type 0 where
  pub ended : Bool
  pub judgement : Judgement
  pub decided : Judges o.limit o.request.method o.wire ended judgement
  pub complete : judgement.stand ≡ stand.Complete
  pub parts : o.parts ≡ judgement.parts
  pub content : o.content ≡ judgement.content

-- The first bytes of the wire are a response. The bytes at the parts, joined, and then what was handed on are its content: one of the two is
-- empty.
pub record HasBody (o : HopValue) : Type 0 where
  pub len : ℕ
  pub fits : len ≤ length o.wire
  pub ended : Bool
  pub response : IsWholeResponse o.limit o.request.method (take len o.wire) ended (joined o.wire o.parts ++ o.content)

-- of a response that is held: the first bytes of the wire are a response, and the bytes at the parts, joined, are its content
pub record HasContent (o : HopValue) : Type 0 where
  pub len : ℕ
  pub fits : len ≤ length o.wire
  pub ended : Bool
  pub response : Response
  pub is : IsResponse o.request.method (take len o.wire) ended response
  pub content : joined o.wire o.parts ≡ response.content

-- why the bytes of a response whose content was handed on are no whole response; nothing of one that is whole, too large, or of more bytes
-- than are counted, nor of one that is held
abbrev pub TellsReason : HopValue → Option Reason → Type 0
TellsReason o None = IsWhole o ⊎ ((limit : ℕ) → o.limit ≡ Some limit → HasNone limit o.request.method o.wire)
TellsReason o (Some reason) = (limit : ℕ) × (o.limit ≡ Some limit) × HasReason limit o.request.method o.wire reason

-- the wire is a prefix of what the link gave
abbrev pub IsFront : HopValue → Type 0
IsFront o = given o.answers ≡ o.wire ++ drop (length o.wire) (given o.answers)

-- the codes of a response, of a link and of memory, and that of a deadline; and where the content is handed on, that of content that couldn't be
-- written
abbrev pub is_exchange_code : Code → Option ℕ → Bool
is_exchange_code code.Ok limit = true
is_exchange_code code.CouldntResolveHost limit = true
is_exchange_code code.CouldntConnect limit = true
is_exchange_code code.WriteError limit = is_some limit
is_exchange_code code.OutOfMemory limit = true
is_exchange_code code.OperationTimedout limit = true
is_exchange_code code.SendError limit = true
is_exchange_code code.RecvError limit = true
is_exchange_code _ limit = false

-- the codes that an exchange ends with: these, and those of the bytes of a response
abbrev pub is_hop_code : Code → Option ℕ → Bool
is_hop_code c limit = is_verdict_code c || is_exchange_code c limit

-- the code may end the exchange of this request over the link that answered so, with what the reader has
abbrev pub MayEnd : RequestValue → Bool → List Answer → ReaderValue → Code → Type 0
MayEnd request reused answers r c =
    InOrder reused request.bytes answers × Ends r.limit request.method reused answers r.wire r.judgement c
    × IsKept r.limit r.wire r.kept × (r.method ≡ request.method)
