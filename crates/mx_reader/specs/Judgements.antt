-- What is said of the bytes of one response, whether they are held or its content is handed on (RFC 9112, sections 6 to 8).
use Rattle.std.specs.Prelude.{◌≡◌, ℕ, ◌+◌, ◌⊎◌, Bool, true, false, not, ◌&&◌, List, [], ◌++◌, length, Option, Some, None}
use Rattle.mx_types.specs.declared.code.Code.{Code}
use Rattle.mx_types.specs.declared.method.Method.{Method}
use Rattle.mx_head.specs.declared.types.Framing.TheVariants.{Close}
use Rattle.mx_head.specs.Framing.{keeps_of}
use Rattle.mx_body.specs.Decision.{IsVerdict, EndsTooSoon, is_close}
use Rattle.mx_body.specs.Decoder.{stand_of, parts_of, len_of, keep_of}
use Rattle.mx_body.specs.declared.decoder.Stand.{Stand}
use Rattle.mx_body.specs.declared.decoder.Stand.TheVariants as stand
use Rattle.mx_body.specs.declared.part.Part.{Part}
use Rattle.mx_body.specs.declared.verdict.Verdict.{Verdict}
use Rattle.mx_body.specs.declared.verdict.Verdict.TheVariants as verdict
use Rattle.mx_flow.specs.Responses.{IsResponseOf}
use Rattle.mx_flow.specs.Streams.{IsUndecidedOf, IsHopelessOf, IsFaultOf, HasContent}

-- What is said of the bytes that were fed: their state; of a whole response that is held, where the data of its body are in them; where a whole
-- response ends in them, and whether the connection may serve another request; and the content that was handed on.
pub record Judgement : Type 0 where
  pub stand : Stand
  pub parts : List Part
  pub len : ℕ
  pub keep : Bool
  pub content : List ℕ

-- a verdict, of whose response nothing is handed on
abbrev pub judgement_of : Verdict → Judgement
judgement_of v = record { stand = stand_of v; parts = parts_of v; len = len_of v; keep = keep_of v; content = [] }

-- the input is a response with this content and then left, which is nothing where only the end ends the response
pub record BeginsWithResponseOf
    (limit : ℕ) (m : Method) (input : List ℕ) (ended : Bool) (content left : List ℕ) : Type 0 where
  pub bytes : List ℕ
  pub whole : input ≡ bytes ++ left
  pub response : IsResponseOf limit m bytes ended content
  pub ends : response.framing ≡ Close → left ≡ []

-- the input begins with a response: what was handed on is all its content
pub record HasWhole (limit : ℕ) (m : Method) (input : List ℕ) (ended : Bool) (j : Judgement) : Type 0 where
  pub left : List ℕ
  pub begins : BeginsWithResponseOf limit m input ended j.content left
  pub len : j.len + length left ≡ length input
  pub keep : j.keep ≡ (keeps_of begins.response.head && not (is_close begins.response.framing))

-- no response begins with the first bytes of the input, which have this fault: what was handed on is the content among them
pub record BeginsWithFault (limit : ℕ) (m : Method) (input : List ℕ) (code : Code) (content : List ℕ) : Type 0 where
  pub front : List ℕ
  pub behind : List ℕ
  pub is_prefix : input ≡ front ++ behind
  pub hopeless : IsHopelessOf limit m front
  pub fault : IsFaultOf limit m front code
  pub handed : HasContent limit m front content

-- the input ended before anything was decided, and is no response: what was handed on is the content among it
pub record EndsWithFault (limit : ℕ) (m : Method) (input : List ℕ) (ended : Bool) (code : Code) (content : List ℕ) : Type 0 where
  pub ends : ended ≡ true
  pub undecided : IsUndecidedOf limit m input
  pub none : (content : List ℕ) → ¬ (IsResponseOf limit m input true content)
  pub soon : EndsTooSoon input code
  pub handed : HasContent limit m input content

-- nothing is decided of the input, which has not ended: what was handed on is the content among it
pub record HasMore (limit : ℕ) (m : Method) (input : List ℕ) (ended : Bool) (content : List ℕ) : Type 0 where
  pub goes_on : ended ≡ false
  pub undecided : IsUndecidedOf limit m input
  pub handed : HasContent limit m input content

-- only a whole response has an end, and may keep its connection
abbrev pub HasNoEnd : Judgement → Type 0
HasNoEnd j = (j.len ≡ 0) × (j.keep ≡ false)

-- the judgement is right, where it has this state and the content is handed on
abbrev pub StandsSo : ℕ → Method → List ℕ → Bool → Judgement → Stand → Type 0
StandsSo limit m input ended j stand.More = HasMore limit m input ended j.content × HasNoEnd j
StandsSo limit m input ended j stand.Complete = HasWhole limit m input ended j
StandsSo limit m input ended j (stand.Fault code) =
    (BeginsWithFault limit m input code j.content ⊎ EndsWithFault limit m input ended code j.content) × HasNoEnd j

-- the judgement on the bytes of an exchange, and whether they have ended: the verdict on a response that is held; where its content is handed
-- on, at most so many bytes of it, what they are at that limit
abbrev pub Judges : Option ℕ → Method → List ℕ → Bool → Judgement → Type 0
Judges None m input ended j = (v : Verdict) × IsVerdict m input ended v × (j ≡ judgement_of v)
Judges (Some limit) m input ended j = (j.parts ≡ []) × StandsSo limit m input ended j j.stand

-- nothing is decided of the bytes as long as they go on
abbrev pub IsUndecidedBy : Option ℕ → Method → List ℕ → Type 0
IsUndecidedBy None m input = IsVerdict m input false verdict.More
IsUndecidedBy (Some limit) m input = IsUndecidedOf limit m input
