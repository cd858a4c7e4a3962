-- A whole response whose content has at most so many bytes, and what has come of one (RFC 9112, sections 6 and 7).
use Rattle.std.specs.Prelude.{◌≡◌, ℕ, ◌≤◌, Bool, List, ◌++◌, length, Ok}
use Rattle.httparse.specs.Grammar.{ResponseHead}
use Rattle.mx_types.specs.declared.method.Method.{Method}
use Rattle.mx_head.specs.declared.types.Framing.{Framing}
use Rattle.mx_head.specs.Framing.{framing_of}
use Rattle.mx_head.specs.Limits.{most_bytes}
use Rattle.mx_body.specs.Response.{StandsAtBody, Response, IsResponse}
use Rattle.mx_flow.specs.Flows.{IsBodyOf, content_so_far}

-- the bytes are a whole response to that method with this content: interim heads, the final head, and its body
pub record IsResponseOf (limit : ℕ) (m : Method) (bytes : List ℕ) (ended : Bool) (content : List ℕ) : Type 0 where
  pub interim : List ResponseHead
  pub head : ResponseHead
  pub framing : Framing
  pub body : List ℕ
  pub stands : StandsAtBody bytes interim head body
  pub asked : framing_of m head ≡ Ok framing
  pub whole : IsBodyOf limit framing ended body content

-- the bytes are interim heads, a final head that asks for the framing, and what came after it
pub record HasCome (m : Method) (bytes : List ℕ) (framing : Framing) (came : List ℕ) : Type 0 where
  pub interim : List ResponseHead
  pub head : ResponseHead
  pub stands : StandsAtBody bytes interim head came
  pub asked : framing_of m head ≡ Ok framing

-- the content so far is a prefix of the content of each response that the bytes may still become
abbrev pub IsFrontOfEachResponse : Type 0
IsFrontOfEachResponse =
    (limit : ℕ) (m : Method) (framing : Framing) (ended : Bool) (bytes came more content : List ℕ) → HasCome m bytes framing came
    → IsResponseOf limit m (bytes ++ more) ended content → (rest : List ℕ) × (content ≡ content_so_far limit framing came ++ rest)

-- and once they are one, all of it
abbrev pub IsAllOfOne : Type 0
IsAllOfOne =
    (limit : ℕ) (m : Method) (framing : Framing) (ended : Bool) (bytes came content : List ℕ) → HasCome m bytes framing came
    → IsResponseOf limit m bytes ended content → content ≡ content_so_far limit framing came

-- a whole body after the heads makes a response
abbrev pub MakesResponse : Type 0
MakesResponse =
    (limit : ℕ) (m : Method) (framing : Framing) (ended : Bool) (bytes came content : List ℕ) → HasCome m bytes framing came
    → IsBodyOf limit framing ended came content → IsResponseOf limit m bytes ended content

-- under the limit of responses that are held, and of no more bytes than these may have, they are the same responses with the same content
abbrev pub AreTheResponses : Type 0
AreTheResponses =
    (m : Method) (bytes : List ℕ) (ended : Bool)
    → ((r : Response) → IsResponse m bytes ended r → IsResponseOf most_bytes m bytes ended r.content)
    × ((content : List ℕ) → length bytes ≤ most_bytes → IsResponseOf most_bytes m bytes ended content
    → (r : Response) × IsResponse m bytes ended r × (r.content ≡ content))
