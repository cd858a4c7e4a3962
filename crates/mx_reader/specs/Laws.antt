-- Laws of the definitions. Each is the contract of a function of `laws`.
use Rattle.std.specs.Prelude.{◌≡◌, ℕ, ◌≤◌, Bool, false, List, ◌++◌, length, take, Option, Some, None}
use Rattle.mx_types.specs.declared.method.Method.{Method}
use Rattle.mx_body.specs.Decoder.{HasVerdictCode}
use Rattle.mx_body.specs.Parts.{AreOrdered, joined}
use Rattle.mx_body.specs.Response.{Response, IsResponse}
use Rattle.mx_body.specs.declared.decoder.Stand.TheVariants as stand
use Rattle.mx_flow.specs.Responses.{IsResponseOf}
use Rattle.mx_reader.specs.Judgements.{Judgement, Judges, IsUndecidedBy}

-- the bytes alone decide: of one method and limit they have one judgement, however they were cut into pieces
abbrev pub HasOneJudgement : Type 0
HasOneJudgement =
    (limit : Option ℕ) (m : Method) (input : List ℕ) (ended : Bool) (i j : Judgement)
    → Judges limit m input ended i → Judges limit m input ended j → i ≡ j

-- the bytes are a whole response with this content: one that is held, or one that is handed on
abbrev pub IsWholeResponse : Option ℕ → Method → List ℕ → Bool → List ℕ → Type 0
IsWholeResponse None m bytes ended content = (r : Response) × IsResponse m bytes ended r × (r.content ≡ content)
IsWholeResponse (Some limit) m bytes ended content = IsResponseOf limit m bytes ended content

-- The first `len` bytes of the input are a response. Its parts are in order within them; the bytes at the parts, joined, and then what was
-- handed on are its content.
pub record HasAll (limit : Option ℕ) (m : Method) (input : List ℕ) (ended : Bool) (j : Judgement) : Type 0 where
  pub within : j.len ≤ length input
  pub ordered : AreOrdered 0 j.len j.parts
  pub response : IsWholeResponse limit m (take j.len input) ended (joined input j.parts ++ j.content)

-- so a whole response has all its content
abbrev pub WholeHasAll : Type 0
WholeHasAll =
    (limit : Option ℕ) (m : Method) (input : List ℕ) (ended : Bool) (j : Judgement)
    → Judges limit m input ended j → j.stand ≡ stand.Complete → HasAll limit m input ended j

-- more is to come where nothing is decided, and the bytes have not ended
abbrev pub MoreIsUndecided : Type 0
MoreIsUndecided =
    (limit : Option ℕ) (m : Method) (input : List ℕ) (ended : Bool) (j : Judgement)
    → Judges limit m input ended j → j.stand ≡ stand.More → (ended ≡ false) × IsUndecidedBy limit m input

-- a fault has one of the codes that the bytes of an exchange can give
abbrev pub CodesAreListed : Type 0
CodesAreListed =
    (limit : Option ℕ) (m : Method) (input : List ℕ) (ended : Bool) (j : Judgement) → Judges limit m input ended j → HasVerdictCode j.stand
