-- Why the bytes that a reader hands on are no whole response.
use Rattle.std.specs.Prelude.{◌≡◌, ◌⊎◌, ℕ, ◌≤◌, false, List, [], ◌++◌, length, Some}
use Rattle.mx_types.specs.declared.code.Code.TheVariants as code
use Rattle.mx_types.specs.declared.method.Method.{Method}
use Rattle.mx_body.specs.declared.decoder.Stand.TheVariants as stand
use Rattle.mx_reason.specs.declared.reason.Cut.{Cut}
use Rattle.mx_reason.specs.declared.reason.Defect.TheVariants as what
use Rattle.mx_reason.specs.declared.reason.Reason.{Reason}
use Rattle.mx_reason.specs.Reasons.{BeginsWithAny}
use Rattle.mx_flow.specs.Responses.{IsResponseOf}
use Rattle.mx_flow.specs.Streams.{IsFaultOf}
use Rattle.mx_flow.specs.Whys.{TellsWhy}
use Rattle.mx_reader.specs.Readers.{ReaderValue, most_counted}

-- The reason is that of the first bytes, which decide. It says where the bytes end only where these are all of them, and nothing is decided.
pub record HasReason (limit : ℕ) (m : Method) (wire : List ℕ) (reason : Reason) : Type 0 where
  pub front : List ℕ
  pub behind : List ℕ
  pub is_prefix : wire ≡ front ++ behind
  pub tells : TellsWhy limit m front reason
  pub all : (told : Cut) → reason.what ≡ what.Cut told → behind ≡ []

-- the content of the response is handed on, and this is the reason
abbrev pub IsReasonOf : ReaderValue → Reason → Type 0
IsReasonOf r reason = (limit : ℕ) × (r.limit ≡ Some limit) × HasReason limit r.method r.wire reason

-- no reason is told of these bytes: they begin with a whole response, or are one, or are too large, or are more than are counted
abbrev pub TellsNone : ℕ → Method → List ℕ → Type 0
TellsNone limit m bytes =
    BeginsWithAny m bytes ⊎ ((content : List ℕ) × IsResponseOf limit m bytes false content) ⊎ IsFaultOf limit m bytes code.FilesizeExceeded
    ⊎ (most_counted ≤ length bytes)

pub record HasNone (limit : ℕ) (m : Method) (wire : List ℕ) : Type 0 where
  pub front : List ℕ
  pub behind : List ℕ
  pub is_prefix : wire ≡ front ++ behind
  pub none : TellsNone limit m front

-- nor of a whole response
abbrev pub HasNoReason : ReaderValue → Type 0
HasNoReason r = (r.judgement.stand ≡ stand.Complete) ⊎ ((limit : ℕ) → r.limit ≡ Some limit → HasNone limit r.method r.wire)
