-- What contracts see of a decoder, and what they say of it.
use Rattle.std.specs.Prelude.{◌≡◌, ℕ, Bool, true, false, List, []}
use Rattle.mx_types.specs.declared.code.Code.{Code}
use Rattle.mx_types.specs.declared.code.Code.TheVariants as code
use Rattle.mx_types.specs.declared.method.Method.{Method}
use Rattle.mx_body.specs.Decision.{IsVerdict}
use Rattle.mx_body.specs.declared.decoder.Stand.{Stand}
use Rattle.mx_body.specs.declared.decoder.Stand.TheVariants as stand
use Rattle.mx_body.specs.declared.part.Part.{Part}
use Rattle.mx_body.specs.declared.verdict.Verdict.{Verdict}
use Rattle.mx_body.specs.declared.verdict.Verdict.TheVariants as verdict

-- a decoder: the method of the request, the bytes that were fed, whether they have ended, and the verdict
pub record Decoded : Type 0 where
  pub method : Method
  pub wire : List ℕ
  pub ended : Bool
  pub verdict : Verdict

-- rule body-in-pieces: The verdict is on all the bytes, however they were cut into pieces, and stays once it has decided.
abbrev pub IsExact : Decoded → Type 0
IsExact d = IsVerdict d.method d.wire d.ended d.verdict

-- the state of a verdict
abbrev pub stand_of : Verdict → Stand
stand_of (verdict.Complete status len parts keep) = stand.Complete
stand_of verdict.More = stand.More
stand_of (verdict.Fault c) = stand.Fault c

-- where the data of the body are; a whole response alone has any
abbrev pub parts_of : Verdict → List Part
parts_of (verdict.Complete status len parts keep) = parts.items
parts_of verdict.More = []
parts_of (verdict.Fault c) = []

-- where the response ends
abbrev pub len_of : Verdict → ℕ
len_of (verdict.Complete status len parts keep) = len
len_of verdict.More = 0
len_of (verdict.Fault c) = 0

-- whether the connection may serve another request
abbrev pub keep_of : Verdict → Bool
keep_of (verdict.Complete status len parts keep) = keep
keep_of verdict.More = false
keep_of (verdict.Fault c) = false

-- the codes that the bytes of an exchange can give
abbrev pub is_verdict_code : Code → Bool
is_verdict_code code.WeirdServerReply = true
is_verdict_code code.PartialFile = true
is_verdict_code code.GotNothing = true
is_verdict_code code.RecvError = true
is_verdict_code code.BadContentEncoding = true
is_verdict_code code.FilesizeExceeded = true
is_verdict_code code.TooLarge = true
is_verdict_code _ = false

-- a fault has one of them
abbrev pub HasVerdictCode : Stand → Type 0
HasVerdictCode (stand.Fault c) = is_verdict_code c ≡ true
HasVerdictCode _ = Unit {0}
