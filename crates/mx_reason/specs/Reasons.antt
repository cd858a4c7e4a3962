-- Why the bytes of an exchange aren't a response, and after how many of them that is decided.
use Rattle.std.specs.Prelude.{◌≡◌, ℕ, ◌<◌, ◌≤◌, false, List, length, take}
use Rattle.mx_types.specs.declared.code.Code.{Code}
use Rattle.mx_types.specs.declared.method.Method.{Method}
use Rattle.mx_body.specs.declared.verdict.Verdict.TheVariants as verdict
use Rattle.mx_body.specs.Decision.{BeginsWithResponse, IsVerdict}
use Rattle.mx_body.specs.Response.{Response}
use Rattle.mx_reason.specs.declared.reason.Reason.{Reason}
use Rattle.mx_reason.specs.declared.reason.Defect.{Defect}
use Rattle.mx_reason.specs.declared.reason.Defect.TheVariants as what
use Rattle.mx_reason.specs.Cuts.{IsCutIn}
use Rattle.mx_reason.specs.Faults.{fault_code, before_last, Tells}

-- the bytes begin with a whole response
abbrev pub BeginsWithAny : Method → List ℕ → Type 0
BeginsWithAny m wire = (r : Response) × (left : List ℕ) × BeginsWithResponse m wire false r left

-- the bytes are refused with that code, whatever follows them; without the last of them nothing is decided
pub record Decides (m : Method) (bytes : List ℕ) (code : Code) : Type 0 where
  pub some : 0 < length bytes
  pub refused : IsVerdict m bytes false (verdict.Fault code)
  pub before : IsVerdict m (before_last bytes) false verdict.More

-- rule reason-refused: The reason of a refusal is that of the fewest bytes that are refused: what the last of these makes wrong, in which
-- part of a response.
--
-- so it is with the first `at` bytes
pub record DecidesAt (m : Method) (wire : List ℕ) (at : ℕ) (code : Code) : Type 0 where
  pub within : at ≤ length wire
  pub decides : Decides m (take at wire) code

-- The first bytes of the wire decide, and this is wrong at their end; or nothing is decided, and the wire ends here.
abbrev pub IsDefectAt : Method → List ℕ → ℕ → Defect → Type 0
IsDefectAt m wire at (what.Fault fault) = DecidesAt m wire at (fault_code fault) × Tells m (take at wire) fault
IsDefectAt m wire at (what.Cut cut) = (at ≡ length wire) × IsVerdict m wire false verdict.More × IsCutIn m wire cut

abbrev pub IsReason : Method → List ℕ → Reason → Type 0
IsReason m wire reason = IsDefectAt m wire reason.at reason.what
