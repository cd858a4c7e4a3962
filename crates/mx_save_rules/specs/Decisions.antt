-- What is done with a response.
use Rattle.std.specs.Prelude.{◌≡◌, ◌≢◌, ℕ, nat_le, ◌==◌, ◌&&◌, ◌||◌, Bool, true, false}
use Rattle.mx_types.specs.Method.{is_head}
use Rattle.mx_types.specs.declared.code.Code.{Code}
use Rattle.mx_types.specs.declared.code.Code.TheVariants as codes
use Rattle.mx_types.specs.declared.method.Method.{Method}
use Rattle.mx_save_rules.specs.declared.code.SaveCode.TheVariants as code
use Rattle.mx_save_rules.specs.declared.decision.Decision.{Decision}
use Rattle.mx_save_rules.specs.declared.decision.Decision.TheVariants as decision

-- 2xx (RFC 9110, 15.3)
abbrev pub is_success : ℕ → Bool
is_success status = nat_le 200 status && nat_le status 299

-- no body can come: the answer to HEAD, 204, 205 and 304 (RFC 9110, 9.3.2, 15.3.5, 15.3.6 and 15.4.5)
abbrev pub has_no_file : Method → ℕ → Bool
has_no_file method status = is_head method || (status == 204) || (status == 205) || (status == 304)

-- rule save-decision: What failed fails with its code; a status that isn't 2xx fails with 22, unless it is asked for; the response to a
-- HEAD, 204, 205 and 304 are done; all else is saved.
pub record IsDecision (c : Code) (m : Method) (status : ℕ) (asked : Bool) (d : Decision) : Type 0 where
  pub failed : c ≢ codes.Ok → d ≡ decision.Fail (code.Transfer c)
  pub refused : c ≡ codes.Ok → is_success status ≡ false → asked ≡ false → d ≡ decision.Fail code.HttpReturnedError
  pub done : c ≡ codes.Ok → (is_success status || asked) ≡ true → has_no_file m status ≡ true → d ≡ decision.Done
  pub saved : c ≡ codes.Ok → (is_success status || asked) ≡ true → has_no_file m status ≡ false → d ≡ decision.Save
