-- The code of a URL that failed.
use Rattle.std.proofs.Common.{◌≡◌, ◌≢◌, ◌∙◌, refl, ap, sym, ℕ, Bool, true, false, inl, inr, arith}
use Rattle.std.specs.Prelude.{◌⊎◌, ◌||◌}
use Rattle.mx_types.specs.Code.{code_number}
use Rattle.mx_types.specs.declared.code.Code.{Code}
use Rattle.mx_types.specs.declared.code.Code.TheVariants as codes
use Rattle.mx_types.specs.declared.method.Method.{Method}
use Rattle.mx_save_rules.specs.Codes.{save_number}
use Rattle.mx_save_rules.specs.Decisions.{IsDecision, has_no_file, is_success}
use Rattle.mx_save_rules.specs.declared.code.SaveCode.{SaveCode}
use Rattle.mx_save_rules.specs.declared.code.SaveCode.TheVariants as save
use Rattle.mx_save_rules.specs.declared.decision.Decision.{Decision}
use Rattle.mx_save_rules.specs.declared.decision.Decision.TheVariants as decision
use Rattle.mx_save_book.specs.Jobs.{IsNeeded}

pub ok_or_not : (c : Code) → (c ≡ codes.Ok) ⊎ ((c ≢ codes.Ok) × (code_number c ≢ 0))
ok_or_not codes.Ok = inl refl
ok_or_not codes.UnsupportedProtocol = inr ((λ e. let bad : codes.UnsupportedProtocol ≡ codes.Ok = e in cc), λ e. omega (arith, e))
ok_or_not codes.UrlMalformat = inr ((λ e. let bad : codes.UrlMalformat ≡ codes.Ok = e in cc), λ e. omega (arith, e))
ok_or_not codes.CouldntResolveHost = inr ((λ e. let bad : codes.CouldntResolveHost ≡ codes.Ok = e in cc), λ e. omega (arith, e))
ok_or_not codes.CouldntConnect = inr ((λ e. let bad : codes.CouldntConnect ≡ codes.Ok = e in cc), λ e. omega (arith, e))
ok_or_not codes.WeirdServerReply = inr ((λ e. let bad : codes.WeirdServerReply ≡ codes.Ok = e in cc), λ e. omega (arith, e))
ok_or_not codes.PartialFile = inr ((λ e. let bad : codes.PartialFile ≡ codes.Ok = e in cc), λ e. omega (arith, e))
ok_or_not codes.WriteError = inr ((λ e. let bad : codes.WriteError ≡ codes.Ok = e in cc), λ e. omega (arith, e))
ok_or_not codes.OutOfMemory = inr ((λ e. let bad : codes.OutOfMemory ≡ codes.Ok = e in cc), λ e. omega (arith, e))
ok_or_not codes.OperationTimedout = inr ((λ e. let bad : codes.OperationTimedout ≡ codes.Ok = e in cc), λ e. omega (arith, e))
ok_or_not codes.TooManyRedirects = inr ((λ e. let bad : codes.TooManyRedirects ≡ codes.Ok = e in cc), λ e. omega (arith, e))
ok_or_not codes.GotNothing = inr ((λ e. let bad : codes.GotNothing ≡ codes.Ok = e in cc), λ e. omega (arith, e))
ok_or_not codes.SendError = inr ((λ e. let bad : codes.SendError ≡ codes.Ok = e in cc), λ e. omega (arith, e))
ok_or_not codes.RecvError = inr ((λ e. let bad : codes.RecvError ≡ codes.Ok = e in cc), λ e. omega (arith, e))
ok_or_not codes.BadContentEncoding = inr ((λ e. let bad : codes.BadContentEncoding ≡ codes.Ok = e in cc), λ e. omega (arith, e))
ok_or_not codes.FilesizeExceeded = inr ((λ e. let bad : codes.FilesizeExceeded ≡ codes.Ok = e in cc), λ e. omega (arith, e))
ok_or_not codes.TooLarge = inr ((λ e. let bad : codes.TooLarge ≡ codes.Ok = e in cc), λ e. omega (arith, e))

same_code : (a b : SaveCode) → decision.Fail a ≡ decision.Fail b → a ≡ b
same_code a b is = cc

-- it isn't 0
pub fail_code : (c : Code) (m : Method) (status : ℕ) (asked : Bool) (code : SaveCode) → IsDecision c m status asked (decision.Fail code) → save_number code ≢ 0
fail_code c m status asked code d =
    elim (ok_or_not c) [
      | inr other ↦ λ e. other.1 (ap save_number (sym (same_code code (save.Transfer c) (d.failed other.0))) ∙ e)
      | inl ok ↦ by_tests ok (is_success status) asked (has_no_file m status) refl refl refl
    ]
  where
    by_tests : c ≡ codes.Ok → (x y n : Bool) → is_success status ≡ x → asked ≡ y → has_no_file m status ≡ n → save_number code ≢ 0
    by_tests ok false false n ex ey en = λ e.
        let is : code ≡ save.HttpReturnedError = same_code code save.HttpReturnedError (d.refused ok ex ey) in
        omega (arith, ap save_number (sym is) ∙ e)
    by_tests ok false true true ex ey en = let bad : decision.Fail code ≡ decision.Done = d.done ok (ap (λ b. b || asked) ex ∙ ey) en in absurd (cc)
    by_tests ok false true false ex ey en = let bad : decision.Fail code ≡ decision.Save = d.saved ok (ap (λ b. b || asked) ex ∙ ey) en in absurd (cc)
    by_tests ok true y true ex ey en = let bad : decision.Fail code ≡ decision.Done = d.done ok (ap (λ b. b || asked) ex) en in absurd (cc)
    by_tests ok true y false ex ey en = let bad : decision.Fail code ≡ decision.Save = d.saved ok (ap (λ b. b || asked) ex) en in absurd (cc)

-- what is done, or saved, has code 0
pub done_ok : (c : Code) (m : Method) (status : ℕ) (asked : Bool) → IsDecision c m status asked decision.Done → c ≡ codes.Ok
done_ok c m status asked d =
    elim (ok_or_not c) [
      | inl ok ↦ ok
      | inr other ↦ let bad : decision.Done ≡ decision.Fail (save.Transfer c) = d.failed other.0 in absurd (cc)
    ]

pub save_ok : (c : Code) (m : Method) (status : ℕ) (asked : Bool) → IsDecision c m status asked decision.Save → c ≡ codes.Ok
save_ok c m status asked d =
    elim (ok_or_not c) [
      | inl ok ↦ ok
      | inr other ↦ let bad : decision.Save ≡ decision.Fail (save.Transfer c) = d.failed other.0 in absurd (cc)
    ]

-- what needs its body is saved, where its code is 0
pub needed_save : (c : Code) (m : Method) (status : ℕ) (asked : Bool) (d : Decision) → IsDecision c m status asked d → IsNeeded d → c ≡ codes.Ok → d ≡ decision.Save
needed_save c m status asked d is needed ok = by_tests (is_success status) asked (has_no_file m status) refl refl refl
  where
    by_tests : (x y n : Bool) → is_success status ≡ x → asked ≡ y → has_no_file m status ≡ n → d ≡ decision.Save
    by_tests false false n ex ey en = absurd (needed.1 (is.refused ok ex ey))
    by_tests false true true ex ey en = absurd (needed.0 (is.done ok (ap (λ b. b || asked) ex ∙ ey) en))
    by_tests false true false ex ey en = is.saved ok (ap (λ b. b || asked) ex ∙ ey) en
    by_tests true y true ex ey en = absurd (needed.0 (is.done ok (ap (λ b. b || asked) ex) en))
    by_tests true y false ex ey en = is.saved ok (ap (λ b. b || asked) ex) en
