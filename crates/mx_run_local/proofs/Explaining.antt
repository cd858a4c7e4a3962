-- Why what was received isn't a whole response, and that it is reported.
use Rattle.std.proofs.Common.{◌≡◌, ◌≢◌, ℕ, ◌≤◌, ◌+◌, Bool, List, [], ◌++◌, length, take, true, false, inl, inr, refl, sym, subst, ap, ◌∙◌, arith, append-nil, length-append}
use Rattle.std.specs.Prelude.{Option, Some, None, Result, Ok, Err, IfOk, IfSome, IfNone, OnOk}
use Rattle.std.specs.Io.KnownBytes.{Appends}
use Rattle.std.proofs.lemmas.List.{take-append-le}
use Rattle.mx_types.specs.declared.code.Code.{Code}
use Rattle.mx_types.specs.declared.code.Code.TheVariants as code
use Rattle.mx_types.specs.declared.method.Method.{Method}
use Rattle.mx_body.specs.declared.verdict.Verdict.{Verdict}
use Rattle.mx_body.specs.declared.verdict.Verdict.TheVariants as verdict
use Rattle.mx_body.specs.Decision.{IsVerdict}
use Rattle.mx_body.specs.Laws.{HasOneVerdict, IsSameVerdict}
use Rattle.mx_reason.specs.declared.reason.Reason.{Reason}
use Rattle.mx_reason.specs.declared.reason.Defect.{Defect}
use Rattle.mx_reason.specs.declared.reason.Defect.TheVariants as what
use Rattle.mx_reason.specs.Reasons.{IsReason, IsDefectAt, Decides, BeginsWithAny}
use Rattle.mx_reason.specs.Faults.{fault_code, Tells}
use Rattle.mx_run_local.specs.declared.reading.Received.{Received}
use Rattle.mx_run_local.specs.declared.reading.InputError.{InputError}
use Rattle.mx_run_local.specs.declared.reading.InputError.TheVariants.{Failed, OutOfMemory}
use Rattle.mx_text.specs.declared.report.FailureReport.{FailureReport}
use Rattle.mx_run_local.specs.Reading.{IsReceived, IsRead}
use Rattle.mx_run_local.specs.Explained.{IsWhyNone, IsTold, TellsVerdict, TellsRead, code_alone, told_lines}

-- where nothing is decided before the end, no byte follows those that the decoder has
cut_is_all : (m : Method) (bytes : List ℕ) (r : Received) (read : IsReceived m bytes r) → HasOneVerdict
    → IsVerdict m r.decoder.wire false verdict.More → r.decoder.wire ≡ bytes
cut_is_all m bytes r read one more = go r.decoder.ended refl
  where
    undecided : (v : Verdict) → r.decoder.verdict ≡ v → IsSameVerdict v verdict.More → ⊥
    undecided (verdict.Complete status len parts keep) is same = same
    undecided verdict.More is same =
        let now = subst (IsVerdict m bytes true) is read.decided in let both : true ≡ false = now.2 in absurd (cc)
    undecided (verdict.Fault code) is same = same

    go : (ended : Bool) → r.decoder.ended ≡ ended → r.decoder.wire ≡ bytes
    go true is =
        let none = read.ended is in
        sym (read.whole ∙ ap (λ (t : List ℕ). r.decoder.wire ++ t) none ∙ append-nil r.decoder.wire)
    go false is =
        let exact = subst (λ (k : Method). IsVerdict k r.decoder.wire r.decoder.ended r.decoder.verdict) read.method read.exact in
        let running = subst (λ (b : Bool). IsVerdict m r.decoder.wire b r.decoder.verdict) is exact in
        absurd (undecided r.decoder.verdict refl (one m r.decoder.wire false r.decoder.verdict verdict.More running more))

-- what is wrong with the bytes that the decoder has is wrong with all
what_of_all : (m : Method) (bytes : List ℕ) (r : Received) → IsReceived m bytes r → HasOneVerdict → (at : ℕ) (w : Defect)
    → IsDefectAt m r.decoder.wire at w → IsDefectAt m bytes at w
what_of_all m bytes r read one at (what.Fault fault) is =
    let same : take at r.decoder.wire ≡ take at bytes =
    sym (ap (take at) read.whole ∙ take-append-le at r.decoder.wire read.behind is.0.within) in (
      record {
        within = omega (arith, is.0.within, ap length read.whole, length-append r.decoder.wire read.behind);
        decides = subst (λ (t : List ℕ). Decides m t (fault_code fault)) same is.0.decides;
      },
      subst (λ (t : List ℕ). Tells m t fault) same is.1,
    )
what_of_all m bytes r read one at (what.Cut cut) is =
    subst (λ (t : List ℕ). IsDefectAt m t at (what.Cut cut)) (cut_is_all m bytes r read one is.1) is

pub why_none : (m : Method) (bytes : List ℕ) (r : Received) (result : Option Reason) → IsReceived m bytes r → HasOneVerdict
    → IfSome result (IsReason m r.decoder.wire) → IfNone result (BeginsWithAny m r.decoder.wire) → IsWhyNone m bytes result
why_none m bytes r (Some reason) read one some none = what_of_all m bytes r read one reason.at reason.what some
why_none m bytes r None read one some none = (r.decoder.wire, read.behind, read.whole, none)

-- what is reported is of the verdict
tells_verdict : (m : Method) (bytes : List ℕ) (v : Verdict) (told : Option FailureReport) (Written : List ℕ → Type 0) → IsVerdict m bytes true v
    → IsTold m bytes v told → Written (told_lines told) → TellsVerdict m bytes v Written
tells_verdict m bytes (verdict.Complete status len parts keep) told Written decided is written =
    subst (λ t. Written (told_lines t)) is written
tells_verdict m bytes verdict.More told Written decided is written = let both : true ≡ false = decided.2 in absurd (cc)
tells_verdict m bytes (verdict.Fault code) told Written decided is written =
    (is.0, is.1, subst (λ t. Written (told_lines t)) is.2 written)

pub tells_read : {E : Type 0} (m : Method) (known left old new : Option (List ℕ)) (received : Result Received InputError) (told : Option FailureReport)
    (result : Result Unit E) → IfOk received (IsRead m known left) → received ≢ Err Failed
    → (received ≡ Err OutOfMemory → told ≡ code_alone code.OutOfMemory)
    → IfOk received (λ r. (bytes : List ℕ) → IsReceived m bytes r → IsTold m bytes r.decoder.verdict told)
    → OnOk result (Appends old new (told_lines told)) → OnOk result (TellsRead m known left (Appends old new))
tells_read m known left old new received told (Err e) read whole short is written = tt
tells_read m known left old new (Ok r) told (Ok u) read whole short is written =
    inr (
      read.bytes,
      read.read,
      (
        r.decoder.verdict,
        read.received.decided,
        tells_verdict m read.bytes r.decoder.verdict told (Appends old new) read.received.decided (is read.bytes read.received) written,
      ),
    )
tells_read m known left old new (Err Failed) told (Ok u) read whole short is written = absurd (whole refl)
tells_read m known left old new (Err OutOfMemory) told (Ok u) read whole short is written =
    inl (subst (λ t. Appends old new (told_lines t)) (short refl) written)

-- a fault is reported with its code
pub told_fault : (m : Method) (bytes : List ℕ) (v : Verdict) (c : Code) (reason : Option Reason) → v ≡ verdict.Fault c → IsWhyNone m bytes reason
    → IsTold m bytes v (Some (record { code = c; reason = reason }))
told_fault m bytes v c reason is why =
    let told : IsTold m bytes (verdict.Fault c) (Some (record { code = c; reason = reason })) = (reason, why, refl) in
    subst (λ x. IsTold m bytes x (Some (record { code = c; reason = reason }))) (sym is) told
