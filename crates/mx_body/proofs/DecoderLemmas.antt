-- What a verdict can be.
use Rattle.std.proofs.Common.{◌≡◌, ◌≢◌, ℕ, ◌≤◌, Bool, true, false, List, [], ◌∷◌, length, refl, subst, inl, inr, arith}
use Rattle.mx_types.specs.declared.code.Code.{Code}
use Rattle.mx_types.specs.declared.method.Method.{Method}
use Rattle.mx_head.specs.Faults.{many_fields, never_head, long_head}
use Rattle.mx_body.specs.Causes.{Cause, at_head, refused_status, at_body, bad_framing, unknown_coding, too_big, bad_chunk, cause_code}
use Rattle.mx_body.specs.Parts.{AreOrdered}
use Rattle.mx_body.specs.Decision.{IsVerdict, FailsWith, EndsTooSoon}
use Rattle.mx_body.specs.Decoder.{stand_of, parts_of, is_verdict_code, HasVerdictCode}
use Rattle.mx_body.specs.declared.decoder.Stand.{Stand}
use Rattle.mx_body.specs.declared.decoder.Stand.TheVariants as stand
use Rattle.mx_body.specs.declared.part.Part.{Part}
use Rattle.mx_body.specs.declared.verdict.Verdict.{Verdict}
use Rattle.mx_body.specs.declared.verdict.Verdict.TheVariants as verdict
use Rattle.mx_body.proofs.LawLemmas.{complete_content}

cause_listed : (k : Cause) → is_verdict_code (cause_code k) ≡ true
cause_listed (at_head many_fields) = refl
cause_listed (at_head never_head) = refl
cause_listed (at_head long_head) = refl
cause_listed refused_status = refl
cause_listed (at_body bad_framing) = refl
cause_listed (at_body unknown_coding) = refl
cause_listed (at_body too_big) = refl
cause_listed (at_body bad_chunk) = refl

end_listed : (x : List ℕ) (c : Code) → EndsTooSoon x c → is_verdict_code c ≡ true
end_listed x c (inl h) = rw h.1 refl
end_listed x c (inr (inl h)) = rw h.2 refl
end_listed x c (inr (inr h)) = rw h.1 refl

fault_listed : (m : Method) (x : List ℕ) (e : Bool) (c : Code) → FailsWith m x e c → is_verdict_code c ≡ true
fault_listed m x e c (inl f) = subst (λ (k : Code). is_verdict_code k ≡ true) f.code_is (cause_listed f.cause)
fault_listed m x e c (inr (inl h)) = rw h.2 refl
fault_listed m x e c (inr (inr h)) = end_listed x c h.3

pub code_is : (m : Method) (x : List ℕ) (e : Bool) (v : Verdict) (s : Stand) → IsVerdict m x e v → s ≡ stand_of v → HasVerdictCode s
code_is m x e (verdict.Complete status len parts keep) s h is = rw is tt
code_is m x e verdict.More s h is = rw is tt
code_is m x e (verdict.Fault c) s h is = rw is (fault_listed m x e c h.1)

pub ended_is : (m : Method) (x : List ℕ) (v : Verdict) (s : Stand) → IsVerdict m x true v → s ≡ stand_of v → s ≢ stand.More
ended_is m x (verdict.Complete status len parts keep) s h is = λ e. cc
ended_is m x verdict.More s h is = λ e. let x : true ≡ false = h.2 in cc
ended_is m x (verdict.Fault c) s h is = λ e. cc

wider : (from to further : ℕ) (ps : List Part) → to ≤ further → AreOrdered from to ps → AreOrdered from further ps
wider from to further [] w h = omega (arith, w, h)
wider from to further (p ∷ ps) w h = (h.0, h.1, wider p.end to further ps w h.2)

pub parts_within : (m : Method) (x : List ℕ) (e : Bool) (v : Verdict) → IsVerdict m x e v → AreOrdered 0 (length x) (parts_of v)
parts_within m x e (verdict.Complete status len parts keep) h =
    let c = complete_content m x e (verdict.Complete status len parts keep) h in wider 0 len (length x) parts.items c.1 c.0
parts_within m x e verdict.More h = omega arith
parts_within m x e (verdict.Fault c) h = omega arith
