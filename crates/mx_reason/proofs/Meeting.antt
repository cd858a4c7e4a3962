-- What bytes meet of which the last one decides.
use Rattle.std.proofs.Common.{◌≡◌, ◌∙◌, ◌⊎◌, inl, inr, ap, sym, subst, ℕ, ◌+◌, ◌-◌, ◌<◌, ◌≤◌, true, false, List, [], ◌++◌, length, drop, arith, append_assoc, append-nil, length-append}
use Rattle.std.proofs.lemmas.List.{take-append-drop, take_all, length-take-le, nil_from_length}
use Rattle.std.proofs.lemmas.Bool.{cases_lt}
use Rattle.mx_types.specs.declared.code.Code.{Code}
use Rattle.mx_types.specs.declared.code.Code.TheVariants.{FilesizeExceeded}
use Rattle.mx_types.specs.declared.method.Method.{Method}
use Rattle.mx_head.specs.Faults.{ComesFirst}
use Rattle.mx_head.specs.Limits.{most_bytes}
use Rattle.mx_head.proofs.LineLemmas.{front_of}
use Rattle.mx_body.specs.declared.verdict.Verdict.TheVariants as verdict
use Rattle.mx_body.specs.Causes.{Cause, cause_code, cause_line, Meets}
use Rattle.mx_body.specs.Decision.{first_bytes, FailsWith, IsVerdict}
use Rattle.mx_body.proofs.FirstBytesLemmas.{first_is, first_split, length-first_bytes}
use Rattle.mx_reason.specs.Faults.{before_last}
use Rattle.mx_reason.specs.Reasons.{Decides}

-- as many bytes as are looked at, or fewer
pub first_all : (bytes : List ℕ) → length bytes ≤ most_bytes → first_bytes bytes ≡ bytes
first_all bytes few = sym (first_is bytes (length bytes) (omega (arith, few))) ∙ take_all (length bytes) bytes (omega arith)

pub before_length : (p : List ℕ) → length (before_last p) ≡ length p - 1
before_length p = length-take-le (length p - 1) p (omega arith)

-- no shorter prefix meets a cause
pub front_none : (m : Method) (p : List ℕ) → IsVerdict m (before_last p) false verdict.More → (q more : List ℕ) (cause : Cause) → p ≡ q ++ more → length q < length p
    → Meets m q cause → ⊥
front_none m p v q more cause e short meets =
    let f = front_of q (before_last p) more (drop (length p - 1) p) (sym e ∙ sym (take-append-drop (length p - 1) p)) (omega (arith, short, before_length p)) in
    v.0.faultless q f.0 cause (first_all (before_last p) v.1 ∙ f.1) meets

-- so a prefix that meets one is all of them
pub front_all : (m : Method) (p : List ℕ) → IsVerdict m (before_last p) false verdict.More → (q more : List ℕ) (cause : Cause) → p ≡ q ++ more → Meets m q cause
    → (p ≡ q) × (more ≡ [])
front_all m p v q more cause e meets = elim (cases_lt (length q) (length p)) as (λ _. (p ≡ q) × (more ≡ [])) [
  | inl short ↦ absurd (front_none m p v q more cause e short meets)
  | inr long ↦
      let none : more ≡ [] = nil_from_length more (omega (arith, long, ap length e, length-append q more)) in
      (e ∙ ap (λ (t : List ℕ). q ++ t) none ∙ append-nil q, none)
]

-- the bytes themselves meet a cause of the code
pub record Met (m : Method) (p : List ℕ) (code : Code) : Type 0 where
  pub cause : Cause
  pub meets : Meets m p cause
  pub code_is : cause_code cause ≡ code
  pub few : length p ≤ most_bytes
  pub first : ComesFirst cause_code cause_line (Meets m) p code

pub met_or_long : (m : Method) (p : List ℕ) (code : Code) → Decides m p code → Met m p code ⊎ ((length p ≡ most_bytes + 1) × (FilesizeExceeded ≡ code))
met_or_long m p code d = by_fault d.refused.1 where
  by_fault : FailsWith m p false code → Met m p code ⊎ ((length p ≡ most_bytes + 1) × (FilesizeExceeded ≡ code))
  by_fault (inl first) =
      let s = first_split p in
      let whole : p ≡ first.front ++ (first.after ++ s.0) =
      s.1 ∙ ap (λ (t : List ℕ). t ++ s.0) first.is_prefix ∙ append_assoc first.front first.after s.0 in
      let all = front_all m p d.before first.front (first.after ++ s.0) first.cause whole first.meets in
      let few : length p ≤ most_bytes = omega (arith, ap length all.0, ap length first.is_prefix, length-append first.front first.after, length-first_bytes p) in
      inl (record {
        cause = first.cause;
        meets = subst (λ (t : List ℕ). Meets m t first.cause) (sym all.0) first.meets;
        code_is = first.code_is;
        few = few;
        first = subst (λ (t : List ℕ). ComesFirst cause_code cause_line (Meets m) t code) (first_all p few) first;
      })
  by_fault (inr (inl long)) = inr (omega (arith, long.1, d.before.1, before_length p, d.some), sym long.2)
  by_fault (inr (inr cut)) = let both : false ≡ true = cut.2 in absurd (cc)

-- as few as are looked at
pub met : (m : Method) (p : List ℕ) (code : Code) → Decides m p code → length p ≤ most_bytes → Met m p code
met m p code d few = elim (met_or_long m p code d) as (λ _. Met m p code) [
  | inl is ↦ is
  | inr over ↦ absurd (omega (arith, few, over.0))
]

-- or one more
pub long : (m : Method) (p : List ℕ) (code : Code) → Decides m p code → most_bytes < length p → (length p ≡ most_bytes + 1) × (FilesizeExceeded ≡ code)
long m p code d many = elim (met_or_long m p code d) as (λ _. (length p ≡ most_bytes + 1) × (FilesizeExceeded ≡ code)) [
  | inl is ↦ absurd (omega (arith, many, is.few))
  | inr over ↦ over
]
