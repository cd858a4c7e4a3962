-- What is wrong at the end of bytes of which the last one decides.
use Rattle.std.proofs.Common.{◌≡◌, ◌∙◌, inl, inr, refl, ap, sym, subst, ℕ, ◌-◌, ◌≤◌, List, [], ◌∷◌, ◌++◌, length, drop, arith, append_assoc, append-nil, length-drop, Result, Ok, Err}
use Rattle.std.proofs.lemmas.List.{take_all}
use Rattle.httparse.specs.Grammar.{print_response}
use Rattle.mx_types.specs.declared.code.Code.{Code}
use Rattle.mx_types.specs.declared.code.Code.TheVariants.{WeirdServerReply, BadContentEncoding}
use Rattle.mx_types.specs.declared.method.Method.{Method}
use Rattle.mx_head.specs.declared.types.Framing.{Framing}
use Rattle.mx_head.specs.declared.types.Framing.TheVariants.{Counted, Chunked}
use Rattle.mx_head.specs.Summary.{Summary, framing_by}
use Rattle.mx_head.specs.Limits.{most_bytes}
use Rattle.mx_head.specs.Faults.{MeetsAtHead}
use Rattle.mx_head.specs.Heads.{HasNoHead}
use Rattle.mx_head.proofs.FirstLemmas.{one_first}
use Rattle.mx_head.proofs.SummaryLemmas.{framing_agrees}
use Rattle.mx_body.specs.Causes.{BodyCause, bad_framing, unknown_coding, too_big, bad_chunk, refused_status, body_code, cause_code, cause_line, MeetsAtBody, Meets}
use Rattle.mx_body.specs.Response.{print_heads}
use Rattle.mx_body.specs.Steps.{HasHeadAt}
use Rattle.mx_body.proofs.MeetsLemmas.{tail_from, body_start, headless_meets, refused_first, body_meets}
use Rattle.mx_reason.specs.declared.reason.Fault.{Fault}
use Rattle.mx_reason.specs.declared.reason.Fault.TheVariants.{InterimHead}
use Rattle.mx_reason.specs.Faults.{fault_code, framing_fault, TellsOfHead, TellsOfBody, Tells, in_head, at_status, in_body}
use Rattle.mx_reason.specs.Reasons.{Decides}
use Rattle.mx_reason.specs.Steps.{IsOpenAt, IsRefusedAt, IsRefusedHead, IsRefusedBody}
use Rattle.mx_reason.proofs.Meeting.{front_all, met}

-- what the code reads after a prefix
pub tail_is : (text front rest : List ℕ) (n : ℕ) → text ≡ front ++ rest → n ≡ length front → tail_from n text ≡ rest
tail_is text front rest n e at =
    take_all (length text - n) (drop n text) (omega (arith, length-drop n text))
    ∙ ap (λ (t : List ℕ). drop n t) e
    ∙ ap (λ (k : ℕ). drop k (front ++ rest)) at ∙ drop_front front rest
  where
    drop_front : (a c : List ℕ) → drop (length a) (a ++ c) ≡ c
    drop_front [] c = refl
    drop_front (z ∷ a) c = drop_front a c

-- ---- in a head

pub refused_head : (m : Method) (text : List ℕ) (start : ℕ) (code : Code) → IsOpenAt text start → Decides m text code → length text ≤ most_bytes
    → IsRefusedHead (tail_from start text) code
refused_head m text start code o d few =
    let is = met m text code d few in
    let next = headless_meets m text o.interim o.rest o.stands o.none text [] is.cause (sym (append-nil text)) is.meets in
    let same : next.part ≡ tail_from start text = sym (next.splits ∙ append-nil next.part) ∙ sym (tail_is text (print_heads o.interim) o.rest start o.stands.1 o.start_is) in
    record {
      none = subst HasNoHead (sym (tail_is text (print_heads o.interim) o.rest start o.stands.1 o.start_is)) o.none;
      cause = next.here;
      meets = subst (λ (t : List ℕ). MeetsAtHead t next.here) same next.meets;
      code_is = sym (ap cause_code next.cause_is) ∙ is.code_is;
    }

pub told_in_head : (m : Method) (text : List ℕ) (start : ℕ) (fault : Fault) → IsOpenAt text start → TellsOfHead (tail_from start text) fault → Tells m text fault
told_in_head m text start fault o t =
    in_head o.interim o.rest o.stands (subst (λ (r : List ℕ). TellsOfHead r fault) (tail_is text (print_heads o.interim) o.rest start o.stands.1 o.start_is) t)

-- ---- at a head that is refused

pub refused_whole : (m : Method) (text : List ℕ) (end : ℕ) (code : Code) → IsRefusedAt text end → Decides m text code → length text ≤ most_bytes
    → (WeirdServerReply ≡ code) × Tells m text InterimHead
refused_whole m text end code r d few =
    let is = met m text code d few in
    let q = print_heads r.interim ++ print_response r.head in
    let meets : Meets m q refused_status = (r.interim, r.head, (r.stands.0, refl), r.refused) in
    let all = front_all m text d.before q r.rest refused_status (r.stands.1 ∙ sym (append_assoc (print_heads r.interim) (print_response r.head) r.rest)) meets in (
      one_first cause_code cause_line (Meets m) text WeirdServerReply code (refused_first m text r.interim r.head r.rest r.stands r.refused) is.first,
      at_status (subst (λ (t : List ℕ). Meets m t refused_status) (sym all.0) meets) refl,
    )

-- ---- after the final head

pub body_tail : (text : List ℕ) (x : Summary) (end : ℕ) → (d : HasHeadAt text x end) → tail_from end text ≡ d.rest
body_tail text x end d =
    tail_is text (print_heads d.interim ++ print_response d.head) d.rest end
    (d.stands.1.1 ∙ sym (append_assoc (print_heads d.interim) (print_response d.head) d.rest)) d.end_is

pub refused_body : (m : Method) (text : List ℕ) (x : Summary) (end : ℕ) (code : Code) → HasHeadAt text x end → Decides m text code → length text ≤ most_bytes
    → IsRefusedBody (framing_by m x) end (tail_from end text) code
refused_body m text x end code h d few =
    let is = met m text code d few in
    let next = body_meets m text h.interim h.head h.rest h.stands text [] is.cause (sym (append-nil text)) is.meets in
    let same : next.part ≡ tail_from end text = sym (next.splits ∙ append-nil next.part) ∙ sym (body_tail text x end h) in
    record {
      cause = next.here;
      meets = subst (λ (t : List ℕ). MeetsAtBody (framing_by m x) end t next.here) same
          (subst (λ (n : ℕ). MeetsAtBody (framing_by m x) n next.part next.here) (sym h.end_is)
          (subst (λ (a : Result Framing Code). MeetsAtBody a (body_start h.interim h.head) next.part next.here) (sym (framing_agrees m x h.head h.describes)) next.meets));
      code_is = sym (ap cause_code next.cause_is) ∙ is.code_is;
    }

pub told_in_body : (m : Method) (text : List ℕ) (x : Summary) (end : ℕ) (fault : Fault) → HasHeadAt text x end
    → TellsOfBody (framing_by m x) end (tail_from end text) fault → Tells m text fault
told_in_body m text x end fault h t =
    in_body h.interim h.head h.rest h.stands
    (subst (λ (a : Result Framing Code). TellsOfBody a (body_start h.interim h.head) h.rest fault) (framing_agrees m x h.head h.describes)
    (subst (λ (n : ℕ). TellsOfBody (framing_by m x) n h.rest fault) h.end_is
    (subst (λ (r : List ℕ). TellsOfBody (framing_by m x) end r fault) (body_tail text x end h) t)))

-- the code of a framing that is refused
pub told_framing : (asked : Result Framing Code) (at : ℕ) (r : List ℕ) (code c : Code) → IsRefusedBody asked at r code → asked ≡ Err c → fault_code (framing_fault c) ≡ code
told_framing asked at r code c is f = by_cause is.cause is.meets is.code_is where
  by_cause : (cause : BodyCause) → MeetsAtBody asked at r cause → body_code cause ≡ code → fault_code (framing_fault c) ≡ code
  by_cause bad_framing x e =
      let both : Err WeirdServerReply ≡ Err c = sym x.1 ∙ f in
      let same : WeirdServerReply ≡ c = cc in
      subst (λ (k : Code). fault_code (framing_fault k) ≡ code) same e
  by_cause unknown_coding x e =
      let both : Err BadContentEncoding ≡ Err c = sym x.1 ∙ f in
      let same : BadContentEncoding ≡ c = cc in
      subst (λ (k : Code). fault_code (framing_fault k) ≡ code) same e
  by_cause too_big x e = elim x [
    | inl counts ↦ (let both : Err c ≡ Ok (Counted counts.1.0) = sym f ∙ counts.1.1 in absurd (cc))
    | inr chunked ↦ (let both : Err c ≡ Ok Chunked = sym f ∙ chunked.0 in absurd (cc))
  ]
  by_cause bad_chunk x e = let both : Err c ≡ Ok Chunked = sym f ∙ x.0 in absurd (cc)
