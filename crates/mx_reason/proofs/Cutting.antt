-- Where bytes end that decide nothing.
use Rattle.std.proofs.Common.{◌≡◌, ◌∙◌, inl, inr, refl, sym, ℕ, ◌+◌, ◌-◌, ◌<◌, ◌≤◌, false, List, ◌++◌, length, arith, append_assoc, Ok, Err}
use Rattle.std.proofs.lemmas.Bool.{cases_lt}
use Rattle.httparse.specs.Grammar.{ResponseHead, print_response}
use Rattle.mx_types.specs.declared.code.Code.{Code}
use Rattle.mx_types.specs.declared.code.Code.TheVariants.{FilesizeExceeded}
use Rattle.mx_types.specs.declared.method.Method.{Method}
use Rattle.mx_head.specs.declared.types.Framing.TheVariants as framing
use Rattle.mx_head.specs.Limits.{most_bytes}
use Rattle.mx_head.specs.Summary.{Summary, framing_by}
use Rattle.mx_head.proofs.SummaryLemmas.{framing_agrees}
use Rattle.mx_body.specs.declared.verdict.Verdict.TheVariants as verdict
use Rattle.mx_body.specs.Causes.{refused_status}
use Rattle.mx_body.specs.Decision.{IsVerdict}
use Rattle.mx_body.specs.Response.{print_heads}
use Rattle.mx_body.specs.Steps.{HasHeadAt}
use Rattle.mx_body.proofs.LawLemmas.{one_verdict}
use Rattle.mx_body.proofs.MeetsLemmas.{body_start, body_response}
use Rattle.mx_body.proofs.VerdictLemmas.{IsPlainBody, refused_framing, counted_too_big, counted_body, empty_body, input_length}
use Rattle.mx_reason.specs.declared.reason.Cut.TheVariants as cut
use Rattle.mx_reason.specs.Cuts.{IsCutIn}
use Rattle.mx_reason.specs.Steps.{IsRefusedAt}
use Rattle.mx_reason.proofs.Meeting.{first_all}

-- no head is refused by its status
pub none_refused : (m : Method) (wire : List ℕ) (end : ℕ) → IsVerdict m wire false verdict.More → IsRefusedAt wire end → ⊥
none_refused m wire end v r =
    v.0.faultless (print_heads r.interim ++ print_response r.head) r.rest refused_status
    (first_all wire v.1 ∙ r.stands.1 ∙ sym (append_assoc (print_heads r.interim) (print_response r.head) r.rest)) (r.interim, r.head, (r.stands.0, refl), r.refused)

-- no body is there
plain_none : (m : Method) (wire : List ℕ) (hs : List ResponseHead) (h : ResponseHead) (n : ℕ) → IsVerdict m wire false verdict.More → IsPlainBody m wire false hs h n → ⊥
plain_none m wire hs h n v p =
    v.0.unfinished _ p.left (body_response m wire false hs h (p.body ++ p.left) p.stands p.framing p.body _ p.content p.left p.begins)

-- no framing is refused, and none is empty
pub none_framed : (m : Method) (wire : List ℕ) (x : Summary) (end : ℕ) (code : Code) → IsVerdict m wire false verdict.More → HasHeadAt wire x end → framing_by m x ≡ Err code → ⊥
none_framed m wire x end code v h f =
    one_verdict m wire false verdict.More (verdict.Fault code) v (refused_framing m wire false h.interim h.head h.rest code h.stands (sym (framing_agrees m x h.head h.describes) ∙ f))

pub none_empty : (m : Method) (wire : List ℕ) (x : Summary) (end : ℕ) → IsVerdict m wire false verdict.More → HasHeadAt wire x end → framing_by m x ≡ Ok framing.Empty → ⊥
none_empty m wire x end v h f =
    plain_none m wire h.interim h.head 0 v (empty_body m wire false h.interim h.head h.rest h.stands (sym (framing_agrees m x h.head h.describes) ∙ f))

-- in a counted body
pub cut_counted : (m : Method) (wire : List ℕ) (x : Summary) (end n : ℕ) → IsVerdict m wire false verdict.More → HasHeadAt wire x end → framing_by m x ≡ Ok (framing.Counted n)
    → IsCutIn m wire (cut.Counted (length wire - end) n)
cut_counted m wire x end n v h f =
    let is = sym (framing_agrees m x h.head h.describes) ∙ f in
    let long = input_length wire h.interim h.head h.rest h.stands in
    let came : length wire - end ≡ length h.rest = omega (arith, long, h.end_is) in
    let fits : body_start h.interim h.head + n ≤ most_bytes = elim (cases_lt most_bytes (body_start h.interim h.head + n)) as (λ _. body_start h.interim h.head + n ≤ most_bytes) [
      | inl large ↦ absurd (one_verdict m wire false verdict.More (verdict.Fault FilesizeExceeded) v (counted_too_big m wire false h.interim h.head h.rest n h.stands is large))
      | inr few ↦ few
    ] in
    let short : length h.rest < n = elim (cases_lt (length h.rest) n) as (λ _. length h.rest < n) [
      | inl less ↦ less
      | inr all ↦ absurd (plain_none m wire h.interim h.head n v (counted_body m wire false h.interim h.head h.rest n h.stands is fits all))
    ] in
    (h.interim, h.head, h.rest, h.stands, is, came, omega (arith, came, short))

-- in another
pub cut_chunked : (m : Method) (wire : List ℕ) (x : Summary) (end : ℕ) → HasHeadAt wire x end → framing_by m x ≡ Ok framing.Chunked → IsCutIn m wire cut.Chunked
cut_chunked m wire x end h f = (h.interim, h.head, h.rest, h.stands, sym (framing_agrees m x h.head h.describes) ∙ f)

pub cut_close : (m : Method) (wire : List ℕ) (x : Summary) (end : ℕ) → HasHeadAt wire x end → framing_by m x ≡ Ok framing.Close → IsCutIn m wire cut.Close
cut_close m wire x end h f = (h.interim, h.head, h.rest, h.stands, sym (framing_agrees m x h.head h.describes) ∙ f)
