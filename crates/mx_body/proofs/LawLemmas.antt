-- The laws of the verdict.
use Rattle.std.proofs.Common.{◌≡◌, ℕ, ◌<◌, inl, inr, Bool, true, false, not, ◌&&◌, List, [], ◌∷◌, ◌++◌, length, take, refl, sym, ap, subst, ◌∙◌, arith, append_assoc, length-append}
use Rattle.std.proofs.lemmas.Bool.{cases_lt}
use Rattle.httparse.specs.Grammar.{ResponseHead, print_response, status_code, print_blank, print_version, print_reason, print_end, print_section}
use Rattle.httparse.specs.Ascii.{space}
use Rattle.std.specs.Prelude.{if◌then◌else◌, ◌==◌}
use Rattle.mx_types.specs.declared.code.Code.{Code}
use Rattle.mx_types.specs.declared.code.Code.TheVariants.{WeirdServerReply, TooLarge, BadContentEncoding, FilesizeExceeded, RecvError}
use Rattle.mx_types.specs.declared.method.Method.{Method}
use Rattle.mx_head.specs.Fields.{location_of}
use Rattle.mx_head.specs.Framing.{keeps_of}
use Rattle.mx_head.specs.Faults.{many_fields, never_head, long_head, ComesFirst, MeetsNothing}
use Rattle.mx_head.specs.Laws.{HasOneCodePerLine}
use Rattle.mx_head.proofs.FirstLemmas.{one_first}
use Rattle.mx_head.proofs.LineLemmas.{front_of}
use Rattle.mx_body.specs.declared.part.Part.{Part}
use Rattle.mx_body.specs.declared.verdict.Verdict.TheVariants as verdict
use Rattle.mx_body.specs.Parts.{AreOrdered, joined}
use Rattle.mx_body.specs.Response.{print_heads, Response, IsResponse}
use Rattle.mx_body.specs.Causes.{Cause, at_head, refused_status, at_body, bad_framing, unknown_coding, too_big, bad_chunk, cause_code, cause_line, Meets}
use Rattle.mx_body.specs.Decision.{BeginsWithResponse, IsNoResponse, first_bytes, HasFinalHead, EndsTooSoon, FailsWith, is_close, IsVerdict}
use Rattle.mx_body.specs.Laws.{HasOneVerdict, HasOneStatus, HasOneLocation, CompleteHasStatus, FaultStaysSame, FaultIsHopeless, CompleteStaysSame, CompleteHasContent}
use Rattle.mx_body.proofs.HeadsLemmas.{same_body}
use Rattle.mx_body.proofs.FirstBytesLemmas.{first_split, length-first_bytes, first_same, first_front}
use Rattle.mx_body.proofs.ResponseLemmas.{response_stands, one_response, response_ended, never_close, response_stays_same, response_early, response_meets_nothing}
use Rattle.mx_body.proofs.ContentLemmas.{response_content}

-- causes of one line have one code
pub one_cause_code : HasOneCodePerLine cause_code cause_line
one_cause_code a b e = of_line a ∙ ap code_at e ∙ sym (of_line b)
  where
    code_at : ℕ → Code
    code_at n =
        if n == 1 then TooLarge
        else (if n == 2 then WeirdServerReply
        else (if n == 3 then BadContentEncoding
        else (if n == 4 then TooLarge
        else (if n == 5 then FilesizeExceeded
        else RecvError))))

    of_line : (a : Cause) → cause_code a ≡ code_at (cause_line a)
    of_line (at_head many_fields) = refl
    of_line (at_head never_head) = refl
    of_line (at_head long_head) = refl
    of_line refused_status = refl
    of_line (at_body bad_framing) = refl
    of_line (at_body unknown_coding) = refl
    of_line (at_body too_big) = refl
    of_line (at_body bad_chunk) = refl

-- ---- one verdict

some_bytes : (h : ResponseHead) → 0 < length (print_response h)
unfolding print_response
some_bytes h = by_blank (print_blank h.blank) h.minor h.digits (print_reason h.reason) (print_end h.line_end) (print_section h.fields h.last)
  where
    by_blank : (b : List ℕ) (minor : ℕ) (digits x y z : List ℕ) → 0 < length (b ++ print_version minor ++ space ∷ digits ++ x ++ y ++ z)
    by_blank [] minor digits x y z = omega arith
    by_blank (w ∷ b) minor digits x y z = omega arith

nothing_final : (input : List ℕ) → input ≡ [] → HasFinalHead input → ⊥
nothing_final input e f =
    let h = f.1 in
    omega (arith, some_bytes h, ap length (sym e ∙ f.3.1.1), length-append (print_heads f.0) (print_response h ++ f.2), length-append (print_response h) f.2)

one_end : (input : List ℕ) (c d : Code) → EndsTooSoon input c → EndsTooSoon input d → c ≡ d
one_end input c d (inl a) (inl b) = a.1 ∙ sym b.1
one_end input c d (inl a) (inr (inl b)) = absurd (b.0 a.0)
one_end input c d (inl a) (inr (inr b)) = absurd (nothing_final input a.0 b.0)
one_end input c d (inr (inl a)) (inl b) = absurd (a.0 b.0)
one_end input c d (inr (inl a)) (inr (inl b)) = a.2 ∙ sym b.2
one_end input c d (inr (inl a)) (inr (inr b)) = absurd (a.1 b.0)
one_end input c d (inr (inr a)) (inl b) = absurd (nothing_final input b.0 a.0)
one_end input c d (inr (inr a)) (inr (inl b)) = absurd (b.1 a.0)
one_end input c d (inr (inr a)) (inr (inr b)) = a.1 ∙ sym b.1

-- where a code comes first, something is met
something : (m : Method) (input : List ℕ) (code : Code) → ComesFirst cause_code cause_line (Meets m) input code → MeetsNothing (Meets m) input → ⊥
something m input code f none = none f.front f.after f.cause f.is_prefix f.meets

one_fault : (m : Method) (input : List ℕ) (ended : Bool) (c d : Code) → FailsWith m input ended c → FailsWith m input ended d → c ≡ d
one_fault m input ended c d (inl a) (inl b) = one_first cause_code cause_line (Meets m) (first_bytes input) c d a b
one_fault m input ended c d (inl a) (inr (inl b)) = absurd (something m (first_bytes input) c a b.0.faultless)
one_fault m input ended c d (inl a) (inr (inr b)) = absurd (something m (first_bytes input) c a b.0.faultless)
one_fault m input ended c d (inr (inl a)) (inl b) = absurd (something m (first_bytes input) d b a.0.faultless)
one_fault m input ended c d (inr (inl a)) (inr (inl b)) = a.2 ∙ sym b.2
one_fault m input ended c d (inr (inl a)) (inr (inr b)) = absurd (omega (arith, a.1, b.1))
one_fault m input ended c d (inr (inr a)) (inl b) = absurd (something m (first_bytes input) d b a.0.faultless)
one_fault m input ended c d (inr (inr a)) (inr (inl b)) = absurd (omega (arith, a.1, b.1))
one_fault m input ended c d (inr (inr a)) (inr (inr b)) = one_end input c d a.3 b.3

fault_or_more : (m : Method) (input : List ℕ) (ended : Bool) (c : Code) → FailsWith m input ended c → IsVerdict m input ended verdict.More → ⊥
fault_or_more m input ended c (inl a) w = something m (first_bytes input) c a w.0.faultless
fault_or_more m input ended c (inr (inl a)) w = omega (arith, a.1, w.1)
fault_or_more m input ended c (inr (inr a)) w = let both : false ≡ true = sym w.2 ∙ a.2 in cc

pub one_verdict : HasOneVerdict
one_verdict m input ended (verdict.Complete status len parts keep) (verdict.Complete status' len' parts' keep') v w =
    let same = one_response m input ended ended v.0 w.0 v.1 w.1 v.2 w.2 in (
      v.3 ∙ ap (λ (r : Response). status_code r.head) same.0 ∙ sym w.3,
      omega (arith, v.4, w.4, ap length same.1),
      v.5 ∙ ap (λ (r : Response). r.parts) same.0 ∙ sym w.5,
      v.6 ∙ ap (λ (r : Response). keeps_of r.head && not (is_close r.framing)) same.0 ∙ sym w.6,
    )
one_verdict m input ended (verdict.Complete status len parts keep) verdict.More v w = w.0.unfinished v.0 v.1 v.2
one_verdict m input ended (verdict.Complete status len parts keep) (verdict.Fault c) v w = w.0 v.0 v.1 v.2
one_verdict m input ended verdict.More (verdict.Complete status len parts keep) v w = v.0.unfinished w.0 w.1 w.2
one_verdict m input ended verdict.More verdict.More v w = tt
one_verdict m input ended verdict.More (verdict.Fault c) v w = fault_or_more m input ended c w.1 v
one_verdict m input ended (verdict.Fault c) (verdict.Complete status len parts keep) v w = v.0 w.0 w.1 w.2
one_verdict m input ended (verdict.Fault c) verdict.More v w = fault_or_more m input ended c v.1 w
one_verdict m input ended (verdict.Fault c) (verdict.Fault d) v w = one_fault m input ended c d v.1 w.1

pub one_status : HasOneStatus
one_status input a b (inl x) (inl y) =
    let same = same_body input y.0 x.0 y.1 x.1 y.2 x.2 y.3 x.3 in
    x.4 ∙ ap status_code same.1 ∙ sym y.4
one_status input a b (inl x) (inr y) = absurd (y.0 (x.0, x.1, x.2, x.3))
one_status input a b (inr x) (inl y) = absurd (x.0 (y.0, y.1, y.2, y.3))
one_status input a b (inr x) (inr y) = x.1 ∙ sym y.1

pub one_location : HasOneLocation
one_location input a b (inl x) (inl y) =
    let same = same_body input y.0 x.0 y.1 x.1 y.2 x.2 y.3 x.3 in
    x.4 ∙ ap location_of same.1 ∙ sym y.4
one_location input a b (inl x) (inr y) = absurd (y.0 (x.0, x.1, x.2, x.3))
one_location input a b (inr x) (inl y) = absurd (x.0 (y.0, y.1, y.2, y.3))
one_location input a b (inr x) (inr y) = x.1 ∙ sym y.1

pub complete_status : CompleteHasStatus
complete_status m input ended (verdict.Complete status len parts keep) v = inl (v.0.interim, v.0.head, v.0.body ++ v.1, response_stands m input ended v.0 v.1 v.2, v.3)
complete_status m input ended verdict.More v = tt
complete_status m input ended (verdict.Fault c) v = tt

-- ---- a fault stays

regroup : (a b c d : List ℕ) → ((a ++ b) ++ c) ++ d ≡ a ++ (b ++ (c ++ d))
regroup a b c d = simp append_assoc

pub fault_hopeless : FaultIsHopeless
fault_hopeless m input code v more r left b = by_fault v.1
  where
    early : length b.bytes < length input → ⊥
    early short = (let x = response_early m input more true r left b short false in v.0 r x.0 x.1)

    by_fault : FailsWith m input false code → ⊥
    by_fault (inl first) =
        let s = first_split input in
        let whole : input ++ more ≡ first.front ++ (first.after ++ (s.0 ++ more)) =
        ap (λ (t : List ℕ). t ++ more) (s.1 ∙ ap (λ (t : List ℕ). t ++ s.0) first.is_prefix) ∙ regroup first.front first.after s.0 more in
        elim (cases_lt (length b.bytes) (length first.front)) [
          | inl short ↦ early (omega (arith, short, ap length s.1, ap length first.is_prefix, length-append (first_bytes input) s.0, length-append first.front first.after))
          | inr long ↦
              let f = front_of first.front b.bytes (first.after ++ (s.0 ++ more)) left (sym whole ∙ b.whole) long in
              response_meets_nothing m b.bytes true r b.response first.front f.0 first.cause f.1 first.meets
        ]
    by_fault (inr (inl long)) = early (omega (arith, long.1, b.response.fits))
    by_fault (inr (inr cut)) = let both : false ≡ true = cut.2 in absurd (cc)

pub fault_same : FaultStaysSame
fault_same m input more ended code v = (none, by_fault v.1)
  where
    none : IsNoResponse m (input ++ more) ended
    none r left b = fault_hopeless m input code v more r left (record { bytes = b.bytes; whole = b.whole; response = response_ended m b.bytes ended r b.response; ends = b.ends })

    by_fault : FailsWith m input false code → FailsWith m (input ++ more) ended code
    by_fault (inl first) =
        let s = first_split input in
        let whole : input ++ more ≡ first.front ++ (first.after ++ (s.0 ++ more)) =
        ap (λ (t : List ℕ). t ++ more) (s.1 ∙ ap (λ (t : List ℕ). t ++ s.0) first.is_prefix) ∙ regroup first.front first.after s.0 more in
        let f = first_front (input ++ more) first.front (first.after ++ (s.0 ++ more)) whole (omega (arith, length-first_bytes input, ap length first.is_prefix, length-append first.front first.after)) in
        inl (record {
          front = first.front;
          after = f.0;
          is_prefix = f.1;
          cause = first.cause;
          meets = first.meets;
          code_is = first.code_is;
          first = λ q rest other at x ne le.
              let c = front_of q first.front rest f.0 (sym at ∙ f.1) le in
              first.first q (c.0 ++ first.after) other (first.is_prefix ∙ ap (λ (t : List ℕ). t ++ first.after) c.1 ∙ append_assoc q c.0 first.after) x ne le;
        })
    by_fault (inr (inl long)) =
        inr (inl (
          record { unfinished = none; faultless = subst (MeetsNothing (Meets m)) (sym (first_same input more long.1)) long.0.faultless },
          omega (arith, long.1, length-append input more),
          long.2,
        ))
    by_fault (inr (inr cut)) = let both : false ≡ true = cut.2 in absurd (cc)

-- ---- a complete response stays

pub complete_same : CompleteStaysSame
complete_same m input more ended (verdict.Complete status len parts keep) is v = (
  v.0,
  v.1 ++ more,
  stays v.0 v.1 v.2,
  v.3,
  omega (arith, v.4, length-append v.1 more, length-append input more),
  v.5,
  v.6,
)
  where
    stays : (r : Response) (left : List ℕ) → BeginsWithResponse m input false r left → BeginsWithResponse m (input ++ more) ended r (left ++ more)
    stays r left b = response_stays_same m input more left false ended r (never_close m b.bytes r b.response) b
complete_same m input more ended verdict.More is v = absurd is
complete_same m input more ended (verdict.Fault c) is v = absurd is

-- ---- the content

pub complete_content : CompleteHasContent
complete_content m input ended (verdict.Complete status len parts keep) v =
    let b = v.2 in
    let long : len ≡ length b.bytes = omega (arith, v.4, ap length b.whole, length-append b.bytes v.1) in
    let c = response_content m input ended v.0 v.1 b in
    let front : take len input ≡ b.bytes = ap (λ n. take n input) long ∙ ap (λ (t : List ℕ). take (length b.bytes) t) b.whole ∙ upto b.bytes v.1 in (
      subst (λ (p : List Part). AreOrdered 0 len p) (sym v.5) (subst (λ n. AreOrdered 0 n v.0.parts) (sym long) c.within),
      omega (arith, v.4),
      (
        v.0,
        subst (λ (t : List ℕ). IsResponse m t ended v.0) (sym front) b.response,
        sym v.5,
        ap (λ (p : List Part). joined input p) v.5 ∙ c.joins,
      ),
    )
  where
    upto : (a b : List ℕ) → take (length a) (a ++ b) ≡ a
    upto [] b = refl
    upto (z ∷ a) b = ap (λ (t : List ℕ). z ∷ t) (upto a b)
complete_content m input ended verdict.More v = tt
complete_content m input ended (verdict.Fault c) v = tt
