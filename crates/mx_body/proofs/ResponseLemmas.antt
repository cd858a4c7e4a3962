-- A response is determined by the bytes that begin with it.
use Rattle.std.proofs.Common.{◌≡◌, ◌≢◌, ℕ, ◌+◌, ◌<◌, ◌≤◌, ◌⊎◌, inl, inr, Bool, true, false, List, [], ◌∷◌, ◌++◌, length, refl, sym, ap, subst, ◌∙◌, arith, append_assoc, length-append, Ok, Err}
use Rattle.std.proofs.lemmas.List.{append-nil}
use Rattle.httparse.specs.Grammar.{print_response}
use Rattle.mx_types.specs.declared.code.Code.TheVariants.{WeirdServerReply, BadContentEncoding}
use Rattle.mx_types.specs.declared.method.Method.{Method}
use Rattle.mx_head.specs.declared.types.Framing.{Framing}
use Rattle.mx_head.specs.declared.types.Framing.TheVariants.{Empty, Counted, Chunked, Close}
use Rattle.mx_head.specs.Limits.{most_bytes}
use Rattle.mx_head.proofs.LineLemmas.{front_of}
use Rattle.mx_body.specs.declared.part.Part.{Part}
use Rattle.mx_body.specs.Chunked.{ChunkedBody, chunked_bytes, chunk_parts, chunked_data}
use Rattle.mx_body.specs.Response.{print_heads, StandsAtBody, IsBody, one_part, Response, heads_of, IsResponse}
use Rattle.mx_body.specs.Causes.{BodyCause, bad_framing, unknown_coding, too_big, bad_chunk, MeetsAtBody}
use Rattle.mx_body.specs.Decision.{BeginsWithResponse}
use Rattle.mx_body.specs.Laws.{ResponseStaysSame, ResponsesArePrefixFree, ResponseMeetsNothing}
use Rattle.mx_body.proofs.ChunkedUnique.{body_unique}
use Rattle.mx_body.proofs.ChunkedLawProofs.{body_is_sound}
use Rattle.mx_body.proofs.HeadsLemmas.{body_stands}
use Rattle.mx_body.proofs.MeetsLemmas.{body_start, body_meets, response_body}

-- prefixes of one text that are as long are the same
pub same_split : (a b x y : List ℕ) → a ++ x ≡ b ++ y → length a ≡ length b → (a ≡ b) × (x ≡ y)
same_split a b x y e long =
    let r = front_of a b x y e (omega (arith, long)) in
    let none : length r.0 ≡ 0 = omega (arith, ap length r.1, length-append a r.0, long) in
    (sym (r.1 ∙ nothing r.0 none a), r.2 ∙ behind r.0 none y)
  where
    nothing : (c : List ℕ) → length c ≡ 0 → (s : List ℕ) → s ++ c ≡ s
    nothing [] none s = append-nil s
    nothing (z ∷ c) none s = absurd (omega (arith, none))

    behind : (c : List ℕ) → length c ≡ 0 → (s : List ℕ) → c ++ s ≡ s
    behind [] none s = refl
    behind (z ∷ c) none s = absurd (omega (arith, none))

-- two bodies of one framing at one place are one
pub one_body : (framing : Framing) (ended later : Bool) (at : ℕ) (body other left after : List ℕ) (parts pieces : List Part) (content more : List ℕ)
    → IsBody framing ended at body parts content → IsBody framing later at other pieces more
    → (framing ≡ Close → left ≡ []) → (framing ≡ Close → after ≡ []) → body ++ left ≡ other ++ after
    → (body ≡ other) × (parts ≡ pieces) × (content ≡ more) × (left ≡ after)
one_body Empty ended later at body other left after parts pieces content more x y p q e =
    let same = same_split body other left after e (omega (arith, ap length x.0, ap length y.0)) in
    (same.0, x.1 ∙ sym y.1, x.2 ∙ sym y.2, same.1)
one_body (Counted n) ended later at body other left after parts pieces content more x y p q e =
    let same = same_split body other left after e (omega (arith, x.0, y.0)) in
    (same.0, x.1 ∙ sym y.1, x.2 ∙ same.0 ∙ sym y.2, same.1)
one_body Chunked ended later at body other left after parts pieces content more x y p q e =
    let same = body_unique x.0 y.0 left after x.1 y.1 (ap (λ (t : List ℕ). t ++ left) (sym x.3) ∙ e ∙ ap (λ (t : List ℕ). t ++ after) y.3) in (
      x.3 ∙ ap chunked_bytes same.0 ∙ sym y.3,
      x.4 ∙ ap (λ (b : ChunkedBody). chunk_parts at b.chunks) same.0 ∙ sym y.4,
      x.5 ∙ ap chunked_data same.0 ∙ sym y.5,
      same.1,
    )
one_body Close ended later at body other left after parts pieces content more x y p q e =
    let none = p refl in
    let nothing = q refl in
    let same : body ≡ other = sym (append-nil body) ∙ ap (λ (t : List ℕ). body ++ t) (sym none) ∙ e ∙ ap (λ (t : List ℕ). other ++ t) nothing ∙ append-nil other in
    (same, x.1 ∙ ap (λ (b : List ℕ). one_part at (length b)) same ∙ sym y.1, x.2 ∙ same ∙ sym y.2, none ∙ sym nothing)

-- a response is at the front of the input
pub response_stands : (m : Method) (input : List ℕ) (ended : Bool) (r : Response) (left : List ℕ) → BeginsWithResponse m input ended r left
    → StandsAtBody input r.interim r.head (r.body ++ left)
response_stands m input ended r left b = body_stands input b.bytes left r.interim r.head r.body b.whole b.response.stands

-- two responses at the front of one input are one, whether it has ended or not
pub one_response : (m : Method) (input : List ℕ) (ended later : Bool) (r s : Response) (left after : List ℕ)
    → BeginsWithResponse m input ended r left → BeginsWithResponse m input later s after → (r ≡ s) × (left ≡ after)
one_response m input ended later r s left after b c =
    let stands = response_stands m input ended r left b in
    let mine = (response_body m input ended r.interim r.head (r.body ++ left) stands r left b).2 in
    let other = response_body m input later r.interim r.head (r.body ++ left) stands s after c in
    let asked : Ok r.framing ≡ Ok s.framing = sym mine.is_asked ∙ other.2.is_asked in
    let framing : s.framing ≡ r.framing = cc in
    let same = one_body r.framing ended later (body_start r.interim r.head) r.body s.body left after r.parts s.parts r.content s.content
    mine.is (subst (λ (f : Framing). IsBody f later (body_start r.interim r.head) s.body s.parts s.content) framing other.2.is)
    mine.ends (λ e. other.2.ends (framing ∙ e)) other.2.splits in (
      (λ i. record { interim = sym other.0 i; head = sym other.1 i; framing = sym framing i; body = same.0 i; parts = same.1 i; content = same.2 i }),
      same.3,
    )

-- ---- what doesn't depend on the end

pub close_or_not : (f : Framing) → (f ≡ Close) ⊎ (f ≢ Close)
close_or_not Empty = inr (λ e. let both : Empty ≡ Close = e in cc)
close_or_not (Counted n) = inr (λ e. let both : Counted n ≡ Close = e in cc)
close_or_not Chunked = inr (λ e. let both : Chunked ≡ Close = e in cc)
close_or_not Close = inl refl

body_any : (f : Framing) → f ≢ Close → (ended later : Bool) (at : ℕ) (body : List ℕ) (parts : List Part) (content : List ℕ)
    → IsBody f ended at body parts content → IsBody f later at body parts content
body_any Empty open_end ended later at body parts content x = x
body_any (Counted n) open_end ended later at body parts content x = x
body_any Chunked open_end ended later at body parts content x = x
body_any Close open_end ended later at body parts content x = absurd (open_end refl)

response_any : (m : Method) (bytes : List ℕ) (ended later : Bool) (r : Response) → r.framing ≢ Close → IsResponse m bytes ended r → IsResponse m bytes later r
response_any m bytes ended later r open_end x = record {
  stands = x.stands;
  fits = x.fits;
  asked = x.asked;
  body = body_any r.framing open_end ended later (length (heads_of r)) r.body r.parts r.content x.body;
}

-- before the end it is no response that only the end ends
pub never_close : (m : Method) (bytes : List ℕ) (r : Response) → IsResponse m bytes false r → r.framing ≢ Close
never_close m bytes r x closes =
    let is = subst (λ (f : Framing). IsBody f false (length (heads_of r)) r.body r.parts r.content) closes x.body in
    let both : false ≡ true = is.0 in cc

-- and what is one before the end is one at the end
pub response_ended : (m : Method) (bytes : List ℕ) (ended : Bool) (r : Response) → IsResponse m bytes ended r → IsResponse m bytes true r
response_ended m bytes true r x = x
response_ended m bytes false r x = response_any m bytes false true r (never_close m bytes r x) x

pub response_stays_same : ResponseStaysSame
response_stays_same m input more left ended later r open_end b = record {
  bytes = b.bytes;
  whole = ap (λ (t : List ℕ). t ++ more) b.whole ∙ append_assoc b.bytes left more;
  response = response_any m b.bytes ended later r open_end b.response;
  ends = λ e. absurd (open_end e);
}

-- where more bytes come, only such a response is there already
pub response_early : (m : Method) (input more : List ℕ) (ended : Bool) (r : Response) (left : List ℕ) → (b : BeginsWithResponse m (input ++ more) ended r left)
    → length b.bytes < length input → (later : Bool) → (after : List ℕ) × BeginsWithResponse m input later r after
response_early m input more ended r left b short later =
    let f = front_of b.bytes input left more (sym b.whole) (omega (arith, short)) in (
      f.0,
      elim (close_or_not r.framing) [
        | inl closes ↦ absurd (omega (arith, short, ap length (b.ends closes), ap length b.whole, length-append input more, length-append b.bytes left))
        | inr open_end ↦ record {
          bytes = b.bytes;
          whole = f.1;
          response = response_any m b.bytes ended later r open_end b.response;
          ends = λ e. absurd (open_end e);
        }
      ],
    )

pub responses_prefix_free : ResponsesArePrefixFree
responses_prefix_free m bytes rest ended later r s open_end x y =
    one_response m (bytes ++ rest) ended later r s rest []
    (record { bytes = bytes; whole = refl; response = x; ends = λ e. absurd (open_end e) })
    (record { bytes = bytes ++ rest; whole = sym (append-nil (bytes ++ rest)); response = y; ends = λ e. refl })

-- ---- no prefix of a response meets a cause

body_refutes : (framing : Framing) (ended : Bool) (at : ℕ) (body part more : List ℕ) (parts : List Part) (content : List ℕ) (cause : BodyCause)
    → IsBody framing ended at body parts content → at + length body ≤ most_bytes → body ≡ part ++ more → MeetsAtBody (Ok framing) at part cause → ⊥
body_refutes framing ended at body part more parts content bad_framing x fits e meets = let both : Ok framing ≡ Err WeirdServerReply = meets.1 in cc
body_refutes framing ended at body part more parts content unknown_coding x fits e meets = let both : Ok framing ≡ Err BadContentEncoding = meets.1 in cc
body_refutes framing ended at body part more parts content too_big x fits e meets = elim meets [
  | inl counts ↦
      let both : Ok framing ≡ Ok (Counted counts.1.0) = counts.1.1 in
      let same : framing ≡ Counted counts.1.0 = cc in
      let is = subst (λ (f : Framing). IsBody f ended at body parts content) same x in
      omega (arith, is.0, fits, counts.1.2)
  | inr sizes ↦
      let both : Ok framing ≡ Ok Chunked = sizes.0 in
      let same : framing ≡ Chunked = cc in
      let is = subst (λ (f : Framing). IsBody f ended at body parts content) same x in
      (body_is_sound most_bytes is.0 part more is.1 is.2 (sym is.3 ∙ e)).1 sizes.1
]
body_refutes framing ended at body part more parts content bad_chunk x fits e meets =
    let both : Ok framing ≡ Ok Chunked = meets.0 in
    let same : framing ≡ Chunked = cc in
    let is = subst (λ (f : Framing). IsBody f ended at body parts content) same x in
    meets.1 (body_is_sound most_bytes is.0 part more is.1 is.2 (sym is.3 ∙ e)).0

pub response_meets_nothing : ResponseMeetsNothing
response_meets_nothing m bytes ended r x q more cause e meets =
    let n = body_meets m bytes r.interim r.head r.body x.stands q more cause e meets in
    body_refutes r.framing ended (body_start r.interim r.head) r.body n.part more r.parts r.content n.here x.body
    (omega (arith, x.fits, ap length x.stands.1.1, length-append (print_heads r.interim) (print_response r.head), length-append (print_heads r.interim) (print_response r.head ++ r.body), length-append (print_response r.head) r.body))
    n.splits (subst (λ a. MeetsAtBody a (body_start r.interim r.head) n.part n.here) x.asked n.meets)
