-- The bytes at the parts of a response are its content.
use Rattle.std.proofs.Common.{◌≡◌, ℕ, ◌+◌, Bool, List, [], ◌∷◌, ◌++◌, length, take, drop, ◌-◌, slice_range, refl, sym, ap, subst, ◌∙◌, arith, append_assoc, length-append}
use Rattle.std.proofs.lemmas.List.{append-nil}
use Rattle.httparse.specs.Grammar.{print_response}
use Rattle.mx_types.specs.declared.method.Method.{Method}
use Rattle.mx_head.specs.declared.types.Framing.{Framing}
use Rattle.mx_head.specs.declared.types.Framing.TheVariants.{Empty, Counted, Chunked, Close}
use Rattle.mx_head.specs.Limits.{most_bytes}
use Rattle.mx_body.specs.declared.part.Part.{Part}
use Rattle.mx_body.specs.Response.{print_heads, IsBody, one_part, Response, heads_of}
use Rattle.mx_body.specs.Decision.{BeginsWithResponse}
use Rattle.mx_body.specs.Parts.{AreOrdered, joined}
use Rattle.mx_body.proofs.ChunkedLawProofs.{parts_are_the_data}
use Rattle.mx_body.proofs.VerdictLemmas.{one_part-some}

-- the piece in the middle
pub slice_at : (front mid back : List ℕ) → slice_range (front ++ (mid ++ back)) (length front) (length front + length mid) ≡ mid
slice_at front mid back =
    let n : (length front + length mid) - length front ≡ length mid = omega arith in
    ap (λ k. take k (drop (length front) (front ++ (mid ++ back)))) n ∙ ap (take (length mid)) (past front (mid ++ back)) ∙ upto mid back
  where
    past : (a b : List ℕ) → drop (length a) (a ++ b) ≡ b
    past [] b = refl
    past (z ∷ a) b = past a b

    upto : (a b : List ℕ) → take (length a) (a ++ b) ≡ a
    upto [] b = refl
    upto (z ∷ a) b = ap (λ (t : List ℕ). z ∷ t) (upto a b)

-- what the parts of a body are
pub record HasContent (text : List ℕ) (at to : ℕ) (parts : List Part) (content : List ℕ) : Type 0 where
  pub within : AreOrdered at to parts
  pub joins : joined text parts ≡ content

one_content : (text front body back : List ℕ) → text ≡ front ++ (body ++ back) → HasContent text (length front) (length front + length body) (one_part (length front) (length body)) body
one_content text front [] back e = record { within = omega arith; joins = refl }
one_content text front (b ∷ body) back e =
    let at = length front in
    let n = length (b ∷ body) in
    let parts : one_part at n ≡ record { start = at; end = at + n } ∷ [] = one_part-some at n (omega arith) in
    subst (λ (p : List Part). HasContent text at (at + n) p (b ∷ body)) (sym parts)
    (record {
      within = (omega arith, omega arith, omega arith);
      joins = append-nil (slice_range text at (at + n)) ∙ ap (λ (t : List ℕ). slice_range t at (at + n)) e ∙ slice_at front (b ∷ body) back;
    })

pub body_content : (framing : Framing) (ended : Bool) (text front body back : List ℕ) (parts : List Part) (content : List ℕ)
    → text ≡ front ++ (body ++ back) → IsBody framing ended (length front) body parts content → HasContent text (length front) (length front + length body) parts content
body_content Empty ended text front body back parts content e x =
    subst (λ (p : List Part × List ℕ). HasContent text (length front) (length front + length body) p.0 p.1) (λ i. (sym x.1 i, sym x.2 i))
    (record { within = omega arith; joins = refl })
body_content (Counted n) ended text front body back parts content e x =
    subst (λ (p : List Part × List ℕ). HasContent text (length front) (length front + length body) p.0 p.1)
    (λ i. ((ap (one_part (length front)) x.0 ∙ sym x.1) i, sym x.2 i))
    (one_content text front body back e)
body_content Chunked ended text front body back parts content e x =
    let c = parts_are_the_data most_bytes front body back parts content x in
    record { within = c.0; joins = ap (λ (t : List ℕ). joined t parts) e ∙ c.1 }
body_content Close ended text front body back parts content e x =
    subst (λ (p : List Part × List ℕ). HasContent text (length front) (length front + length body) p.0 p.1) (λ i. (sym x.1 i, sym x.2 i))
    (one_content text front body back e)

-- the same of a response at the front of the input
pub response_content : (m : Method) (input : List ℕ) (ended : Bool) (r : Response) (left : List ℕ) → (b : BeginsWithResponse m input ended r left)
    → HasContent input 0 (length b.bytes) r.parts r.content
response_content m input ended r left b =
    let front = heads_of r in
    let s = b.response.stands.1.1 in
    let whole : input ≡ front ++ (r.body ++ left) = b.whole ∙ ap (λ (t : List ℕ). t ++ left) s ∙ regroup (print_heads r.interim) (print_response r.head) r.body left in
    let c = body_content r.framing ended input front r.body left r.parts r.content whole b.response.body in
    let long : length b.bytes ≡ length front + length r.body =
    omega (arith, ap length s, length-append (print_heads r.interim) (print_response r.head ++ r.body), length-append (print_response r.head) r.body, length-append (print_heads r.interim) (print_response r.head)) in
    record {
      within = subst (λ n. AreOrdered 0 n r.parts) (sym long) (lower (length front) (length front + length r.body) r.parts c.within);
      joins = c.joins;
    }
  where
    regroup : (a b c d : List ℕ) → (a ++ (b ++ c)) ++ d ≡ (a ++ b) ++ (c ++ d)
    regroup a b c d = simp append_assoc

    lower : (from to : ℕ) (parts : List Part) → AreOrdered from to parts → AreOrdered 0 to parts
    lower from to [] x = omega arith
    lower from to (p ∷ ps) x = (omega arith, x.1, x.2)
