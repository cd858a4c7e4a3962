-- Whole responses by the bodies that are handed on.
use Rattle.std.proofs.Common.{◌≡◌, ℕ, ◌≤◌, Bool, List, [], ◌++◌, length, refl, sym, ap, subst, ◌∙◌, arith, length-append}
use Rattle.std.specs.Prelude.{Ok}
use Rattle.std.proofs.lemmas.List.{append-nil}
use Rattle.httparse.specs.Grammar.{ResponseHead, print_response}
use Rattle.mx_types.specs.declared.method.Method.{Method}
use Rattle.mx_head.specs.declared.types.Framing.{Framing}
use Rattle.mx_head.specs.declared.types.Framing.TheVariants.{Empty, Counted, Chunked, Close}
use Rattle.mx_head.specs.Framing.{framing_of}
use Rattle.mx_head.specs.Limits.{most_bytes}
use Rattle.mx_body.specs.declared.part.Part.{Part}
use Rattle.mx_body.specs.Chunked.{chunk_parts}
use Rattle.mx_body.specs.Response.{IsBody, one_part, StandsAtBody, print_heads}
use Rattle.mx_body.proofs.HeadsLemmas.{body_stands, same_body}
use Rattle.mx_flow.specs.Flows.{IsFramed, IsBodyOf}
use Rattle.mx_flow.specs.Responses.{IsResponseOf, HasCome, IsFrontOfEachResponse, IsAllOfOne, MakesResponse, AreTheResponses}
use Rattle.mx_flow.proofs.LawProofs.{is_front_of_each, whole_has_all, framed_short}

-- the framing that one head asks for
one_framing : (m : Method) (h k : ResponseHead) (f g : Framing) → h ≡ k → framing_of m h ≡ Ok f → framing_of m k ≡ Ok g → f ≡ g
one_framing m h k f g same a b =
    let e : framing_of m h ≡ Ok g = ap (framing_of m) same ∙ b in
    cc

-- what has behind the heads is the body, or its front
pub body_of : (limit : ℕ) (m : Method) (framing : Framing) (ended : Bool) (bytes came more content : List ℕ) → HasCome m bytes framing came
    → IsResponseOf limit m (bytes ++ more) ended content → IsBodyOf limit framing ended (came ++ more) content
body_of limit m framing ended bytes came more content h r =
    let longer = body_stands (bytes ++ more) bytes more h.interim h.head came refl h.stands in
    let same = same_body (bytes ++ more) h.interim r.interim h.head r.head (came ++ more) r.body longer r.stands in
    let asked = one_framing m r.head h.head r.framing framing same.1 r.asked h.asked in
    subst (λ (f : Framing). IsBodyOf limit f ended (came ++ more) content) asked (subst (λ (t : List ℕ). IsBodyOf limit r.framing ended t content) same.2 r.whole)

pub front_of_each_response : IsFrontOfEachResponse
front_of_each_response limit m framing ended bytes came more content h r =
    is_front_of_each limit framing ended came more content (body_of limit m framing ended bytes came more content h r)

pub all_of_one : IsAllOfOne
all_of_one limit m framing ended bytes came content h r =
    let longer : IsResponseOf limit m (bytes ++ []) ended content = subst (λ (t : List ℕ). IsResponseOf limit m t ended content) (sym (append-nil bytes)) r in
    let body = body_of limit m framing ended bytes came [] content h longer in
    whole_has_all limit framing ended came content (subst (λ (t : List ℕ). IsBodyOf limit framing ended t content) (append-nil came) body)

pub makes_response : MakesResponse
makes_response limit m framing ended bytes came content h b = record {
  interim = h.interim;
  head = h.head;
  framing = framing;
  body = came;
  stands = h.stands;
  asked = h.asked;
  whole = b;
}

of_held : (framing : Framing) (ended : Bool) (at : ℕ) (body content : List ℕ) (parts : List Part) → IsBody framing ended at body parts content
    → IsFramed most_bytes framing ended body content
of_held Empty ended at body content parts h = (h.0, h.2)
of_held (Counted n) ended at body content parts h = (h.0, h.2)
of_held Chunked ended at body content parts h = (chunk_parts 0 h.0.chunks, (h.0, h.1, h.2, h.3, refl, h.5))
of_held Close ended at body content parts h = (h.0, h.2)

to_held : (framing : Framing) (ended : Bool) (at : ℕ) (body content : List ℕ) → IsFramed most_bytes framing ended body content
    → (parts : List Part) × IsBody framing ended at body parts content
to_held Empty ended at body content h = ([], (h.0, refl, h.1))
to_held (Counted n) ended at body content h = (one_part at n, (h.0, refl, h.1))
to_held Chunked ended at body content h = (chunk_parts at h.1.0.chunks, (h.1.0, h.1.1, h.1.2, h.1.3, refl, h.1.5))
to_held Close ended at body content h = (one_part at (length body), (h.0, refl, h.1))

-- a body is no longer than its response
behind_heads : (bytes : List ℕ) (hs : List ResponseHead) (h : ResponseHead) (rest : List ℕ) → StandsAtBody bytes hs h rest → length rest ≤ length bytes
behind_heads bytes hs h rest s =
    omega (arith, ap length s.1.1, length-append (print_heads hs) (print_response h ++ rest), length-append (print_response h) rest)

pub are_the_responses : AreTheResponses
are_the_responses m bytes ended = (
  λ r h. record {
    interim = r.interim;
    head = r.head;
    framing = r.framing;
    body = r.body;
    stands = h.stands;
    asked = h.asked;
    whole =
        let framed = of_held r.framing ended _ r.body r.content r.parts h.body in
        (framed, omega (arith, h.fits, framed_short most_bytes r.framing ended r.body r.content framed, behind_heads bytes r.interim r.head r.body h.stands));
  },
  λ content fits h.
      let held = to_held h.framing ended (length (print_heads h.interim ++ print_response h.head)) h.body content h.whole.0 in (
        record { interim = h.interim; head = h.head; framing = h.framing; body = h.body; parts = held.0; content = content },
        record { stands = h.stands; fits = fits; asked = h.asked; body = held.1 },
        refl,
      ),
)
