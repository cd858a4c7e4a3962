-- Laws of heads and of the answers of `read_head`.
use Rattle.std.proofs.Common.{◌≡◌, ℕ, List, [], ◌++◌, Option, Some, None, slice_range, refl, sym, ap, subst, ◌∙◌, arith, append_assoc}
use Rattle.std.specs.Prelude.{option_map}
use Rattle.std.proofs.lemmas.List.{append-nil}
use Rattle.httparse.specs.Grammar.{ResponseHead, print_response}
use Rattle.httparse.proofs.GrammarLemmas.{response_unique}
use Rattle.mx_head.specs.declared.types.HeadStep.TheVariants as step
use Rattle.mx_head.specs.Faults.{many_fields, never_head, long_head, head_code, head_line, MeetsAtHead}
use Rattle.mx_head.specs.Fields.{location_of}
use Rattle.mx_head.specs.Summary.{Summary, Describes, StandsAt}
use Rattle.httparse.specs.Spans.{span_bytes}
use Rattle.httparse.specs.declared.spans.Span.{Span}
use Rattle.mx_head.proofs.PlaceLemmas.{slice_front}
use Rattle.mx_head.specs.Laws.{HasOneCodePerLine, HasOneStep, HasOneHead, HeadsArePrefixFree, StepStaysSame}
use Rattle.mx_head.proofs.FaultLemmas.{head_meets_nothing}
use Rattle.mx_head.proofs.FirstLemmas.{one_first}
use Rattle.mx_head.proofs.LineLemmas.{front_of}

pub one_head_code : HasOneCodePerLine head_code head_line
one_head_code many_fields many_fields e = refl
one_head_code many_fields never_head e = absurd (omega (arith, e))
one_head_code many_fields long_head e = refl
one_head_code never_head many_fields e = absurd (omega (arith, e))
one_head_code never_head never_head e = refl
one_head_code never_head long_head e = absurd (omega (arith, e))
one_head_code long_head many_fields e = refl
one_head_code long_head never_head e = absurd (omega (arith, e))
one_head_code long_head long_head e = refl

pub one_head : HasOneHead
one_head input h k rest left x y = response_unique input h k rest left (x.0.grammar, x.1) (y.0.grammar, y.1)

pub heads_are_prefix_free : HeadsArePrefixFree
heads_are_prefix_free h k rest x y e =
    let one = one_head (print_response k) h k rest [] (x, e) (y, sym (append-nil (print_response k))) in
    (one.0, one.1)

-- values that describe one head are the same, but for where the location is
same_head : (x y : Summary) (h : ResponseHead) → Describes x h → Describes y h → record x { location = None } ≡ record y { location = None }
same_head x y h d e = λ i. record {
  len = (d.len ∙ sym e.len) i;
  status = (d.status ∙ sym e.status) i;
  minor = (d.minor ∙ sym e.minor) i;
  coding = (d.coding ∙ sym e.coding) i;
  length = (d.length ∙ sym e.length) i;
  close = (d.close ∙ sym e.close) i;
  keep_alive = (d.keep_alive ∙ sym e.keep_alive) i;
  location = None;
}

-- where it is, the bytes are the location
stands : (h : ResponseHead) (input rest : List ℕ) (at : Option Span) (value : Option (List ℕ)) → input ≡ print_response h ++ rest
    → StandsAt (print_response h) at value → option_map (span_bytes input) at ≡ value
stands h input rest None None is at = refl
stands h input rest None (Some value) is at = absurd at
stands h input rest (Some s) None is at = absurd at
stands h input rest (Some s) (Some value) is at =
    ap Some (ap (λ (t : List ℕ). slice_range t s.start s.end) is ∙ slice_front (print_response h) rest s.start s.end at.0.0 at.0.1 ∙ at.1)

pub one_step : HasOneStep
one_step input (step.Head x) (step.Head y) s t =
    let one = one_head input s.0 t.0 s.1 t.1 s.2 t.2 in
    let other = subst (λ (k : ResponseHead). Describes y k) (sym one.0) t.3 in
    let read = subst (λ (k : ResponseHead). input ≡ print_response k ++ t.1) (sym one.0) t.2.1 in (
      same_head x y s.0 s.3 other,
      stands s.0 input s.1 x.location (location_of s.0) s.2.1 s.3.location
          ∙ sym (stands s.0 input t.1 y.location (location_of s.0) read other.location),
    )
one_step input (step.Head x) step.More s t = absurd (t.0 s.0 s.1 s.2)
one_step input (step.Head x) (step.Fault d) s t = absurd (t.0 s.0 s.1 s.2)
one_step input step.More (step.Head y) s t = absurd (s.0 t.0 t.1 t.2)
one_step input step.More step.More s t = tt
one_step input step.More (step.Fault d) s t = absurd (s.1 t.1.front t.1.after t.1.cause t.1.is_prefix t.1.meets)
one_step input (step.Fault c) (step.Head y) s t = absurd (s.0 t.0 t.1 t.2)
one_step input (step.Fault c) step.More s t = absurd (t.1 s.1.front s.1.after s.1.cause s.1.is_prefix s.1.meets)
one_step input (step.Fault c) (step.Fault d) s t = one_first head_code head_line MeetsAtHead input c d s.1 t.1

pub step_stays_same : StepStaysSame
step_stays_same input more (step.Head x) other s = (
  s.0,
  s.1 ++ more,
  (s.2.0, ap (λ (t : List ℕ). t ++ more) s.2.1 ∙ append_assoc (print_response s.0) s.1 more),
  s.3,
)
step_stays_same input more step.More other s = absurd (other refl)
step_stays_same input more (step.Fault code) other s = (
  λ h rest reads. head_meets_nothing (input ++ more) h rest reads s.1.front (s.1.after ++ more) s.1.cause split s.1.meets,
  record {
    front = s.1.front;
    after = s.1.after ++ more;
    is_prefix = split;
    cause = s.1.cause;
    meets = s.1.meets;
    code_is = s.1.code_is;
    first = λ q rest cause at x ne le.
        let r = front_of q s.1.front rest (s.1.after ++ more) (sym at ∙ split) le in
        s.1.first q (r.0 ++ s.1.after) cause (s.1.is_prefix ∙ ap (λ (t : List ℕ). t ++ s.1.after) r.1 ∙ append_assoc q r.0 s.1.after) x ne le;
  },
)
  where
    split : input ++ more ≡ s.1.front ++ (s.1.after ++ more)
    split = ap (λ (t : List ℕ). t ++ more) s.1.is_prefix ∙ append_assoc s.1.front s.1.after more
