-- Nothing is decided before any byte.
use Rattle.std.proofs.Common.{◌≡◌, ℕ, ◌<◌, false, List, [], ◌∷◌, ◌++◌, length, None, refl, sym, ap, subst, ◌∙◌, arith, append-nil, length-append}
use Rattle.std.proofs.lemmas.List.Elements.{All-nil, All-cons}
use Rattle.std.specs.Prelude.{IsTrue}
use Rattle.std.specs.Char.{is_ascii_digit}
use Rattle.httparse.specs.Ascii.{space}
use Rattle.httparse.specs.Grammar.{lf, ResponseHead, IsResponseHead, NeverHasResponse, print_response, print_blank, print_version, print_reason, print_end, print_section, is_value_byte, IsField}
use Rattle.mx_types.specs.declared.method.Method.{Method}
use Rattle.mx_head.specs.Faults.{HeadCause, many_fields, never_head, long_head, MeetsAtHead, MeetsNothing}
use Rattle.mx_body.specs.declared.verdict.Verdict.TheVariants as verdict
use Rattle.mx_body.specs.Response.{print_heads}
use Rattle.mx_body.specs.Causes.{Cause, at_head, refused_status, at_body, Meets}
use Rattle.mx_body.specs.Decision.{first_bytes, HasFinalHead, IsVerdict}
use Rattle.mx_body.proofs.MeetsLemmas.{headless_no_response}

some_bytes : (h : ResponseHead) → 0 < length (print_response h)
unfolding print_response
some_bytes h = by_blank (print_blank h.blank) h.minor h.digits (print_reason h.reason) (print_end h.line_end) (print_section h.fields h.last)
  where
    by_blank : (b : List ℕ) (minor : ℕ) (digits x y z : List ℕ) → 0 < length (b ++ print_version minor ++ space ∷ digits ++ x ++ y ++ z)
    by_blank [] minor digits x y z = omega arith
    by_blank (w ∷ b) minor digits x y z = omega arith

pub no_final : HasFinalHead [] → ⊥
no_final f =
    let h = f.1 in
    omega (arith, some_bytes h, ap length f.3.1.1, length-append (print_heads f.0) (print_response h ++ f.2), length-append (print_response h) f.2)

-- some head
a_head : ResponseHead
a_head = record { blank = []; minor = 1; digits = 50 ∷ 48 ∷ 48 ∷ []; reason = None; line_end = lf; fields = []; last = lf }

abbrev is_digit : ℕ → Type 0
is_digit b = IsTrue (is_ascii_digit b)

is_head : IsResponseHead a_head
unfolding a_head
is_head = record {
  minor = omega arith;
  digits = (refl, All-cons is_digit 50 (48 ∷ 48 ∷ []) refl (All-cons is_digit 48 (48 ∷ []) refl (All-cons is_digit 48 [] refl (All-nil is_digit))));
  reason = All-nil (λ (b : ℕ). IsTrue (is_value_byte b));
  fields = All-nil IsField;
}

not_never : NeverHasResponse [] → ⊥
not_never n = n (print_response a_head) a_head [] (is_head, sym (append-nil (print_response a_head)))

nil_right : (a b : List ℕ) → [] ≡ a ++ b → b ≡ []
nil_right [] b e = sym e
nil_right (x ∷ a) b e = cc

nil_left : (a b : List ℕ) → [] ≡ a ++ b → a ≡ []
nil_left [] b e = refl
nil_left (x ∷ a) b e = cc

meets_none : (m : Method) (c : Cause) → Meets m [] c → ⊥
meets_none m (at_head c) h = by_cause c (subst (λ (l : List ℕ). MeetsAtHead l c) (nil_right (print_heads h.0) h.1 h.2.1) h.3)
  where
    no_push : (s : List ℕ) (b : ℕ) → [] ≡ s ++ b ∷ [] → ⊥
    no_push [] b e = cc
    no_push (x ∷ s) b e = cc

    by_cause : (c : HeadCause) → MeetsAtHead [] c → ⊥
    by_cause many_fields h = no_push h.0 h.1 h.2
    by_cause never_head h = not_never h
    by_cause long_head h = omega (arith, h.0)
meets_none m refused_status h =
    omega (arith, some_bytes h.1, ap length h.2.1, length-append (print_heads h.0) (print_response h.1))
meets_none m (at_body c) h = no_final (h.0, h.1, h.2, h.3)

nothing_meets : (m : Method) (input : List ℕ) → input ≡ [] → MeetsNothing (Meets m) input
nothing_meets m input e q more c f h =
    meets_none m c (subst (λ (l : List ℕ). Meets m l c) (nil_left q more (sym e ∙ f)) h)

first_none : first_bytes [] ≡ []
unfolding first_bytes
first_none = refl

-- nothing is decided before any byte
pub more_first : (m : Method) → IsVerdict m [] false verdict.More
more_first m =
    (record { unfinished = headless_no_response m [] false no_final; faultless = nothing_meets m (first_bytes []) first_none }, omega arith, refl)
