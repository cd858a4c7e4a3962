-- What follows the interim heads of a text.
use Rattle.std.proofs.Common.{◌≡◌, ◌∙◌, ◌⊎◌, inl, inr, refl, ap, sym, subst, ℕ, ◌+◌, List, ◌++◌, length, arith, length-append}
use Rattle.httparse.specs.Grammar.{ResponseHead, print_response, status_code}
use Rattle.mx_head.specs.Heads.{IsHead, HasNoHead}
use Rattle.mx_head.specs.Limits.{most_interim}
use Rattle.mx_head.specs.Reading.{IsStepOn}
use Rattle.mx_head.specs.declared.types.HeadStep.{HeadStep}
use Rattle.mx_head.specs.declared.types.HeadStep.TheVariants as step
use Rattle.mx_head.specs.Summary.{Summary}
use Rattle.mx_body.specs.Response.{IsInterimStatus, print_heads}
use Rattle.mx_body.specs.Steps.{IsBehind}
use Rattle.mx_body.proofs.MeetsLemmas.{tail_from, behind_reads, head_next}
use Rattle.mx_reason.specs.Steps.{IsOpenAt, IsRefusedAt}

-- no head begins there
pub no_head : (rest : List ℕ) (read : HeadStep) → IsStepOn rest read → ((x : Summary) → read ≡ step.Head x → ⊥) → HasNoHead rest
no_head rest (step.Head x) is isnt = absurd (isnt x refl)
no_head rest step.More is isnt = is.0
no_head rest (step.Fault code) is isnt = is.0

pub open_at : (text : List ℕ) (start passed : ℕ) → IsBehind text start passed → HasNoHead (tail_from start text) → IsOpenAt text start
open_at text start passed b none = record {
  interim = b.interim;
  rest = b.rest;
  stands = b.stands;
  none = subst HasNoHead (behind_reads text start passed b) none;
  start_is = b.start_is;
}

pub refused_at : (text : List ℕ) (start passed end : ℕ) (h : ResponseHead) (rest : List ℕ) → (b : IsBehind text start passed) → IsHead h
    → tail_from start text ≡ print_response h ++ rest → IsInterimStatus (status_code h) → (status_code h ≡ 101) ⊎ (passed ≡ most_interim)
    → end ≡ start + length (print_response h) → IsRefusedAt text end
refused_at text start passed end h rest b head e interim why ends =
    let stands = head_next text start passed h rest b e in
    record {
      interim = b.interim;
      head = h;
      rest = rest;
      stands = stands;
      refused = record {
        head = head;
        refused = elim why [
          | inl leaves ↦ inl leaves
          | inr all ↦ inr (sym b.passed_is ∙ all, interim)
        ];
      };
      end_is = omega (arith, ends, b.start_is, length-append (print_heads b.interim) (print_response h));
      within = omega (arith, ends, b.start_is, ap length stands.1, length-append (print_heads b.interim) (print_response h ++ rest), length-append (print_response h) rest);
    }
