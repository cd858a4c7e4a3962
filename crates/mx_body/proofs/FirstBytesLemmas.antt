-- The bytes that are looked at, and the heads in them.
use Rattle.std.proofs.Common.{◌≡◌, ℕ, ◌<◌, ◌≤◌, Bool, List, ◌++◌, min, length, take, drop, sym, ap, ◌∙◌, arith, append_assoc, length-append, length-take}
use Rattle.std.proofs.lemmas.List.{take-append-drop, take_min, take-append-le}
use Rattle.httparse.specs.Grammar.{ResponseHead, print_response}
use Rattle.mx_types.specs.declared.method.Method.{Method}
use Rattle.mx_head.specs.Limits.{most_bytes}
use Rattle.mx_head.specs.Faults.{MeetsNothing}
use Rattle.mx_head.proofs.LineLemmas.{front_of}
use Rattle.mx_body.specs.Response.{print_heads, StandsAtBody}
use Rattle.mx_head.specs.Summary.{Summary}
use Rattle.mx_body.specs.Steps.{HasHeadAt}
use Rattle.mx_body.specs.Causes.{Meets}
use Rattle.mx_body.specs.Decision.{first_bytes, IsUndecided, HasFinalHead}
use Rattle.mx_body.proofs.HeadsLemmas.{body_stands, body_start_small}
use Rattle.mx_body.proofs.MeetsLemmas.{headless_no_response}

-- what follows the bytes that are looked at
pub first_split : (input : List ℕ) → (after : List ℕ) × (input ≡ first_bytes input ++ after)
unfolding first_bytes
first_split input = (drop most_bytes input, sym (take-append-drop most_bytes input))

pub length-first_bytes : (input : List ℕ) → length (first_bytes input) ≡ min most_bytes (length input)
unfolding first_bytes
length-first_bytes input = length-take most_bytes input

pub first_is : (input : List ℕ) (n : ℕ) → n ≡ min (length input) most_bytes → take n input ≡ first_bytes input
unfolding first_bytes
first_is input n e =
    let turned : n ≡ min most_bytes (length input) = omega (arith, e) in
    ap (λ (k : ℕ). take k input) turned ∙ take_min most_bytes input

-- an input of more bytes has the same ones as its continuations
pub first_same : (input more : List ℕ) → most_bytes < length input → first_bytes (input ++ more) ≡ first_bytes input
unfolding first_bytes
first_same input more long = take-append-le most_bytes input more (omega (arith, long))

-- a prefix that is short enough is a prefix of them
pub first_front : (input p rest : List ℕ) → input ≡ p ++ rest → length p ≤ most_bytes
    → (after : List ℕ) × (first_bytes input ≡ p ++ after) × (rest ≡ after ++ (first_split input).0)
first_front input p rest e small =
    let s = first_split input in
    let long : length p ≤ length (first_bytes input) = omega (arith, small, length-first_bytes input, ap length e, length-append p rest) in
    let r = front_of p (first_bytes input) rest s.0 (sym e ∙ s.1) long in
    (r.0, r.1, r.2)

-- so the bytes that are looked at have the same final head
pub record FirstBody (input : List ℕ) (hs : List ResponseHead) (h : ResponseHead) (rest : List ℕ) : Type 0 where
  pub seen : List ℕ
  pub after : List ℕ
  pub stands : StandsAtBody (first_bytes input) hs h seen
  pub splits : rest ≡ seen ++ after

pub first_body : (input : List ℕ) (hs : List ResponseHead) (h : ResponseHead) (rest : List ℕ) → StandsAtBody input hs h rest → FirstBody input hs h rest
first_body input hs h rest s =
    let small = body_start_small input hs h rest s in
    let f = first_front input (print_heads hs ++ print_response h) rest (s.1.1 ∙ sym (append_assoc (print_heads hs) (print_response h) rest)) (omega (arith, small)) in
    record {
      seen = f.0;
      after = (first_split input).0;
      stands = (s.0, (s.1.0, f.1 ∙ append_assoc (print_heads hs) (print_response h) f.0));
      splits = f.2;
    }

pub no_final : (input : List ℕ) → (HasFinalHead (first_bytes input) → ⊥) → HasFinalHead input → ⊥
no_final input none final =
    let f = first_body input final.0 final.1 final.2 final.3 in
    none (final.0, final.1, f.seen, f.stands)

-- and the input has the one that they have
pub final_from : (input : List ℕ) (hs : List ResponseHead) (h : ResponseHead) (rest : List ℕ) → StandsAtBody (first_bytes input) hs h rest
    → StandsAtBody input hs h (rest ++ (first_split input).0)
final_from input hs h rest s = body_stands input (first_bytes input) (first_split input).0 hs h rest (first_split input).1 s

pub undecided_no_head : (m : Method) (input : List ℕ) (ended : Bool)
    → (HasFinalHead (first_bytes input) → ⊥) × ((m : Method) → MeetsNothing (Meets m) (first_bytes input)) → IsUndecided m input ended
undecided_no_head m input ended x = record {
  unfinished = headless_no_response m input ended (no_final input x.0);
  faultless = x.1 m;
}

-- the final head in the bytes that are looked at is the input's
pub head_from : (input : List ℕ) (x : Summary) (end : ℕ) → HasHeadAt (first_bytes input) x end → HasHeadAt input x end
head_from input x end d = record {
  interim = d.interim;
  head = d.head;
  rest = d.rest ++ (first_split input).0;
  stands = final_from input d.interim d.head d.rest d.stands;
  describes = d.describes;
  end_is = d.end_is;
  within = omega (arith, d.within, length-first_bytes input);
  small = d.small;
}
