-- Prefixes of a wire that is refused.
use Rattle.std.proofs.Common.{◌≡◌, ◌≢◌, ◌∙◌, refl, ap, sym, subst, ℕ, ◌+◌, ◌-◌, ◌<◌, ◌≤◌, false, List, [], ◌∷◌, ◌++◌, length, take, drop, arith}
use Rattle.std.proofs.lemmas.List.{take-append-drop, take-append-le, take_all, length-take-le}
use Rattle.mx_types.specs.declared.code.Code.{Code}
use Rattle.mx_types.specs.declared.method.Method.{Method}
use Rattle.mx_body.specs.declared.verdict.Verdict.TheVariants as verdict
use Rattle.mx_body.specs.Decision.{BeginsWithResponse, IsVerdict}
use Rattle.mx_body.proofs.EmptyLemmas.{more_first}
use Rattle.mx_body.proofs.LawLemmas.{one_verdict, fault_same}
use Rattle.mx_body.proofs.ResponseLemmas.{never_close, response_stays_same}
use Rattle.mx_reason.specs.declared.bracket.Bracket.{Bracket}
use Rattle.mx_reason.specs.declared.bracket.Standing.{Standing}
use Rattle.mx_reason.specs.declared.bracket.Standing.TheVariants.{Open, Fault, Whole}
use Rattle.mx_reason.specs.Faults.{before_last}
use Rattle.mx_reason.specs.Reasons.{DecidesAt}
use Rattle.mx_reason.specs.Steps.{IsStanding, IsBracket}

-- fewer of the first bytes
pub take_front : (n k : ℕ) (xs : List ℕ) → n ≤ k → k ≤ length xs → take n (take k xs) ≡ take n xs
take_front n k xs le within =
    sym (take-append-le n (take k xs) (drop k xs) (omega (arith, le, length-take-le k xs within))) ∙ ap (take n) (take-append-drop k xs)

-- bytes that are refused are some
pub refused_some : (m : Method) (bytes : List ℕ) (code : Code) → IsVerdict m bytes false (verdict.Fault code) → 0 < length bytes
refused_some m [] code v = absurd (one_verdict m [] false verdict.More (verdict.Fault code) (more_first m) v)
refused_some m (b ∷ bytes) code v = omega arith

-- a prefix that isn't open is refused with the same code
pub refused_front : (m : Method) (wire : List ℕ) (code : Code) (n : ℕ) (s : Standing) → IsVerdict m wire false (verdict.Fault code)
    → IsStanding m (take n wire) s → s ≢ Open → IsVerdict m (take n wire) false (verdict.Fault code)
refused_front m wire code n Open v is isnt = absurd (isnt refl)
refused_front m wire code n (Fault c) v is isnt =
    let whole = subst (λ (t : List ℕ). IsVerdict m t false (verdict.Fault c)) (take-append-drop n wire) (fault_same m (take n wire) (drop n wire) false c is) in
    let same : c ≡ code = one_verdict m wire false (verdict.Fault c) (verdict.Fault code) whole v in
    subst (λ (k : Code). IsVerdict m (take n wire) false (verdict.Fault k)) same is
refused_front m wire code n Whole v is isnt =
    let stays = response_stays_same m (take n wire) (drop n wire) is.1 false false is.0 (never_close m is.2.bytes is.0 is.2.response) is.2 in
    absurd (v.0 is.0 (is.1 ++ drop n wire) (subst (λ (t : List ℕ). BeginsWithResponse m t false is.0 (is.1 ++ drop n wire)) (take-append-drop n wire) stays))

pub bracket_new : (m : Method) (wire : List ℕ) (code : Code) → IsVerdict m wire false (verdict.Fault code)
    → IsBracket m wire code (record { undecided = 0; decided = length wire })
bracket_new m wire code v = record {
  order = refused_some m wire code v;
  within = omega arith;
  before = more_first m;
  refused = subst (λ (t : List ℕ). IsVerdict m t false (verdict.Fault code)) (sym (take_all (length wire) wire (omega arith))) v;
}

-- the number is between, and that many bytes aren't open
pub bracket_less : (m : Method) (wire : List ℕ) (code : Code) (b : Bracket) (n : ℕ) (s : Standing) → IsBracket m wire code b → b.undecided < n → n < b.decided
    → IsStanding m (take n wire) s → s ≢ Open → IsBracket m wire code (record { undecided = b.undecided; decided = n })
bracket_less m wire code b n s is above below stands isnt =
    let same = take_front n b.decided wire (omega (arith, below)) is.within in
    record {
      order = above;
      within = omega (arith, below, is.within);
      before = is.before;
      refused = subst (λ (t : List ℕ). IsVerdict m t false (verdict.Fault code)) same
          (refused_front m (take b.decided wire) code n s is.refused (subst (λ (t : List ℕ). IsStanding m t s) (sym same) stands) isnt);
    }

-- where nothing is between, it is decided
pub bracket_decides : (m : Method) (wire : List ℕ) (code : Code) (b : Bracket) → IsBracket m wire code b → b.decided ≤ b.undecided + 1 → DecidesAt m wire b.decided code
bracket_decides m wire code b is close =
    let long = length-take-le b.decided wire is.within in
    let n : length (take b.decided wire) - 1 ≡ b.undecided = omega (arith, long, close, is.order) in
    let same : before_last (take b.decided wire) ≡ take b.undecided wire =
    ap (λ k. take k (take b.decided wire)) n ∙ take_front b.undecided b.decided wire (omega (arith, is.order)) is.within in
    record {
      within = is.within;
      decides = record {
        some = omega (arith, long, is.order);
        refused = is.refused;
        before = subst (λ (t : List ℕ). IsVerdict m t false verdict.More) (sym same) is.before;
      };
    }
