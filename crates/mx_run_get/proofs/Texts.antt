-- What is reported of one end more.
use Rattle.std.proofs.Common.{◌≡◌, Bool, true, false, ℕ, ◌<◌, ◌≤◌, ◌+◌, List, [], ◌∷◌, ◌++◌, length, take, map, get_or, refl, ap, sym, ◌∙◌, subst, arith, suc, zero, add-one, append_assoc, append-nil}
use Rattle.std.specs.Prelude.{Option, Some, Result, Ok, Err, OnOk}
use Rattle.std.specs.List.{slice_get}
use Rattle.std.specs.Io.KnownBytes.{Appends}
use Rattle.std.proofs.KnownBytes.{Appends-nil, Appends-trans}
use Rattle.std.proofs.lemmas.List.{length-map}
use Rattle.mx_types.specs.declared.code.Code.{Code}
use Rattle.mx_reason.specs.declared.reason.Reason.{Reason}
use Rattle.mx_chain.specs.Hops.{is_ok}
use Rattle.mx_text.specs.declared.fetched.Fetched.{Fetched}
use Rattle.mx_text.specs.Fetched.{code_of}
use Rattle.mx_text.specs.Words.{told_text}
use Rattle.mx_text.specs.Hints.{file_limit_hint}
use Rattle.mx_text.specs.Lines.{IsFailureText, Writes, hint_line}
use Rattle.mx_run_get.specs.Explained.{IsWhyOf, IsEndText, AreEndTexts, IsRunText}

-- a URL that ended well, or failed
pub end_well : (old : Option (List ℕ)) (url : List ℕ) (fetched : Fetched) (c : Code) → c ≡ code_of fetched → is_ok c ≡ true
    → Writes (IsEndText url fetched) (Appends old old)
end_well old url fetched c of is =
    let same : is_ok (code_of fetched) ≡ true = subst (λ x. is_ok x ≡ true) of is in
    ([], record { well = λ e. refl; failed = λ e. let both : true ≡ false = sym same ∙ e in absurd (cc) }, Appends-nil old)

pub end_failed : {A E : Type 0} (r : Result A E) (old new : Option (List ℕ)) (url : List ℕ) (fetched : Fetched) (c : Code) (reason : Option Reason)
    → c ≡ code_of fetched → is_ok c ≡ false → IsWhyOf fetched reason → OnOk r (Writes (IsFailureText url c (told_text c reason)) (Appends old new))
    → OnOk r (Writes (IsEndText url fetched) (Appends old new))
end_failed (Ok a) old new url fetched c reason of is why written =
    let same : is_ok (code_of fetched) ≡ false = subst (λ x. is_ok x ≡ false) of is in (
      written.0,
      record {
        well = λ e. let both : true ≡ false = sym e ∙ same in absurd (cc);
        failed = λ e. (reason, why, subst (λ x. IsFailureText url x (told_text x reason) written.0) of written.1);
      },
      written.2,
    )
end_failed (Err e) old new url fetched c reason of is why written = tt

ends_suc : (urls : List (List ℕ)) (ends : List Fetched) (i : ℕ) (url : List ℕ) (end : Fetched) (text more : List ℕ)
    → slice_get urls i ≡ Some url → slice_get ends i ≡ Some end → AreEndTexts (take i urls) (take i ends) text → IsEndText url end more
    → AreEndTexts (take (suc i) urls) (take (suc i) ends) (text ++ more)
ends_suc [] ends i url end text more at of before is = absurd (cc)
ends_suc (u ∷ urls) [] i url end text more at of before is = absurd (cc)
ends_suc (u ∷ urls) (e ∷ ends) zero url end text more at of before is =
    let same : url ≡ u = cc in
    let alike : end ≡ e = cc in (
      more,
      [],
      subst (λ x. IsEndText u x more) alike (subst (λ x. IsEndText x end more) same is),
      refl,
      ap (λ t. t ++ more) before ∙ sym (append-nil more),
    )
ends_suc (u ∷ urls) (e ∷ ends) (suc i) url end text more at of before is = (
  before.0,
  before.1 ++ more,
  before.2,
  ends_suc urls ends i url end before.1 more at of before.3 is,
  ap (λ t. t ++ more) before.4 ∙ append_assoc before.0 before.1 more,
)

-- one end more is reported
pub end_told : (old mid new : Option (List ℕ)) (urls : List (List ℕ)) (ends : List Fetched) (i : ℕ) (url : List ℕ) (end : Fetched)
    → slice_get urls i ≡ Some url → slice_get ends i ≡ Some end
    → Writes (AreEndTexts (take i urls) (take i ends)) (Appends old mid) → Writes (IsEndText url end) (Appends mid new)
    → Writes (AreEndTexts (take (i + 1) urls) (take (i + 1) ends)) (Appends old new)
end_told old mid new urls ends i url end at of before more =
    let text = before.0 ++ more.0 in
    let all = ends_suc urls ends i url end before.0 more.0 at of before.1 more.1 in (
      text,
      subst (λ k. AreEndTexts (take k urls) (take k ends) text) (sym (add-one i)) all,
      Appends-trans old mid new before.0 more.0 before.2 more.2,
    )

-- the current element of a loop over a slice is at its index
pub place : {T : Type 0} (xs : List T) (i : ℕ) (y : T) → i < length xs → y ≡ get_or xs i y → slice_get xs i ≡ Some y
place [] i y within is = absurd (omega (arith, within))
place (x ∷ xs) zero y within is = ap Some (sym is)
place (x ∷ xs) (suc i) y within is = place xs i y (omega (arith, within)) is

-- all are reported; there may be more URLs
first_told : (urls : List (List ℕ)) (ends : List Fetched) (n : ℕ) (text : List ℕ) → n ≡ length ends → length ends ≤ length urls
    → AreEndTexts (take n urls) (take n ends) text → AreEndTexts urls ends text
first_told [] ends zero text all many is = is
first_told (u ∷ urls) [] zero text all many is = is
first_told (u ∷ urls) (e ∷ ends) zero text all many is = absurd (omega (arith, all))
first_told [] ends (suc n) text all many is = is
first_told (u ∷ urls) [] (suc n) text all many is = is
first_told (u ∷ urls) (e ∷ ends) (suc n) text all many is =
    (is.0, is.1, is.2, first_told urls ends n is.1 (omega (arith, all)) (omega (arith, many)) is.3, is.4)

pub all_told : (old new : Option (List ℕ)) (urls : List (List ℕ)) (ends : List Fetched) (n : ℕ) → n ≡ length ends → length ends ≤ length urls
    → Writes (AreEndTexts (take n urls) (take n ends)) (Appends old new) → Writes (AreEndTexts urls ends) (Appends old new)
all_told old new urls ends n all many before = (before.0, first_told urls ends n before.0 all many before.1, before.2)

-- there are no more ends than URLs
take_within : {X : Type 0} (n : ℕ) (xs : List X) → length (take n xs) ≤ length xs
take_within zero xs = omega arith
take_within (suc n) [] = omega arith
take_within (suc n) (x ∷ xs) = let h = take_within n xs in omega (arith, h)

pub no_more : {A B C : Type 0} (ends : List A) (urls : List B) (n : ℕ) (f : A → C) (g : B → C) → map f ends ≡ map g (take n urls) → length ends ≤ length urls
no_more ends urls n f g same = omega (arith, length-map ends f, ap length same, length-map (take n urls) g, take_within n urls)

-- and the hint after them
pub run_told : {A E : Type 0} (r : Result A E) (old mid new : Option (List ℕ)) (urls : List (List ℕ)) (ends : List Fetched) (met : Bool)
    → Writes (AreEndTexts urls ends) (Appends old mid) → OnOk r (Appends mid new (hint_line (file_limit_hint met)))
    → OnOk r (Writes (IsRunText urls ends met) (Appends old new))
run_told (Ok a) old mid new urls ends met before more =
    let line = hint_line (file_limit_hint met) in (
      before.0 ++ line,
      record { of_ends = before.0; are = before.1; is = refl },
      Appends-trans old mid new before.0 line before.2 more,
    )
run_told (Err e) old mid new urls ends met before more = tt
