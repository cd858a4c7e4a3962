-- One part, one handle more.
use Rattle.std.proofs.Common.{◌≡◌, ◌≢◌, ℕ, ◌<◌, ◌+◌, List, [], ◌∷◌, ◌++◌, length, take, get_or, refl, ap, sym, ◌∙◌, arith, suc, zero, add-one, append_assoc, append-nil, inl, inr}
use Rattle.std.specs.Prelude.{Some, Option, Result, Ok, Err, OnOk, slice_range}
use Rattle.std.specs.List.{slice_get}
use Rattle.std.proofs.lemmas.Bool.Decides.{eqb_tells}
use Rattle.std.specs.Io.KnownBytes.{Appends}
use Rattle.std.proofs.KnownBytes.{Appends-trans}
use Rattle.mx_types.specs.Code.{code_number}
use Rattle.mx_body.specs.declared.part.Part.{Part}
use Rattle.mx_body.specs.Parts.{joined}
use Rattle.mx_text.specs.declared.fetched.Fetched.{Fetched}
use Rattle.mx_text.specs.Fetched.{code_of}
use Rattle.mx_text.specs.Texts.{transfer_text, texts_from, exit_status}

joined_suc : (x : List ℕ) (ps : List Part) (i : ℕ) (p : Part) → slice_get ps i ≡ Some p
    → joined x (take (suc i) ps) ≡ joined x (take i ps) ++ slice_range x p.start p.end
joined_suc x [] i p is = absurd (cc)
joined_suc x (q ∷ ps) zero p is = let same : q ≡ p = cc in rw same (append-nil (slice_range x p.start p.end))
joined_suc x (q ∷ ps) (suc i) p is =
    ap (λ ys. slice_range x q.start q.end ++ ys) (joined_suc x ps i p is)
    ∙ sym (append_assoc (slice_range x q.start q.end) (joined x (take i ps)) (slice_range x p.start p.end))

-- one part more
joined_next : (x : List ℕ) (ps : List Part) (i : ℕ) (p : Part) → slice_get ps i ≡ Some p
    → joined x (take (i + 1) ps) ≡ joined x (take i ps) ++ slice_range x p.start p.end
joined_next x ps i p is = ap (λ k. joined x (take k ps)) (add-one i) ∙ joined_suc x ps i p is

-- a line is printed, and a body after it
pub body_printed : {A E : Type 0} (r : Result A E) (old mid new : Option (List ℕ)) (line body : List ℕ)
    → Appends old mid line → OnOk r (Appends mid new body) → OnOk r (Appends old new (line ++ body))
body_printed (Ok a) old mid new line body first more = Appends-trans old mid new line body first more
body_printed (Err e) old mid new line body first more = tt

-- one part more is printed
pub part_printed : (old mid new : Option (List ℕ)) (x : List ℕ) (ps : List Part) (i : ℕ) (p : Part) (bytes : List ℕ)
    → slice_get ps i ≡ Some p → bytes ≡ slice_range x p.start p.end
    → Appends old mid (joined x (take i ps)) → Appends mid new bytes → Appends old new (joined x (take (i + 1) ps))
part_printed old mid new x ps i p bytes at is first more =
    let next = joined_next x ps i p at in rw (next, ← is) (Appends-trans old mid new (joined x (take i ps)) bytes first more)

pub first_at : (xs : List Fetched) (i : ℕ) (y : Fetched) → slice_get xs i ≡ Some y → exit_status (take i xs) ≡ 0
    → code_number (code_of y) ≢ 0 → code_number (code_of y) ≡ exit_status xs
first_at [] i y at none is = absurd (cc)
first_at (x ∷ xs) zero y at none is =
    let same : x ≡ y = cc in
    elim (eqb_tells (code_number (code_of x)) 0) as (λ _. code_number (code_of y) ≡ exit_status (x ∷ xs)) [
      | inl t ↦ absurd (is (ap (λ z. code_number (code_of z)) (sym same) ∙ t.1))
      | inr f ↦ rw f.0 (ap (λ z. code_number (code_of z)) (sym same))
    ]
first_at (x ∷ xs) (suc i) y at none is =
    elim (eqb_tells (code_number (code_of x)) 0) as (λ _. code_number (code_of y) ≡ exit_status (x ∷ xs)) [
      | inl t ↦ let later : exit_status (take i xs) ≡ 0 = rw t.0 at none in rw t.0 (first_at xs i y at later is)
      | inr f ↦ absurd (f.1 (rw f.0 at none))
    ]

none_suc : (xs : List Fetched) (i : ℕ) (y : Fetched) → slice_get xs i ≡ Some y → exit_status (take i xs) ≡ 0
    → code_number (code_of y) ≡ 0 → exit_status (take (suc i) xs) ≡ 0
none_suc [] i y at none is = refl
none_suc (x ∷ xs) zero y at none is =
    let same : x ≡ y = cc in
    let zero_is : code_number (code_of x) ≡ 0 = ap (λ z. code_number (code_of z)) same ∙ is in rw zero_is refl
none_suc (x ∷ xs) (suc i) y at none is =
    elim (eqb_tells (code_number (code_of x)) 0) as (λ _. exit_status (take (suc (suc i)) (x ∷ xs)) ≡ 0) [
      | inl t ↦ let later : exit_status (take i xs) ≡ 0 = rw t.0 at none in rw t.0 (none_suc xs i y at later is)
      | inr f ↦ absurd (f.1 (rw f.0 at none))
    ]

pub none_at : (xs : List Fetched) (i : ℕ) (y : Fetched) → slice_get xs i ≡ Some y → exit_status (take i xs) ≡ 0
    → code_number (code_of y) ≡ 0 → exit_status (take (i + 1) xs) ≡ 0
none_at xs i y at none is = ap (λ k. exit_status (take k xs)) (add-one i) ∙ none_suc xs i y at none is

texts_suc : (handle : ℕ) (xs : List Fetched) (i : ℕ) (y : Fetched) → slice_get xs i ≡ Some y
    → texts_from handle (take (suc i) xs) ≡ texts_from handle (take i xs) ++ transfer_text (handle + i) y
texts_suc handle [] i y at = absurd (cc)
texts_suc handle (x ∷ xs) zero y at =
    let same : x ≡ y = cc in
    let none : handle + 0 ≡ handle = omega arith in
    rw (none, same) (append-nil (transfer_text handle y))
texts_suc handle (x ∷ xs) (suc i) y at =
    let next : handle + 1 + i ≡ handle + suc i = omega arith in
    ap (λ ys. transfer_text handle x ++ ys) (texts_suc (handle + 1) xs i y at ∙ ap (λ k. texts_from (handle + 1) (take i xs) ++ transfer_text k y) next)
    ∙ sym (append_assoc (transfer_text handle x) (texts_from (handle + 1) (take i xs)) (transfer_text (handle + suc i) y))

-- one handle more
texts_next : (xs : List Fetched) (i : ℕ) (y : Fetched) → slice_get xs i ≡ Some y
    → texts_from 0 (take (i + 1) xs) ≡ texts_from 0 (take i xs) ++ transfer_text i y
texts_next xs i y at =
    let none : 0 + i ≡ i = omega arith in
    ap (λ k. texts_from 0 (take k xs)) (add-one i) ∙ texts_suc 0 xs i y at ∙ ap (λ k. texts_from 0 (take i xs) ++ transfer_text k y) none

-- one handle more is printed
pub text_printed : (old mid new : Option (List ℕ)) (xs : List Fetched) (i : ℕ) (y : Fetched) → slice_get xs i ≡ Some y
    → Appends old mid (texts_from 0 (take i xs)) → Appends mid new (transfer_text i y)
    → Appends old new (texts_from 0 (take (i + 1) xs))
text_printed old mid new xs i y at first more =
    let next = texts_next xs i y at in rw next (Appends-trans old mid new (texts_from 0 (take i xs)) (transfer_text i y) first more)

-- the current element of a loop over a slice is at its index
pub place : (xs : List Fetched) (i : ℕ) (y : Fetched) → i < length xs → y ≡ get_or xs i y → slice_get xs i ≡ Some y
place [] i y within is = absurd (omega (arith, within))
place (x ∷ xs) zero y within is = ap Some (sym is)
place (x ∷ xs) (suc i) y within is = place xs i y (omega (arith, within)) is
