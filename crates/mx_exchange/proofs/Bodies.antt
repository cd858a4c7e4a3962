-- Where the parts of a body are.
use Rattle.std.proofs.Common.{◌≡◌, ℕ, zero, suc, append-nil, append_assoc, ◌+◌, ◌-◌, ◌≤◌, ◌<◌, List, [], ◌∷◌, ◌++◌, length, take, drop, ◌∙◌, ap, sym, subst, arith, length-drop, length-append}
use Rattle.std.specs.Prelude.{slice_range, Some}
use Rattle.std.specs.List.{slice_get}
use Rattle.std.proofs.lemmas.Option.{slice_get_within, get_or_from_slice_get}
use Rattle.std.proofs.Math.ListN.{get_or}
use Rattle.std.proofs.lemmas.List.{length-take-le}
use Rattle.mx_body.specs.declared.part.Part.{Part}
use Rattle.mx_body.specs.Parts.{AreOrdered, joined}

ordered_le : (from to : ℕ) (ps : List Part) → AreOrdered from to ps → from ≤ to
ordered_le from to [] h = h
ordered_le from to (p ∷ ps) h = omega (arith, h.0, h.1, ordered_le p.end to ps h.2)

pub ordered_at : (from to : ℕ) (ps : List Part) (i : ℕ) (d : Part) → AreOrdered from to ps → i < length ps
    → (from ≤ (get_or ps i d).start) × ((get_or ps i d).start ≤ (get_or ps i d).end) × ((get_or ps i d).end ≤ to)
ordered_at from to [] i d h less = absurd (omega (arith, less))
ordered_at from to (p ∷ ps) zero d h less = (h.0, omega (arith, h.1), ordered_le p.end to ps h.2)
ordered_at from to (p ∷ ps) (suc i) d h less =
    let r = ordered_at p.end to ps i d h.2 (omega (arith, less)) in (omega (arith, h.0, h.1, r.0), r.1, r.2)

pub slice_len : (x : List ℕ) (a b : ℕ) → a ≤ b → b ≤ length x → length (slice_range x a b) ≡ b - a
slice_len x a b ab bx = length-take-le (b - a) (drop a x) (omega (arith, length-drop a x, ab, bx))

-- what is before a part is no longer than where it starts
pub joined_before : (x : List ℕ) (from to : ℕ) (ps : List Part) (i : ℕ) (d : Part) → AreOrdered from to ps → to ≤ length x → i < length ps
    → from + length (joined x (take i ps)) ≤ (get_or ps i d).start
joined_before x from to [] i d h fits less = absurd (omega (arith, less))
joined_before x from to (p ∷ ps) zero d h fits less = omega (arith, h.0)
joined_before x from to (p ∷ ps) (suc i) d h fits less =
    let r = joined_before x p.end to ps i d h.2 fits (omega (arith, less)) in
    let one = slice_len x p.start p.end (omega (arith, h.1)) (omega (arith, ordered_le p.end to ps h.2, fits)) in
    omega (arith, r, one, h.0, h.1, length-append (slice_range x p.start p.end) (joined x (take i ps)))

-- one part more
pub joined_next : (x : List ℕ) (from to : ℕ) (ps : List Part) (i : ℕ) (d : Part) → AreOrdered from to ps → to ≤ length x → i < length ps
    → length (joined x (take (suc i) ps)) ≡ length (joined x (take i ps)) + ((get_or ps i d).end - (get_or ps i d).start)
joined_next x from to [] i d h fits less = absurd (omega (arith, less))
joined_next x from to (p ∷ ps) zero d h fits less =
    let one = slice_len x p.start p.end (omega (arith, h.1)) (omega (arith, ordered_le p.end to ps h.2, fits)) in
    ap (λ (l : List ℕ). length l) (append-nil (slice_range x p.start p.end)) ∙ omega (arith, one)
joined_next x from to (p ∷ ps) (suc i) d h fits less =
    let r = joined_next x p.end to ps i d h.2 fits (omega (arith, less)) in
    length-append (slice_range x p.start p.end) (joined x (take (suc i) ps)) ∙ omega (arith, r, length-append (slice_range x p.start p.end) (joined x (take i ps)))

-- a part that is read is within the text
pub ordered_part : (x : List ℕ) (ps : List Part) (i : ℕ) (p : Part) → AreOrdered 0 (length x) ps → i < length ps → p ≡ get_or ps i p
    → (p.start ≤ p.end) × (p.end ≤ length x)
ordered_part x ps i p h less is =
    let r = ordered_at 0 (length x) ps i p h less in
    subst (λ (q : Part). (q.start ≤ q.end) × (q.end ≤ length x)) (sym is) (r.1, r.2)

-- the body up to a part, and that part, are the body up to the next one
pub joined_one : (x : List ℕ) (ps : List Part) (i : ℕ) (p : Part) → slice_get ps i ≡ Some p
    → joined x (take (suc i) ps) ≡ joined x (take i ps) ++ slice_range x p.start p.end
joined_one x [] i p is = absurd (omega (arith, slice_get_within {A = Part} [] i p is))
joined_one x (q ∷ ps) zero p is = append-nil (slice_range x q.start q.end) ∙ ap (λ (r : Part). slice_range x r.start r.end) (get_or_from_slice_get (q ∷ ps) 0 p p is)
joined_one x (q ∷ ps) (suc i) p is =
    ap (λ (l : List ℕ). slice_range x q.start q.end ++ l) (joined_one x ps i p is)
    ∙ sym (append_assoc (slice_range x q.start q.end) (joined x (take i ps)) (slice_range x p.start p.end))
