-- The pieces of a body in its input.
use Rattle.std.proofs.Common.{◌≡◌, ℕ, ◌+◌, ◌-◌, ◌≤◌, List, [], ◌∷◌, ◌++◌, length, take, drop, arith, ap, refl, sym, ◌∙◌, slice_range}
use Rattle.std.specs.Prelude.{All, sum_by}
use Rattle.std.proofs.lemmas.List.{length-append, length-take, length-drop, drop-append-le, take-append-le}
use Rattle.std.proofs.lemmas.List.Sums.{sum_by-cons}
use Rattle.std.proofs.lemmas.List.Elements.{All-nil, All-cons, All-head, All-tail}
use Rattle.mx_body.specs.declared.part.Part.{Part}
use Rattle.mx_body.specs.Parts.{AreOrdered, joined}
use Rattle.mx_run_local.specs.BodyTexts.{StandsWithin, part_len}

-- the first offset is not past the last
pub in_order : (from to : ℕ) (parts : List Part) → AreOrdered from to parts → from ≤ to
in_order from to [] h = h
in_order from to (p ∷ ps) h =
    let first : from ≤ p.start = h.0 in
    let some = h.1 in
    let later : p.end ≤ to = in_order p.end to ps h.2 in omega arith

-- each is within as many bytes as hold the last offset
pub stand_within : (from to n : ℕ) (parts : List Part) → AreOrdered from to parts → to ≤ n
    → All (StandsWithin n) parts
stand_within from to n [] h small = All-nil (StandsWithin n)
stand_within from to n (p ∷ ps) h small =
    let some = h.1 in
    let later : p.end ≤ to = in_order p.end to ps h.2 in
    let here : StandsWithin n p = (omega arith, omega arith) in
    All-cons (StandsWithin n) p ps here (stand_within p.end to n ps h.2 small)

-- together they have no more bytes than are between the offsets
pub sum_within : (from to : ℕ) (parts : List Part) → AreOrdered from to parts
    → sum_by part_len parts + from ≤ to
sum_within from to [] h = let ordered : from ≤ to = h in omega arith
sum_within from to (p ∷ ps) h =
    let first : from ≤ p.start = h.0 in
    let some = h.1 in
    let later : sum_by part_len ps + p.end ≤ to = sum_within p.end to ps h.2 in
    let more : sum_by part_len (p ∷ ps) ≡ part_len p + sum_by part_len ps = sum_by-cons part_len p ps in omega arith

-- so many bytes are at one
length-piece : (input : List ℕ) (p : Part) → StandsWithin (length input) p
    → length (slice_range input p.start p.end) ≡ part_len p
length-piece input p within =
    let ordered = within.0 in
    let inside = within.1 in
    omega (arith, length-take {A = ℕ}, length-drop {A = ℕ})

-- so many bytes are at them
pub length-joined : (input : List ℕ) (parts : List Part) → All (StandsWithin (length input)) parts
    → length (joined input parts) ≡ sum_by part_len parts
length-joined input [] h = refl
length-joined input (p ∷ ps) h =
    length-append (slice_range input p.start p.end) (joined input ps)
    ∙ ap (λ n. n + length (joined input ps)) (length-piece input p (All-head (StandsWithin (length input)) p ps h))
    ∙ ap (λ n. part_len p + n) (length-joined input ps (All-tail (StandsWithin (length input)) p ps h))
    ∙ sym (sum_by-cons part_len p ps)

-- what is at them is the same where more follows
pub joined_front : (wire behind : List ℕ) (parts : List Part) → All (StandsWithin (length wire)) parts
    → joined (wire ++ behind) parts ≡ joined wire parts
joined_front wire behind [] h = refl
joined_front wire behind (p ∷ ps) h =
    let here = All-head (StandsWithin (length wire)) p ps h in
    let ordered = here.0 in
    let inside = here.1 in
    let start : p.start ≤ length wire = omega arith in
    let len : p.end - p.start ≤ length (drop p.start wire) = omega (arith, length-drop p.start wire) in
    let piece : slice_range (wire ++ behind) p.start p.end ≡ slice_range wire p.start p.end =
    ap (take (p.end - p.start)) (drop-append-le p.start wire behind start) ∙ take-append-le (p.end - p.start) (drop p.start wire) behind len in
    ap (λ (t : List ℕ). t ++ joined (wire ++ behind) ps) piece
    ∙ ap (λ (t : List ℕ). slice_range wire p.start p.end ++ t) (joined_front wire behind ps (All-tail (StandsWithin (length wire)) p ps h))
