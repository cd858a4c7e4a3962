-- How far a read of a body is.
use Rattle.std.proofs.Common.{◌≡◌, ℕ, ◌+◌, ◌-◌, ◌<◌, ◌≤◌, ◌∙◌, List, [], ◌∷◌, ◌++◌, ap, append-nil, append_assoc, sym, arith, drop, length, length-append, min, take}
use Rattle.std.specs.Prelude.{Some, slice_get, slice_range}
use Rattle.std.proofs.lemmas.Grind.{flat_map-append}
use Rattle.std.proofs.lemmas.List.{take-append-drop, take_more, length-drop, length-take-le}
use Rattle.std.proofs.lemmas.Option.{get_or_from_slice_get, slice_get_within}
use Rattle.std.proofs.Math.Seq.{take-append_seam, drop-append_seam}
use Rattle.mx_body.specs.declared.part.Part.{Part}
use Rattle.mx_body.specs.Parts.{joined}
use Rattle.mx_chain.specs.Outcomes.{OutcomeValue}
use Rattle.mx_embedded.specs.Contents.{IsCopied, body_before, body_of}
use Rattle.mx_embedded.proofs.PieceLemmas.{goes_on}

-- before the part of that number so many bytes of the room are written, and as many as `skip` are left out at its front
pub record IsRead (o : OutcomeValue) (from : ℕ) (room out : List ℕ) (part start skip done : ℕ) : Type 0 where
  pub within : part ≤ length o.parts
  pub begins : start ≡ length (body_before o part)
  pub at : from + done ≡ start + skip
  pub first : 0 < skip → done ≡ 0
  pub fits : done ≤ length room
  pub few : done ≤ length (body_of o) - from
  pub copied : out ≡ take done (drop from (body_of o)) ++ drop done room

abbrev bytes_of : OutcomeValue → Part → List ℕ
bytes_of o p = slice_range o.wire p.start p.end

module _ (o : OutcomeValue) (k : ℕ) (p : Part) (there : slice_get o.parts k ≡ Some p) where
  -- the body as far as the end of a part
  before_next : body_before o (k + 1) ≡ body_before o k ++ bytes_of o p
  before_next =
      let one : take (k + 1) o.parts ≡ take k o.parts ++ p ∷ [] = take_more o.parts k p (slice_get_within o.parts k p there) ∙ ap (λ x. take k o.parts ++ x ∷ []) (get_or_from_slice_get o.parts k p p there) in
      ap (joined o.wire) one ∙ flat_map-append (λ (q : Part). slice_range o.wire q.start q.end) (take k o.parts) (p ∷ []) ∙ ap (λ l. body_before o k ++ l) (append-nil (bytes_of o p))

  -- the body: what is before a part, that, and the rest
  body_at : body_of o ≡ body_before o k ++ (bytes_of o p ++ joined o.wire (drop (k + 1) o.parts))
  body_at =
      let back = joined o.wire (drop (k + 1) o.parts) in
      ap (joined o.wire) (sym (take-append-drop (k + 1) o.parts)) ∙ flat_map-append (λ (q : Part). slice_range o.wire q.start q.end) (take (k + 1) o.parts) (drop (k + 1) o.parts)
      ∙ ap (λ l. l ++ back) before_next ∙ append_assoc (body_before o k) (bytes_of o p) back

  -- no part ends behind the body
  pub ends_within : length (body_before o k) + length (bytes_of o p) ≤ length (body_of o)
  ends_within =
      let back = joined o.wire (drop (k + 1) o.parts) in
      let whole : length (body_of o) ≡ length (body_before o k) + (length (bytes_of o p) + length back) =
      ap length body_at ∙ length-append (body_before o k) (bytes_of o p ++ back) ∙ ap (λ n. length (body_before o k) + n) (length-append (bytes_of o p) back) in
      omega (arith, whole)

  module _ (from start skip done n : ℕ) (room out new : List ℕ) (r : IsRead o from room out k start skip done) (is : new ≡ take done out ++ (take n (drop skip (bytes_of o p)) ++ drop n (drop done out)))
      (count : n ≡ min (length (bytes_of o p) - skip) (length out - done)) where
    few_of : n ≤ length (bytes_of o p) - skip
    few_of = omega (arith, count)

    taken : length (take done (drop from (body_of o))) ≡ done
    taken = length-take-le done (drop from (body_of o)) (omega (arith, r.few, length-drop from (body_of o)))

    same_room : length out ≡ length room
    same_room =
        let parts : length out ≡ length (take done (drop from (body_of o))) + length (drop done room) = ap length r.copied ∙ length-append (take done (drop from (body_of o))) (drop done room) in
        omega (arith, parts, taken, length-drop done room, r.fits)

    wrote : new ≡ take (done + n) (drop from (body_of o)) ++ drop (done + n) room
    wrote =
        let written = take done (drop from (body_of o)) in
        let front : take done out ≡ written = ap (take done) r.copied ∙ ap (λ m. take m (written ++ drop done room)) (sym taken) ∙ take-append_seam written (drop done room) in
        let back : drop done out ≡ drop done room = ap (drop done) r.copied ∙ ap (λ m. drop m (written ++ drop done room)) (sym taken) ∙ drop-append_seam written (drop done room) in
        let at : from + done ≡ length (body_before o k) + skip = r.at ∙ ap (λ m. m + skip) r.begins in
        is ∙ rw (front, back) (goes_on (body_of o) (body_before o k) (bytes_of o p) (joined o.wire (drop (k + 1) o.parts)) room from done skip n body_at at few_of)

    -- the room is full before the part ends
    pub stops : n < length (bytes_of o p) - skip → IsCopied (body_of o) from room new (done + n)
    stops less = record {
      count = omega (arith, less, count, same_room, r.fits, r.at, r.begins, ends_within);
      copied = wrote;
    }

    -- the part is read to its end
    pub passes : length (bytes_of o p) - skip ≤ n → IsRead o from room new (k + 1) (start + length (bytes_of o p)) (skip - length (bytes_of o p)) (done + n)
    passes all =
        let within = slice_get_within o.parts k p there in
        let next : length (body_before o (k + 1)) ≡ length (body_before o k) + length (bytes_of o p) = ap length before_next ∙ length-append (body_before o k) (bytes_of o p) in
        record {
          within = omega (arith, within);
          begins = omega (arith, r.begins, next);
          at = omega (arith, r.at, few_of, all);
          first = λ more. (let none = r.first (omega (arith, more)) in omega (arith, none, few_of, more));
          fits = omega (arith, r.fits, count, same_room);
          few = omega (arith, r.few, r.at, r.begins, few_of, all, ends_within);
          copied = wrote;
        }
