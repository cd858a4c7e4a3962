-- What was read of an exchange stays true when more bytes have come.
use Rattle.std.proofs.Common.{◌≡◌, ℕ, suc, ◌+◌, ◌-◌, ◌<◌, ◌≤◌, Bool, false, List, [], ◌∷◌, ◌++◌, length, take, drop, slice_range, refl, sym, ap, subst, ◌∙◌, inl, inr, arith, length-take, length-append}
use Rattle.std.specs.Prelude.{Ok, Option, Some, None, option_map}
use Rattle.httparse.specs.Grammar.{print_response}
use Rattle.httparse.specs.declared.spans.Span.{Span}
use Rattle.mx_head.specs.Fields.{location_of}
use Rattle.mx_head.specs.Summary.{StandsAt}
use Rattle.mx_head.proofs.PlaceLemmas.{slice_front}
use Rattle.mx_body.specs.Response.{print_heads}
use Rattle.mx_body.specs.declared.part.Part.{Part}
use Rattle.std.proofs.lemmas.List.{take_all, take-append-drop, take-take, take-append-le, drop-append-le, length-take-le, length-drop}
use Rattle.std.proofs.Math.Seq.{take-add}
use Rattle.mx_head.specs.Limits.{most_bytes}
use Rattle.mx_head.specs.Summary.{Summary, framing_by}
use Rattle.mx_head.specs.declared.types.Framing.TheVariants.{Chunked}
use Rattle.mx_head.proofs.SummaryLemmas.{framing_agrees}
use Rattle.mx_types.specs.declared.method.Method.{Method}
use Rattle.mx_head.proofs.ScanLemmas.{scanned_stays}
use Rattle.mx_body.specs.declared.heads.Passed.{Passed}
use Rattle.mx_body.specs.Steps.{IsBehind, HavePassed, HasHeadAt}
use Rattle.mx_body.specs.declared.chunked.place.ChunkedPlace.TheVariants.{Start, Data}
use Rattle.mx_body.specs.declared.progress.Phase.{Phase}
use Rattle.mx_body.specs.declared.progress.Phase.TheVariants.{Heads, Body, Chunks}
use Rattle.mx_body.specs.Progress.{IsPhase, KnowsHead, status_read, location_read}
use Rattle.mx_body.specs.ChunkedPlace.{place_after, is_settled, parts_begun}
use Rattle.mx_body.specs.ChunkedScan.{IsUndecidedChunked}
use Rattle.mx_body.specs.ChunkedReader.{HasRead}
use Rattle.mx_body.specs.declared.chunked.reader.ChunkedReader.{ChunkedReader}
use Rattle.mx_body.specs.Decision.{HasStatus, HasLocation, TellsLocation, IsPartAt, IsPlaceIn, bytes_at, IsUndecided}
use Rattle.mx_body.proofs.ChunkedBodyLemmas.{short_undecided, seen_is}
use Rattle.mx_body.proofs.ChunkedLemmas.{open_is_undecided}
use Rattle.mx_body.proofs.ChunkedReaderLemmas.{data_passed}
use Rattle.mx_body.proofs.HeadsLemmas.{head_stands, body_stands, no_interim}

-- a longer prefix of the bytes
longer : (wire : List ℕ) (before n : ℕ) → before ≤ n → take n wire ≡ take before wire ++ take (n - before) (drop before wire)
longer wire before n le =
    let same : n ≡ before + (n - before) = omega (arith, le) in
    ap (λ (k : ℕ). take k wire) same ∙ take-add before (n - before) wire

pub passed_grows : (wire : List ℕ) (before n : ℕ) (p : Passed) → before ≤ n → HavePassed (take before wire) p → HavePassed (take n wire) p
passed_grows wire before n p le h =
    let b = h.behind in
    let more = take (n - before) (drop before wire) in
    record {
      behind = record {
        interim = b.interim;
        rest = b.rest ++ more;
        stands = head_stands (take n wire) (take before wire) more b.interim b.rest (longer wire before n le) b.stands;
        start_is = b.start_is;
        passed_is = b.passed_is;
      };
      scanned = scanned_stays b.rest more p.scan h.scanned;
    }

-- the heads that have passed still have when more bytes come
pub passed_more : (front more : List ℕ) (p : Passed) → HavePassed front p → HavePassed (front ++ more) p
passed_more front more p h =
    let b = h.behind in
    record {
      behind = record {
        interim = b.interim;
        rest = b.rest ++ more;
        stands = head_stands (front ++ more) front more b.interim b.rest refl b.stands;
        start_is = b.start_is;
        passed_is = b.passed_is;
      };
      scanned = scanned_stays b.rest more p.scan h.scanned;
    }

-- before the first head, whatever the bytes
pub passed_none : (text : List ℕ) (p : Passed) → HavePassed [] p → HavePassed text p
passed_none text p h = passed_more [] text p h

pub passed_whole : (wire : List ℕ) (n : ℕ) (p : Passed) → n ≤ length wire → HavePassed (take n wire) p → HavePassed wire p
passed_whole wire n p le h = subst (λ (t : List ℕ). HavePassed t p) (take_all (length wire) wire (omega arith)) (passed_grows wire n (length wire) p le h)

pub head_grows : (wire : List ℕ) (before : ℕ) (x : Summary) (end : ℕ) → HasHeadAt (take before wire) x end → HasHeadAt wire x end
head_grows wire before x end d = record {
  interim = d.interim;
  head = d.head;
  rest = d.rest ++ drop before wire;
  stands = body_stands wire (take before wire) (drop before wire) d.interim d.head d.rest (sym (take-append-drop before wire)) d.stands;
  describes = d.describes;
  end_is = d.end_is;
  within = omega (arith, d.within, length-take before wire);
  small = d.small;
}

-- the bytes after an offset that were there are a prefix of those that are there now
same_front : (wire : List ℕ) (before at n k : ℕ) → before ≤ length wire → at ≤ before → before ≤ n → k ≤ before - at
    → take k (drop at (take before wire)) ≡ take k (slice_range wire at n)
same_front wire before at n k there le more within =
    let front = take before wire in
    let back = drop before wire in
    let long : at ≤ length front = omega (arith, le, there, length-take-le before wire there) in
    let room : k ≤ length (drop at front) = omega (arith, within, length-drop at front, length-take-le before wire there) in
    sym (take-append-le k (drop at front) back room)
    ∙ ap (take k) (sym (drop-append-le at front back long) ∙ ap (drop at) (take-append-drop before wire))
    ∙ cut (drop at wire) (omega (arith, within, more))
  where
    cut : (xs : List ℕ) → k ≤ n - at → take k xs ≡ take k (take (n - at) xs)
    cut xs le = sym (take-take k (n - at) xs le)

pub read_grows : (limit : ℕ) (wire : List ℕ) (before at n : ℕ) (r : ChunkedReader) → before ≤ length wire → at ≤ before → before ≤ n → n ≤ length wire
    → HasRead limit (drop at (take before wire)) r → HasRead limit (slice_range wire at n) r
read_grows limit wire before at n r there le more all h =
    let old : length (drop at (take before wire)) ≡ before - at = omega (arith, length-drop at (take before wire), length-take-le before wire there) in
    let same = same_front wire before at n r.read there le more (omega (arith, h.within, old)) in
    record {
      within = omega (arith, h.within, old, le, more, length-take (n - at) (drop at wire), length-drop at wire, all);
      place = ap (place_after limit Start) (sym same) ∙ h.place;
      parts = h.parts ∙ ap (parts_begun limit Start r.at) same;
    }

-- a chunked body that was read to the last byte there, and isn't settled
pub chunks_undecided : (m : Method) (wire : List ℕ) (ended : Bool) (x : Summary) (at : ℕ) (r : ChunkedReader) → length wire ≤ most_bytes
    → HasHeadAt wire x at → framing_by m x ≡ Ok Chunked → HasRead most_bytes (drop at wire) r → is_settled r.place ≡ false
    → r.read ≡ length (drop at wire) → IsUndecided m wire ended
chunks_undecided m wire ended x at r small d chunked h unsettled whole =
    let seen = seen_is wire d.interim d.head d.rest d.stands at (length wire) d.end_is (omega (arith, small)) in
    let all = take_all (length wire - at) (drop at wire) (omega (arith, length-drop at wire)) in
    let read = take_all r.read (drop at wire) (omega (arith, whole)) in
    let undecided = open_is_undecided most_bytes (take r.read (drop at wire)) (ap is_settled h.place ∙ unsettled) in
    short_undecided m wire ended d.interim d.head d.rest d.stands (sym (framing_agrees _ _ d.head d.describes) ∙ chunked)
    (subst (IsUndecidedChunked most_bytes) (read ∙ sym all ∙ seen) undecided)

-- all bytes that have come are data of the chunk that is being read, without its end
pub chunks_pass : (m : Method) (wire : List ℕ) (before : ℕ) (x : Summary) (at left n k : ℕ) (r : ChunkedReader) → before ≤ length wire
    → IsPhase m (take before wire) (Chunks x at) r → r.place ≡ Data left → length wire < before + left
    → n + (length wire - before) ≡ left → k + at ≡ length wire
    → IsPhase m wire (Chunks x at) (record r { place = Data n; read = k })
chunks_pass m wire before x at left n k r there p is short rest_is end =
    let first : length (take before wire) ≡ before = length-take-le before wire there in
    let begun : at ≤ before = omega (arith, p.0.within, first) in
    let was : r.read ≡ before - at = omega (arith, p.5, length-drop at (take before wire), first) in
    let size : length (drop at wire) ≡ length wire - at = length-drop at wire in
    let same : slice_range wire at (length wire) ≡ drop at wire = take_all (length wire - at) (drop at wire) (omega (arith, size)) in
    let read = subst (λ (t : List ℕ). HasRead most_bytes t r) same (read_grows most_bytes wire before at (length wire) r there begun there (omega arith) p.2) in (
      head_grows wire before x at p.0,
      p.1,
      data_passed most_bytes (drop at wire) left n k r read is (omega (arith, was, size, short, begun, there)) (omega (arith, was, size, rest_is, begun, there))
          (omega (arith, size, end)),
      refl,
      p.4,
      omega (arith, size, end),
    )

-- the status of a final head that was read
head_status : (wire : List ℕ) (x : Summary) (end : ℕ) → HasHeadAt wire x end → HasStatus wire x.status
head_status wire x end d = inl (d.interim, d.head, d.rest, d.stands, d.describes.status)

-- the status that was read is that of the bytes
pub known_status : (wire : List ℕ) (p : Phase) → KnowsHead wire p → HasStatus wire (status_read p)
known_status wire (Heads passed) none = inr (none, refl)
known_status wire (Body x end) d = head_status wire x end d
known_status wire (Chunks x end) d = head_status wire x end d

drop_past : (before rest : List ℕ) (n : ℕ) → drop (length before + n) (before ++ rest) ≡ drop n rest
drop_past [] rest n = let same : length {A = ℕ} [] + n ≡ n = omega arith in ap (λ (k : ℕ). drop k rest) same
drop_past (b ∷ before) rest n =
    let more : length (b ∷ before) + n ≡ suc (length before + n) = omega arith in
    ap (λ (k : ℕ). drop k (b ∷ (before ++ rest))) more ∙ drop_past before rest n

-- a part of a text that follows other text in it
shifted : (before mid after : List ℕ) (start end : ℕ) → start ≤ end → end ≤ length mid
    → slice_range (before ++ (mid ++ after)) (length before + start) (length before + end) ≡ slice_range mid start end
shifted before mid after start end ordered within =
    let skip : drop (length before + start) (before ++ (mid ++ after)) ≡ drop start (mid ++ after) = drop_past before (mid ++ after) start in
    let long : (length before + end) - (length before + start) ≡ end - start = omega (arith, ordered) in
    (λ i. take (long i) (skip i)) ∙ slice_front mid after start end ordered within

head_location : (wire : List ℕ) (x : Summary) (end : ℕ) (at : Option Span) (value : Option (List ℕ)) (d : HasHeadAt wire x end)
    → StandsAt (print_response d.head) at value
    → IsPartAt wire (length (print_heads d.interim)) (length (print_heads d.interim ++ print_response d.head))
    (option_map (λ s. record { start = (end - x.len) + s.start; end = (end - x.len) + s.end }) at) value
head_location wire x end None None d at = tt
head_location wire x end None (Some value) d at = absurd at
head_location wire x end (Some s) None d at = absurd at
head_location wire x end (Some s) (Some value) d at =
    let heads = print_heads d.interim in
    let head = print_response d.head in
    let from : end - x.len ≡ length heads = omega (arith, d.end_is, d.describes.len, length-append heads head) in
    let bytes : slice_range wire (length heads + s.start) (length heads + s.end) ≡ slice_range head s.start s.end =
    ap (λ (t : List ℕ). slice_range t (length heads + s.start) (length heads + s.end)) d.stands.1.1 ∙ shifted heads head d.rest s.start s.end at.0.0 at.0.1 in (
      omega (arith, from),
      omega (arith, at.0.0),
      omega (arith, from, at.0.1, length-append heads head),
      subst (λ (n : ℕ). slice_range wire (n + s.start) (n + s.end) ≡ value) (sym from) (bytes ∙ at.1),
    )

-- the place of the location that was read
pub known_location : (wire : List ℕ) (p : Phase) → KnowsHead wire p → HasLocation wire (location_read p)
known_location wire (Heads passed) none = inr (none, refl)
known_location wire (Body x end) d = inl (d.interim, d.head, d.rest, d.stands, head_location wire x end x.location (location_of d.head) d d.describes.location)
known_location wire (Chunks x end) d = inl (d.interim, d.head, d.rest, d.stands, head_location wire x end x.location (location_of d.head) d d.describes.location)

-- the bytes there are the value
pub located_bytes : (wire : List ℕ) (place : Option Part) → HasLocation wire place → TellsLocation wire (bytes_at wire place)
located_bytes wire place (inr none) = inr (none.0, ap (bytes_at wire) none.1)
located_bytes wire place (inl l) = inl (l.0, l.1, l.2, l.3, same place (location_of l.1) l.4)
  where
    same : (p : Option Part) (value : Option (List ℕ)) → IsPartAt wire (length (print_heads l.0)) (length (print_heads l.0 ++ print_response l.1)) p value → bytes_at wire p ≡ value
    same None None at = refl
    same None (Some value) at = absurd at
    same (Some p) None at = absurd at
    same (Some p) (Some value) at = ap Some at.3

-- and they are there
pub located_within : (wire : List ℕ) (place : Option Part) → HasLocation wire place → IsPlaceIn (length wire) place
located_within wire None l = tt
located_within wire (Some p) (inr none) = cc
located_within wire (Some p) (inl l) = inside (location_of l.1) l.4
  where
    inside : (value : Option (List ℕ)) → IsPartAt wire (length (print_heads l.0)) (length (print_heads l.0 ++ print_response l.1)) (Some p) value → (p.start ≤ p.end) × (p.end ≤ length wire)
    inside None at = absurd at
    inside (Some value) at = (at.1, omega (arith, at.2, ap (λ (t : List ℕ). length t) l.3.1.1, length-append (print_heads l.0) (print_response l.1 ++ l.2), length-append (print_response l.1) l.2, length-append (print_heads l.0) (print_response l.1)))

pub nothing_behind : IsBehind [] 0 0
nothing_behind = record { interim = []; rest = []; stands = (no_interim, refl); start_is = refl; passed_is = refl }
