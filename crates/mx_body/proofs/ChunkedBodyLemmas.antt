-- The verdict on an input whose final head asks for a chunked body, by what a scan of the bytes found.
use Rattle.std.proofs.Common.{◌≡◌, ◌≢◌, ℕ, ◌+◌, ◌<◌, ◌≤◌, inl, inr, Bool, List, [], ◌∷◌, ◌++◌, min, length, take, slice_range, refl, sym, ap, subst, ◌∙◌, arith, append_assoc, length-append, Result, Ok, Err, OnErr}
use Rattle.std.proofs.lemmas.List.{append-nil}
use Rattle.std.proofs.lemmas.Bool.{cases_lt}
use Rattle.httparse.specs.Grammar.{ResponseHead, print_response}
use Rattle.mx_types.specs.declared.code.Code.TheVariants.{WeirdServerReply, BadContentEncoding, FilesizeExceeded, RecvError}
use Rattle.mx_types.specs.declared.method.Method.{Method}
use Rattle.mx_head.specs.declared.types.Framing.{Framing}
use Rattle.mx_head.specs.declared.types.Framing.TheVariants.{Counted, Chunked, Close}
use Rattle.mx_head.specs.Framing.{framing_of}
use Rattle.mx_head.specs.Limits.{most_bytes}
use Rattle.mx_head.proofs.LineLemmas.{front_of}
use Rattle.mx_body.specs.declared.part.Part.{Part}
use Rattle.mx_body.specs.declared.verdict.Verdict.TheVariants as verdict
use Rattle.mx_body.specs.Chunked.{Chunk, ChunkedBody, IsChunkedBody, HasSizes, chunked_bytes, chunk_parts, chunked_data, MayBecomeChunked, EndsInLargeSize}
use Rattle.mx_body.specs.ChunkedScan.{BeginsWithChunked, IsUndecidedChunked, NeverHasChunked, IsDecidedBy}
use Rattle.mx_body.specs.Response.{print_heads, StandsAtBody, IsBody}
use Rattle.mx_body.specs.Causes.{BodyCause, bad_framing, unknown_coding, too_big, bad_chunk, body_code, body_line, MeetsAtBody}
use Rattle.mx_body.specs.Decision.{first_bytes, IsUndecided, IsVerdict}
use Rattle.mx_body.proofs.ChunkedLawProofs.{large_may_become}
use Rattle.mx_body.proofs.MeetsLemmas.{body_start, BeginsWithBody}
use Rattle.mx_body.proofs.FirstBytesLemmas.{FirstBody, first_body, length-first_bytes}
use Rattle.mx_body.proofs.VerdictLemmas.{body_fault, body_undecided, input_length}
use Rattle.mx_body.proofs.ResponseLemmas.{same_split}
use Rattle.mx_body.proofs.ContentLemmas.{slice_at}

-- what the bytes after the final head meet
abbrev ChunkedCause : List ℕ → BodyCause → Type 0
ChunkedCause q bad_framing = ⊥
ChunkedCause q unknown_coding = ⊥
ChunkedCause q too_big = EndsInLargeSize most_bytes q
ChunkedCause q bad_chunk = ¬ (MayBecomeChunked q)

chunked_meets : (at : ℕ) (q : List ℕ) (cause : BodyCause) → MeetsAtBody (Ok Chunked) at q cause → ChunkedCause q cause
chunked_meets at q bad_framing x = let e : Ok Chunked ≡ Err WeirdServerReply = x.1 in cc
chunked_meets at q unknown_coding x = let e : Ok Chunked ≡ Err BadContentEncoding = x.1 in cc
chunked_meets at q too_big x = elim x [
  | inl counts ↦ (let e : Ok Chunked ≡ Ok (Counted counts.1.0) = counts.1.1 in absurd (cc))
  | inr large ↦ large.1
]
chunked_meets at q bad_chunk x = x.1

-- the tree of a chunked body at the front
record HasTree (rest left : List ℕ) (length_is : ℕ) : Type 0 where
  tree : ChunkedBody
  is : IsChunkedBody tree
  sizes : HasSizes most_bytes tree
  splits : rest ≡ chunked_bytes tree ++ left
  long : length_is ≡ length (chunked_bytes tree)

tree_of : (at : ℕ) (rest : List ℕ) (ended : Bool) (framing : Framing) (body : List ℕ) (parts : List Part) (content left : List ℕ)
    → BeginsWithBody (Ok Chunked) at rest ended framing body parts content left → HasTree rest left (length body)
tree_of at rest ended framing body parts content left b =
    let asked : Ok Chunked ≡ Ok framing = b.is_asked in
    let same : framing ≡ Chunked = cc in
    let is = subst (λ (f : Framing). IsBody f ended at body parts content) same b.is in
    record {
      tree = is.0;
      is = is.1;
      sizes = is.2;
      splits = b.splits ∙ ap (λ (t : List ℕ). t ++ left) is.3;
      long = ap length is.3;
    }

never_begins : (m : Method) (input : List ℕ) (ended : Bool) (hs : List ResponseHead) (h : ResponseHead) (rest : List ℕ) → (s : StandsAtBody input hs h rest)
    → NeverHasChunked most_bytes (first_body input hs h rest s).seen
    → (framing : Framing) (body : List ℕ) (parts : List Part) (content left : List ℕ) → BeginsWithBody (Ok Chunked) (body_start hs h) rest ended framing body parts content left → ⊥
never_begins m input ended hs h rest s never framing body parts content left b =
    let f = first_body input hs h rest s in
    let t = tree_of (body_start hs h) rest ended framing body parts content left b in
    never f.after t.tree left (t.is, t.sizes, sym f.splits ∙ t.splits)

-- a prefix that is no longer than one that is undecided meets nothing
undecided_meets : (q front rest more : List ℕ) (cause : BodyCause) → IsUndecidedChunked most_bytes front → q ++ more ≡ front ++ rest → length q ≤ length front → ChunkedCause q cause → ⊥
undecided_meets q front rest more cause u e le x = by_cause cause x
  where
    behind : (c : List ℕ) × (front ≡ q ++ c) × (more ≡ c ++ rest)
    behind = front_of q front more rest e le

    by_cause : (cause : BodyCause) → ChunkedCause q cause → ⊥
    by_cause bad_framing none = none
    by_cause unknown_coding none = none
    by_cause too_big large = u.small q behind.0 behind.1 large
    by_cause bad_chunk bad =
        let may = u.may_become in
        bad (may.0, behind.0 ++ may.1, may.2, sym (append_assoc q behind.0 may.1) ∙ ap (λ (t : List ℕ). t ++ may.1) (sym behind.1) ∙ may.3)

-- where a byte decides, a prefix that meets a cause ends with it, or after it
at_byte : (text q more front rest : List ℕ) (b : ℕ) (cause : BodyCause) → text ≡ front ++ b ∷ rest → IsUndecidedChunked most_bytes front → text ≡ q ++ more
    → length q ≤ length (front ++ b ∷ []) → ChunkedCause q cause → q ≡ front ++ b ∷ []
at_byte text q more front rest b cause is u e le x =
    elim (cases_lt (length front) (length q)) [
      | inl behind ↦
          (same_split q (front ++ b ∷ []) more rest (sym e ∙ is ∙ sym (append_assoc front (b ∷ []) rest))
          (omega (arith, behind, le, length-append front (b ∷ [])))).0
      | inr before ↦ absurd (undecided_meets q front (b ∷ rest) more cause u (sym e ∙ is) before x)
    ]

pub large_verdict : (m : Method) (input : List ℕ) (ended : Bool) (hs : List ResponseHead) (h : ResponseHead) (rest : List ℕ) → (s : StandsAtBody input hs h rest)
    → framing_of m h ≡ Ok Chunked
    → IsDecidedBy most_bytes (first_body input hs h rest s).seen (EndsInLargeSize most_bytes) × NeverHasChunked most_bytes (first_body input hs h rest s).seen
    → IsVerdict m input ended (verdict.Fault FilesizeExceeded)
large_verdict m input ended hs h rest s f x =
    body_fault m input ended hs h rest (Ok Chunked) FilesizeExceeded s f (never_begins m input ended hs h rest s x.1)
    (record {
      front = x.0.0 ++ x.0.1 ∷ [];
      after = x.0.2;
      is_prefix = x.0.3 ∙ sym (append_assoc x.0.0 (x.0.1 ∷ []) x.0.2);
      cause = too_big;
      meets = inr (refl, x.0.5);
      code_is = refl;
      first = λ q more other e y ne le.
          let cause = chunked_meets (body_start hs h) q other y in
          let same = at_byte _ q more x.0.0 x.0.2 x.0.1 other x.0.3 x.0.4 e le cause in
          (ap length same, lower q other cause ne);
    })
  where
    lower : (q : List ℕ) (other : BodyCause) → ChunkedCause q other → body_code other ≢ FilesizeExceeded → 5 < body_line other
    lower q bad_framing none ne = absurd none
    lower q unknown_coding none ne = absurd none
    lower q too_big large ne = absurd (ne refl)
    lower q bad_chunk bad ne = omega arith

pub bad_verdict : (m : Method) (input : List ℕ) (ended : Bool) (hs : List ResponseHead) (h : ResponseHead) (rest : List ℕ) → (s : StandsAtBody input hs h rest)
    → framing_of m h ≡ Ok Chunked
    → IsDecidedBy most_bytes (first_body input hs h rest s).seen (λ bytes. ¬ (MayBecomeChunked bytes)) × NeverHasChunked most_bytes (first_body input hs h rest s).seen
    → IsVerdict m input ended (verdict.Fault RecvError)
bad_verdict m input ended hs h rest s f x =
    body_fault m input ended hs h rest (Ok Chunked) RecvError s f (never_begins m input ended hs h rest s x.1)
    (record {
      front = x.0.0 ++ x.0.1 ∷ [];
      after = x.0.2;
      is_prefix = x.0.3 ∙ sym (append_assoc x.0.0 (x.0.1 ∷ []) x.0.2);
      cause = bad_chunk;
      meets = (refl, x.0.5);
      code_is = refl;
      first = λ q more other e y ne le.
          let cause = chunked_meets (body_start hs h) q other y in
          let same = at_byte _ q more x.0.0 x.0.2 x.0.1 other x.0.3 x.0.4 e le cause in
          absurd (only other (subst (λ (t : List ℕ). ChunkedCause t other) same cause) ne);
    })
  where
    only : (other : BodyCause) → ChunkedCause (x.0.0 ++ x.0.1 ∷ []) other → body_code other ≢ RecvError → ⊥
    only bad_framing none ne = none
    only unknown_coding none ne = none
    only too_big large ne = x.0.5 (large_may_become most_bytes (x.0.0 ++ x.0.1 ∷ []) large)
    only bad_chunk bad ne = ne refl

pub short_undecided : (m : Method) (input : List ℕ) (ended : Bool) (hs : List ResponseHead) (h : ResponseHead) (rest : List ℕ) → (s : StandsAtBody input hs h rest)
    → framing_of m h ≡ Ok Chunked → IsUndecidedChunked most_bytes (first_body input hs h rest s).seen → IsUndecided m input ended
short_undecided m input ended hs h rest s f u =
    body_undecided m input ended hs h rest (Ok Chunked) s f none
    (λ q more other e x. undecided_meets q g.seen [] more other u (sym e ∙ sym (append-nil g.seen)) (omega (arith, ap length e, length-append q more)) (chunked_meets (body_start hs h) q other x))
  where
    g : FirstBody input hs h rest
    g = first_body input hs h rest s

    none : (framing : Framing) (body : List ℕ) (parts : List Part) (content left : List ℕ) → BeginsWithBody (Ok Chunked) (body_start hs h) rest ended framing body parts content left → ⊥
    none framing body parts content left b =
        let t = tree_of (body_start hs h) rest ended framing body parts content left b in
        let seen_long = input_length (first_bytes input) hs h g.seen g.stands in
        let all_long = input_length input hs h rest s in
        let r = front_of (chunked_bytes t.tree) g.seen left g.after (sym t.splits ∙ g.splits)
        (omega (arith, t.long, b.fits, seen_long, all_long, length-first_bytes input, ap length t.splits, length-append (chunked_bytes t.tree) left)) in
        u.not_whole t.tree r.0 t.is r.1

pub whole_body : (m : Method) (input : List ℕ) (ended : Bool) (hs : List ResponseHead) (h : ResponseHead) (rest : List ℕ) → (s : StandsAtBody input hs h rest)
    → framing_of m h ≡ Ok Chunked → (tree : ChunkedBody) (left : List ℕ) → BeginsWithChunked most_bytes (first_body input hs h rest s).seen tree left
    → BeginsWithBody (framing_of m h) (body_start hs h) rest ended Chunked (chunked_bytes tree) (chunk_parts (body_start hs h) tree.chunks) (chunked_data tree)
    (left ++ (first_body input hs h rest s).after)
whole_body m input ended hs h rest s f tree left x =
    let g = first_body input hs h rest s in
    record {
      splits = g.splits ∙ ap (λ (t : List ℕ). t ++ g.after) x.2 ∙ append_assoc (chunked_bytes tree) left g.after;
      fits = omega (arith, input_length (first_bytes input) hs h g.seen g.stands, length-first_bytes input, ap length x.2, length-append (chunked_bytes tree) left);
      is_asked = f;
      is = (tree, x.0, x.1, refl, refl, refl);
      ends = λ e. absurd (let both : Chunked ≡ Close = e in cc);
    }

-- the bytes that the code scans
pub seen_is : (input : List ℕ) (hs : List ResponseHead) (h : ResponseHead) (rest : List ℕ) (s : StandsAtBody input hs h rest) (at n : ℕ)
    → at ≡ body_start hs h → n ≡ min (length input) most_bytes → slice_range input at n ≡ (first_body input hs h rest s).seen
seen_is input hs h rest s at n start end =
    let g = first_body input hs h rest s in
    let front = print_heads hs ++ print_response h in
    let whole : input ≡ front ++ (g.seen ++ g.after) =
    s.1.1 ∙ ap (λ (t : List ℕ). print_heads hs ++ (print_response h ++ t)) g.splits ∙ sym (append_assoc (print_heads hs) (print_response h) (g.seen ++ g.after)) in
    let last : n ≡ length front + length g.seen = omega (arith, end, input_length (first_bytes input) hs h g.seen g.stands, length-first_bytes input) in
    ap (λ (t : List ℕ). slice_range t at n) whole
    ∙ (λ i. slice_range (front ++ (g.seen ++ g.after)) (start i) (last i))
    ∙ slice_at front g.seen g.after

-- the whole body in them
pub whole_text : (seen : List ℕ) (tree : ChunkedBody) (left : List ℕ) (len : ℕ) → seen ≡ chunked_bytes tree ++ left → len ≡ length (chunked_bytes tree) → take len seen ≡ chunked_bytes tree
whole_text seen tree left len e long =
    ap (λ n. take n seen) long ∙ ap (take (length (chunked_bytes tree))) e ∙ upto (chunked_bytes tree) left
  where
    upto : (a b : List ℕ) → take (length a) (a ++ b) ≡ a
    upto [] b = refl
    upto (z ∷ a) b = ap (λ (t : List ℕ). z ∷ t) (upto a b)

-- where it has a chunk, its response has a part
pub some_parts : (at : ℕ) (tree : ChunkedBody) → tree.chunks ≢ [] → chunk_parts at tree.chunks ≢ []
some_parts at tree some = by_chunks tree.chunks some
  where
    by_chunks : (chunks : List Chunk) → chunks ≢ [] → chunk_parts at chunks ≢ []
    by_chunks [] some e = some refl
    by_chunks (c ∷ cs) some e = omega (arith, ap length e)

pub any_err : {A E : Type 0} (r : Result A E) (P : Type 0) → P → OnErr r P
any_err (Ok v) P p = tt
any_err (Err e) P p = p
