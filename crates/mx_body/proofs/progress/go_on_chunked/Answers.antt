use Rattle.std.proofs.Common.{ℕ, List, ◌++◌, length, take, slice_range, ap, sym, subst, ◌∙◌, arith, length-append, false}
use Rattle.mx_head.specs.Limits.{most_bytes}
use Rattle.mx_head.proofs.SummaryLemmas.{framing_agrees, keeps_agrees}
use Rattle.mx_body.specs.Chunked.{chunked_bytes, chunk_parts}
use Rattle.mx_body.specs.ChunkedScan.{IsChunkedScan}
use Rattle.mx_body.specs.Decision.{first_bytes}
use Rattle.mx_body.specs.ChunkedPlace.{parts_begun}
use Rattle.mx_body.specs.declared.chunked.place.ChunkedPlace.TheVariants.{Start}
use Rattle.mx_body.proofs.MeetsLemmas.{body_response}
use Rattle.mx_body.proofs.FirstBytesLemmas.{first_body, length-first_bytes}
use Rattle.mx_body.proofs.VerdictLemmas.{input_length}
use Rattle.mx_body.proofs.ChunkedBodyLemmas.{large_verdict, bad_verdict, short_undecided, whole_body, seen_is, whole_text}
use Rattle.mx_body.proofs.ChunkedReaderLemmas.{whole_parts}
use Rattle.mx_body.proofs.progress.go_on_chunked.Goals as goal

pub decode_short-requires : goal.decode_short-requires
decode_short-requires c =
    let d = c.requires.head in
    let seen = seen_is c.args.wire.now d.interim d.head d.rest d.stands c.args.at c.min.result d.end_is c.min.ensures in
    let scan = subst (λ (t : List ℕ). IsChunkedScan most_bytes t c.in_ok-read_on.field-0) seen c.in_ok-read_on.ensures.scan in (
      short_undecided c.args.method c.args.wire.now false d.interim d.head d.rest d.stands (sym (framing_agrees _ _ d.head d.describes) ∙ c.requires.chunked)
          (subst (IsChunkedScan most_bytes (first_body c.args.wire.now d.interim d.head d.rest d.stands).seen) c.in-Short.is scan),
      (d.interim, d.head, d.rest, d.stands),
    )

pub returns-in-TooLarge-clause-verdict : goal.returns-in-TooLarge-clause-verdict
returns-in-TooLarge-clause-verdict c =
    let d = c.requires.head in
    let seen = seen_is c.args.wire.now d.interim d.head d.rest d.stands c.args.at c.min.result d.end_is c.min.ensures in
    let scan = subst (λ (t : List ℕ). IsChunkedScan most_bytes t c.in_ok-read_on.field-0) seen c.in_ok-read_on.ensures.scan in
    large_verdict c.args.method c.args.wire.now false d.interim d.head d.rest d.stands (sym (framing_agrees _ _ d.head d.describes) ∙ c.requires.chunked)
    (subst (IsChunkedScan most_bytes (first_body c.args.wire.now d.interim d.head d.rest d.stands).seen) c.in-TooLarge.is scan)

pub returns-in-Bad-clause-verdict : goal.returns-in-Bad-clause-verdict
returns-in-Bad-clause-verdict c =
    let d = c.requires.head in
    let seen = seen_is c.args.wire.now d.interim d.head d.rest d.stands c.args.at c.min.result d.end_is c.min.ensures in
    let scan = subst (λ (t : List ℕ). IsChunkedScan most_bytes t c.in_ok-read_on.field-0) seen c.in_ok-read_on.ensures.scan in
    bad_verdict c.args.method c.args.wire.now false d.interim d.head d.rest d.stands (sym (framing_agrees _ _ d.head d.describes) ∙ c.requires.chunked)
    (subst (IsChunkedScan most_bytes (first_body c.args.wire.now d.interim d.head d.rest d.stands).seen) c.in-Bad.is scan)

pub returns-in-Whole-clause-verdict : goal.returns-in-Whole-clause-verdict
returns-in-Whole-clause-verdict c =
    let d = c.requires.head in
    let f = sym (framing_agrees _ _ d.head d.describes) ∙ c.requires.chunked in
    let g = first_body c.args.wire.now d.interim d.head d.rest d.stands in
    let seen = seen_is c.args.wire.now d.interim d.head d.rest d.stands c.args.at c.min.result d.end_is c.min.ensures in
    let scan = subst (λ (t : List ℕ). IsChunkedScan most_bytes t c.in_ok-read_on.field-0) seen c.in_ok-read_on.ensures.scan in
    let x = subst (IsChunkedScan most_bytes g.seen) c.in-Whole.is scan in
    let b = whole_body c.args.method c.args.wire.now false d.interim d.head d.rest d.stands f x.0 x.1 x.2 in
    let text = ap (λ (t : List ℕ). take c.in-Whole.len t) seen ∙ whole_text g.seen x.0 x.1 c.in-Whole.len x.2.2 x.3 in
    let read = c.in_ok-read_on.ensures.read in
    let len_is = c.in_ok-read_on.ensures.whole c.in-Whole.len c.in-Whole.is in (
      _,
      x.1 ++ g.after,
      body_response c.args.method c.args.wire.now false d.interim d.head d.rest d.stands _ _ _ _ _ b,
      c.status.ensures ∙ d.describes.status,
      omega (arith, d.end_is, x.3, input_length c.args.wire.now d.interim d.head d.rest d.stands, ap length b.splits, length-append (chunked_bytes x.0) (x.1 ++ g.after)),
      ap (λ v. v.items) c.replace.ensures.value ∙ read.parts
          ∙ ap (λ n. parts_begun most_bytes Start n (take c.read_on.new.self.read (slice_range c.args.wire.now c.args.at c.min.result))) (c.in_ok-read_on.ensures.at ∙ c.requires.at)
          ∙ ap (λ n. parts_begun most_bytes Start c.args.at (take n (slice_range c.args.wire.now c.args.at c.min.result))) (sym len_is)
          ∙ whole_parts most_bytes c.args.at _ x.0 x.2.0 text (omega (arith, ap length text, ap length x.2.2, length-append (chunked_bytes x.0) x.1, input_length (first_bytes c.args.wire.now) d.interim d.head g.seen g.stands, length-first_bytes c.args.wire.now))
          ∙ (λ i. chunk_parts (d.end_is i) x.0.chunks),
      c.keeps.ensures ∙ keeps_agrees _ d.head d.describes ∙ grind arith,
    )
