use Rattle.std.proofs.Common.{ℕ, List, ◌++◌, length, take, ap, subst, ◌∙◌, arith, length-append, sym}
use Rattle.mx_head.specs.Limits.{most_bytes}
use Rattle.mx_head.proofs.SummaryLemmas.{framing_agrees, keeps_agrees}
use Rattle.mx_body.specs.Chunked.{chunked_bytes, chunk_parts}
use Rattle.mx_body.specs.ChunkedScan.{IsChunkedScan}
use Rattle.mx_body.proofs.MeetsLemmas.{body_start, body_response}
use Rattle.mx_body.proofs.FirstBytesLemmas.{first_body}
use Rattle.mx_body.proofs.VerdictLemmas.{input_length}
use Rattle.mx_body.proofs.ChunkedBodyLemmas.{large_verdict, bad_verdict, short_undecided, whole_body, seen_is, whole_text, some_parts, any_err}
use Rattle.mx_body.proofs.whole.decode_chunked.Goals as goal

pub decode_short-requires : goal.decode_short-requires
decode_short-requires c =
    let d = c.requires.head in
    let seen = seen_is c.args.input.now d.interim d.head d.rest d.stands c.args.at c.min.result d.end_is c.min.ensures in
    let scan = subst (λ (t : List ℕ). IsChunkedScan most_bytes t c.scan_chunked.result) seen c.scan_chunked.ensures in (
      short_undecided c.args.method c.args.input.now c.args.ended d.interim d.head d.rest d.stands (sym (framing_agrees _ _ d.head d.describes) ∙ c.requires.chunked)
          (subst (IsChunkedScan most_bytes (first_body c.args.input.now d.interim d.head d.rest d.stands).seen) c.in-Short.is scan),
      (d.interim, d.head, d.rest, d.stands),
    )

pub returns-in-TooLarge-clause-verdict : goal.returns-in-TooLarge-clause-verdict
returns-in-TooLarge-clause-verdict c =
    let d = c.requires.head in
    let seen = seen_is c.args.input.now d.interim d.head d.rest d.stands c.args.at c.min.result d.end_is c.min.ensures in
    let scan = subst (λ (t : List ℕ). IsChunkedScan most_bytes t c.scan_chunked.result) seen c.scan_chunked.ensures in
    large_verdict c.args.method c.args.input.now c.args.ended d.interim d.head d.rest d.stands (sym (framing_agrees _ _ d.head d.describes) ∙ c.requires.chunked)
    (subst (IsChunkedScan most_bytes (first_body c.args.input.now d.interim d.head d.rest d.stands).seen) c.in-TooLarge.is scan)

pub returns-in-Bad-clause-verdict : goal.returns-in-Bad-clause-verdict
returns-in-Bad-clause-verdict c =
    let d = c.requires.head in
    let seen = seen_is c.args.input.now d.interim d.head d.rest d.stands c.args.at c.min.result d.end_is c.min.ensures in
    let scan = subst (λ (t : List ℕ). IsChunkedScan most_bytes t c.scan_chunked.result) seen c.scan_chunked.ensures in
    bad_verdict c.args.method c.args.input.now c.args.ended d.interim d.head d.rest d.stands (sym (framing_agrees _ _ d.head d.describes) ∙ c.requires.chunked)
    (subst (IsChunkedScan most_bytes (first_body c.args.input.now d.interim d.head d.rest d.stands).seen) c.in-Bad.is scan)

pub returns-in_err-parts-in-Whole-clause-memory : goal.returns-in_err-parts-in-Whole-clause-memory
returns-in_err-parts-in-Whole-clause-memory c =
    let d = c.requires.head in
    let f = sym (framing_agrees _ _ d.head d.describes) ∙ c.requires.chunked in
    let g = first_body c.args.input.now d.interim d.head d.rest d.stands in
    let seen = seen_is c.args.input.now d.interim d.head d.rest d.stands c.args.at c.min.result d.end_is c.min.ensures in
    let scan = subst (λ (t : List ℕ). IsChunkedScan most_bytes t c.scan_chunked.result) seen c.scan_chunked.ensures in
    let x = subst (IsChunkedScan most_bytes g.seen) c.in-Whole.is scan in
    let b = whole_body c.args.method c.args.input.now c.args.ended d.interim d.head d.rest d.stands f x.0 x.1 x.2 in
    any_err c.from_residual.result _ (
      _,
      x.1 ++ g.after,
      body_response c.args.method c.args.input.now c.args.ended d.interim d.head d.rest d.stands _ _ _ _ _ b,
      some_parts (body_start d.interim d.head) x.0 (c.in_err-parts-in-Whole.ensures.memory x.0 x.2.0 (ap (λ (t : List ℕ). take c.in-Whole.len t) seen ∙ whole_text g.seen x.0 x.1 c.in-Whole.len x.2.2 x.3)),
    )

pub returns-in_ok-parts-in-Whole-clause-verdict : goal.returns-in_ok-parts-in-Whole-clause-verdict
returns-in_ok-parts-in-Whole-clause-verdict c =
    let d = c.requires.head in
    let f = sym (framing_agrees _ _ d.head d.describes) ∙ c.requires.chunked in
    let g = first_body c.args.input.now d.interim d.head d.rest d.stands in
    let seen = seen_is c.args.input.now d.interim d.head d.rest d.stands c.args.at c.min.result d.end_is c.min.ensures in
    let scan = subst (λ (t : List ℕ). IsChunkedScan most_bytes t c.scan_chunked.result) seen c.scan_chunked.ensures in
    let x = subst (IsChunkedScan most_bytes g.seen) c.in-Whole.is scan in
    let b = whole_body c.args.method c.args.input.now c.args.ended d.interim d.head d.rest d.stands f x.0 x.1 x.2 in
    let text = ap (λ (t : List ℕ). take c.in-Whole.len t) seen ∙ whole_text g.seen x.0 x.1 c.in-Whole.len x.2.2 x.3 in (
      _,
      x.1 ++ g.after,
      body_response c.args.method c.args.input.now c.args.ended d.interim d.head d.rest d.stands _ _ _ _ _ b,
      c.status.ensures ∙ d.describes.status,
      omega (arith, d.end_is, x.3, input_length c.args.input.now d.interim d.head d.rest d.stands, ap length b.splits, length-append (chunked_bytes x.0) (x.1 ++ g.after)),
      c.in_ok-parts-in-Whole.ensures.parts x.0 x.2.0 text ∙ (λ i. chunk_parts (d.end_is i) x.0.chunks),
      c.keeps.ensures ∙ keeps_agrees _ d.head d.describes ∙ grind arith,
    )
