use Rattle.std.proofs.Common.{◌+◌, ◌-◌, length, take, drop, inl, refl, subst, List, None, arith}
use Rattle.std.proofs.lemmas.List.{append-nil}
use Rattle.mx_head.specs.Limits.{most_bytes}
use Rattle.mx_body.specs.declared.part.Part.{Part}
use Rattle.mx_body.specs.declared.chunked.place.ChunkedPlace.TheVariants.{TrailerStart}
use Rattle.mx_body.specs.ChunkedReader.{ReadTo}
use Rattle.mx_body.proofs.ChunkedReaderLemmas.{led}
use Rattle.mx_body.proofs.ChunkedStretchLemmas.{trailer_ends, trailer_goes_on}
use Rattle.mx_body.proofs.chunked.chunks.lines_end.Goals as goal

pub loop-end-preserved : goal.loop-end-preserved
loop-end-preserved c =
    let body = c.args.body.now in
    let end = c.loop-end.end in
    let n = c.line_bytes-n.result in
    let rest = take (length body - end) (drop end body) in
    let line = trailer_ends most_bytes TrailerStart n rest (c.if-not-is_crlf_at.ensures.within refl) (c.if-not-is_crlf_at.ensures.there refl)
    (trailer_goes_on most_bytes TrailerStart n rest (inl refl) (omega (arith, c.if-n-eq0.false)) c.line_bytes-n.ensures.within c.line_bytes-n.ensures.line) in
    record {
      onward = omega (arith, c.loop-end.invariant.onward);
      read = λ at parts r. subst (λ (ps : List Part). ReadTo most_bytes at body (end + (n + 2)) TrailerStart ps) (append-nil parts)
          (led most_bytes at body end TrailerStart parts (record { next = TrailerStart; len = n + 2; ahead = None }) (c.loop-end.invariant.read at parts r) line);
    }
