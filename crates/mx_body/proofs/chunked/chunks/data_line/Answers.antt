use Rattle.std.proofs.Common.{refl, arith}
use Rattle.mx_body.specs.declared.chunked.place.ChunkedPlace.TheVariants.{Data}
use Rattle.mx_body.proofs.ChunkedReaderLemmas.{left_fits}
use Rattle.mx_body.proofs.ChunkedStretchLemmas.{data_line_ends}
use Rattle.mx_body.proofs.chunked.chunks.data_line.Goals as goal

pub returns-clause-fits : goal.returns-clause-fits
returns-clause-fits c =
    let line = data_line_ends c.args.limit c.digits-size.result.0 c.digits-size.result.1 c.args.input.now (omega (arith, c.if-size-eq0.false)) c.digits-size.ensures.first
    (c.if-not-is_crlf_at.ensures.within refl) (c.if-not-is_crlf_at.ensures.there refl) c.digits-size.ensures.goes_on in
    left_fits c.args.limit _ (Data c.digits-size.result.0) line.leads

pub returns-clause-line : goal.returns-clause-line
returns-clause-line c =
    data_line_ends c.args.limit c.digits-size.result.0 c.digits-size.result.1 c.args.input.now (omega (arith, c.if-size-eq0.false)) c.digits-size.ensures.first
    (c.if-not-is_crlf_at.ensures.within refl) (c.if-not-is_crlf_at.ensures.there refl) c.digits-size.ensures.goes_on
