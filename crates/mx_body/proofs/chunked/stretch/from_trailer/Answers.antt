use Rattle.std.proofs.Common.{refl, arith}
use Rattle.mx_body.specs.declared.chunked.place.ChunkedPlace.TheVariants.{Trailer}
use Rattle.mx_body.proofs.ChunkedStretchLemmas.{alone, trailer_ends, trailer_goes_on}
use Rattle.mx_body.proofs.chunked.stretch.from_trailer.Goals as goal

pub returns-then-is_crlf_at : goal.returns-then-is_crlf_at
returns-then-is_crlf_at c =
    trailer_ends c.args.limit c.args.place c.line_bytes-n.result c.args.input.now (c.if-is_crlf_at.ensures.within refl) (c.if-is_crlf_at.ensures.there refl)
    (trailer_goes_on c.args.limit c.args.place c.line_bytes-n.result c.args.input.now c.requires.place (omega (arith, c.if-n-eq0.false)) c.line_bytes-n.ensures.within c.line_bytes-n.ensures.line)

pub returns : goal.returns
returns c =
    alone c.args.limit c.args.place Trailer c.line_bytes-n.result c.args.input.now (omega (arith, c.if-n-eq0.false)) refl
    (trailer_goes_on c.args.limit c.args.place c.line_bytes-n.result c.args.input.now c.requires.place (omega (arith, c.if-n-eq0.false)) c.line_bytes-n.ensures.within c.line_bytes-n.ensures.line)
