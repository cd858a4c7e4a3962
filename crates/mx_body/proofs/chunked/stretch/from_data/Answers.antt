use Rattle.std.proofs.Common.{refl}
use Rattle.mx_body.proofs.ChunkedStretchLemmas.{data_ends}
use Rattle.mx_body.proofs.chunked.stretch.from_data.Goals as goal

pub returns-then-is_crlf_at : goal.returns-then-is_crlf_at
returns-then-is_crlf_at c = data_ends c.args.limit c.args.left c.args.input.now c.if-n-gt0.true (c.if-is_crlf_at.ensures.within refl) (c.if-is_crlf_at.ensures.there refl)
