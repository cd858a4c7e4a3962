use Rattle.mx_body.proofs.ChunkedStretchLemmas.{data_ends}
use Rattle.mx_body.proofs.chunked.chunks.has_data.Goals as goal

pub returns-then-n-input-clause-there : goal.returns-then-n-input-clause-there
returns-then-n-input-clause-there c = λ is limit. data_ends limit c.args.size c.args.input.now c.requires (c.is_crlf_at.ensures.within is) (c.is_crlf_at.ensures.there is)
