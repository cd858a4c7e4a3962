use Rattle.std.proofs.Common.{rules}
use Rattle.mx_body.proofs.chunked.reader.ChunkedReader.go_to.Goals as goal

pub returns : goal.returns
returns c = search rules
