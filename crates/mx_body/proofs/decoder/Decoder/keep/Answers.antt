use Rattle.std.proofs.Common.{rules}
use Rattle.mx_body.proofs.decoder.Decoder.keep.Goals as goal

pub returns : goal.returns
returns c = search rules
