use Rattle.std.proofs.Common.{rules}
use Rattle.mx_body.proofs.decoder.Decoder.into_parts.Goals as goal

pub returns-in-Complete-clause-parts : goal.returns-in-Complete-clause-parts
returns-in-Complete-clause-parts c = search rules
