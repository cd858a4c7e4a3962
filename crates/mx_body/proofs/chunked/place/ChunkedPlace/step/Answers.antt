use Rattle.std.proofs.Common.{rules}
use Rattle.mx_body.proofs.chunked.place.ChunkedPlace.step.Goals as goal

pub returns-in-Some-parse_hex_digit : goal.returns-in-Some-parse_hex_digit
returns-in-Some-parse_hex_digit c = search rules
