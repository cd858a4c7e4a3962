use Rattle.mx_body.proofs.ChunkedLawProofs.{no_bare_lf, crlf_behind_data, bare_lf_examples}
use Rattle.mx_body.proofs.chunked.laws.framing_is_strict.Goals as goal

pub returns-clause-size_line : goal.returns-clause-size_line
returns-clause-size_line c = no_bare_lf

pub returns-clause-behind_data : goal.returns-clause-behind_data
returns-clause-behind_data c = crlf_behind_data

pub returns-clause-examples : goal.returns-clause-examples
returns-clause-examples c = bare_lf_examples
