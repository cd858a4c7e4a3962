use Rattle.mx_request.proofs.CleanLemmas.{lines_are_lines}
use Rattle.mx_request.proofs.LawProofs.{ends}
use Rattle.mx_request.proofs.UrlLemmas.{http_scheme}
use Rattle.mx_request.proofs.laws.empty_line_ends_head.Goals as goal

pub returns : goal.returns
returns c method text settings request built =
    ends method built.url settings (lines_are_lines method built.url settings built.valid (http_scheme text built.url built.parsed) built.allowed)
