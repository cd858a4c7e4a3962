use Rattle.mx_request.proofs.CleanLemmas.{lines_are_lines}
use Rattle.mx_request.proofs.LawProofs.{splits}
use Rattle.mx_request.proofs.UrlLemmas.{http_scheme}
use Rattle.mx_request.proofs.laws.head_splits_into_lines.Goals as goal

pub returns : goal.returns
returns c method text settings request built lines =
    splits method built.url settings lines (lines_are_lines method built.url settings built.valid (http_scheme text built.url built.parsed) built.allowed)
