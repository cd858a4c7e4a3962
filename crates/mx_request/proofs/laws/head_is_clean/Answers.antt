use Rattle.mx_request.proofs.LawProofs.{clean}
use Rattle.mx_request.proofs.UrlLemmas.{http_scheme}
use Rattle.mx_request.proofs.laws.head_is_clean.Goals as goal

pub returns : goal.returns
returns c method text settings request built =
    clean method built.url settings built.valid (http_scheme text built.url built.parsed) built.allowed
