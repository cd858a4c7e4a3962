use Rattle.mx_request.proofs.UrlLemmas.{http_scheme, target_slash}
use Rattle.mx_request.proofs.laws.target_begins_with_slash.Goals as goal

pub returns : goal.returns
returns c method text settings request built =
    target_slash built.url built.valid (http_scheme text built.url built.parsed)
