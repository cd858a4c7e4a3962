use Rattle.mx_request.specs.Endpoint.{is_same_endpoint}
use Rattle.mx_request.specs.RequestBytes.{endpoint_of, told}
use Rattle.mx_request.proofs.CleanLemmas.{lines_are_lines}
use Rattle.mx_request.proofs.LawProofs.{clean, ends}
use Rattle.mx_request.proofs.ToldLemmas.{told_allowed}
use Rattle.mx_request.proofs.UrlLemmas.{scheme_of}
use Rattle.mx_request.proofs.laws.every_head_is_clean.Goals as goal

pub returns : goal.returns
returns c r is =
    let s = told r.first r.url r.settings in
    let allowed = told_allowed (is_same_endpoint (endpoint_of r.url) r.first) r.settings is.allowed in (
      clean r.method r.url s is.valid (scheme_of r.url is.checked) allowed,
      ends r.method r.url s (lines_are_lines r.method r.url s is.valid (scheme_of r.url is.checked) allowed),
    )
