-- Requests that are the same.
use Rattle.std.proofs.Common.{◌≡◌, sym, ◌∙◌}
use Rattle.mx_request.specs.Request.{RequestValue, IsRequest, chained}
use Rattle.mx_request.proofs.UrlLemmas.{same_url}
use Rattle.url.specs.Parts.{serialize}

-- requests of the same method, URL, settings and first endpoint are the same
pub same_request : (request other : RequestValue) → IsRequest request → IsRequest other → request.method ≡ other.method → serialize request.url ≡ serialize other.url
    → request.settings ≡ other.settings → request.first ≡ other.first → request ≡ other
same_request request other is other_is method text settings first =
    let url : request.url ≡ other.url = same_url request.url other.url is.valid is.checked other_is.valid other_is.checked text in
    is.value ∙ (λ i. chained (first i) (method i) (url i) (settings i)) ∙ sym other_is.value
