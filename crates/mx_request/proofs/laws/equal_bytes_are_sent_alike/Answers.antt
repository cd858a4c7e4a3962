use Rattle.std.proofs.Common.{sym, ap, ◌∙◌}
use Rattle.mx_request.proofs.CleanLemmas.{fields_sent, lines_are_lines}
use Rattle.mx_request.proofs.LawProofs.{sent_alike}
use Rattle.mx_request.proofs.UrlLemmas.{http_scheme}
use Rattle.mx_request.proofs.laws.equal_bytes_are_sent_alike.Goals as goal

pub returns : goal.returns
returns c m n text other_text s t request other built other_built same =
    sent_alike m n built.url other_built.url s t
    (lines_are_lines m built.url s built.valid (http_scheme text built.url built.parsed) built.allowed)
    (lines_are_lines n other_built.url t other_built.valid (http_scheme other_text other_built.url other_built.parsed) other_built.allowed)
    (fields_sent built.url s built.valid built.allowed)
    (fields_sent other_built.url t other_built.valid other_built.allowed)
    (sym (ap (λ r. r.bytes) built.value) ∙ same ∙ ap (λ r. r.bytes) other_built.value)
