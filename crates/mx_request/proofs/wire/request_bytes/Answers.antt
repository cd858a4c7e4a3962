use Rattle.mx_request.proofs.ToldLemmas.{request_bytes-told}
use Rattle.mx_request.proofs.wire.request_bytes.Goals as goal

pub returns : goal.returns
returns c =
    request_bytes-told c.args.method c.args.url.now c.args.settings.now _ c.args.is_first _ _ _ c.settings.view_is c.new-out.ensures.items c.in_ok-put_head.ensures c.in_ok-put_body.ensures
