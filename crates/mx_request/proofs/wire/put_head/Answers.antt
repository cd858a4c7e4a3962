use Rattle.mx_request.proofs.ToldLemmas.{request_head-told}
use Rattle.mx_request.proofs.wire.put_head.Goals as goal

pub returns : goal.returns
returns c =
    let fields = rw c.as_slice.ensures.value at c.in_ok-put_settings.ensures in
    request_head-told c.args.method c.args.url.now c.args.settings.now _ c.args.is_first c.args.endpoint.now c.args.out.now.items _ _ _ _ c.requires c.settings.view_is c.in_ok-put_request_line.ensures c.in_ok-put_host.ensures fields c.in_ok-extend_from_slice.ensures.items
