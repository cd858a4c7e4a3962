use Rattle.std.proofs.Common.{Some, ap, cond, ◌∙◌}
use Rattle.std.specs.Prelude.{bytes_eq, string_bytes}
use Rattle.mx_embedded.specs.Hosts.{table_of}
use Rattle.mx_embedded.proofs.TableLemmas.{are_given, put_in}
use Rattle.mx_embedded.proofs.hosts.Hosts.put_some.Goals as goal

pub returns-in-Ok-clause-put : goal.returns-in-Ok-clause-put
returns-in-Ok-clause-put c h =
    let host = string_bytes c.args.host in
    rw (are_given c.args.addresses.items c.requires)
    (put_in (λ addresses. addresses.items) c.self.inside.addresses c.insert.new.self host _ c.in-Ok.ensures.updates h
    ∙ ap (λ hosts. cond (bytes_eq host h) (Some c.args.addresses.items) (table_of hosts h)) c.self.view_is)
