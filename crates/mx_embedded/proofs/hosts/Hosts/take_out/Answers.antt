use Rattle.std.proofs.Common.{None, ap, cond, ◌∙◌}
use Rattle.std.specs.Prelude.{bytes_eq}
use Rattle.mx_embedded.specs.Hosts.{table_of}
use Rattle.mx_embedded.proofs.TableLemmas.{put_in}
use Rattle.mx_embedded.proofs.hosts.Hosts.take_out.Goals as goal

pub returns : goal.returns
returns c h =
    put_in (λ addresses. addresses.items) c.self.inside.addresses c.remove-before.new.self c.args.host.now None c.remove-before.ensures.updates h
    ∙ ap (λ hosts. cond (bytes_eq c.args.host.now h) None (table_of hosts h)) c.self.view_is
