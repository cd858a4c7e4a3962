use Rattle.std.proofs.Common.{Some, ap, ◌∙◌}
use Rattle.std.specs.Prelude.{option_map}
use Rattle.mx_embedded.specs.Hosts.{table_of}
use Rattle.mx_embedded.proofs.TableLemmas.{seen}
use Rattle.mx_embedded.proofs.hosts.Hosts.find.Goals as goal

pub returns-in-Some : goal.returns-in-Some
returns-in-Some c =
    let host = c.args.host.now in
    ap Some c.as_slice.ensures.value
    ∙ ap (option_map (λ addresses. addresses.items)) c.in-Some.ensures.value
    ∙ seen (λ addresses. addresses.items) host c.self.inside.addresses
    ∙ ap (λ hosts. table_of hosts host) c.self.view_is

pub returns-in-None : goal.returns-in-None
returns-in-None c =
    let host = c.args.host.now in
    ap (option_map (λ addresses. addresses.items)) c.in-None.ensures.value
    ∙ seen (λ addresses. addresses.items) host c.self.inside.addresses
    ∙ ap (λ hosts. table_of hosts host) c.self.view_is
