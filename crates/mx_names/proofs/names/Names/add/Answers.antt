use Rattle.std.proofs.Common.{◌<◌, sym, subst}
use Rattle.std.specs.Prelude.{count_by, string_bytes}
use Rattle.mx_names.specs.Names.{IsTable, is_under_way, most_lookups}
use Rattle.mx_names.proofs.Tables.{begun_table}
use Rattle.mx_names.proofs.names.Names.add.Goals as goal

pub invariant_of-self-2 : goal.invariant_of-self-2
invariant_of-self-2 g c =
    let few : count_by is_under_way c.self.inside.entries.items < most_lookups = subst (λ states. count_by is_under_way states < most_lookups) (sym c.self.view_is) c.requires.few in
    subst (IsTable g.L.Lookup.gives) (sym c.in_ok-add_to.ensures.begun)
    (begun_table g.L.Lookup.gives (string_bytes c.args.host) c.args.now c.self.inside.entries.items c.self.invariant few c.requires.name)
