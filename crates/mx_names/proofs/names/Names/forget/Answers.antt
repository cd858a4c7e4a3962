use Rattle.std.proofs.Common.{not, ◌&&◌, subst, sym}
use Rattle.mx_names.specs.Names.{IsTable, is_of, is_under_way}
use Rattle.mx_names.proofs.Tables.{fewer_table}
use Rattle.mx_names.proofs.names.Names.forget.Goals as goal

pub invariant_of-self : goal.invariant_of-self
invariant_of-self g c =
    subst (IsTable g.L.Lookup.gives) (sym c.drop_from.ensures)
    (fewer_table g.L.Lookup.gives (λ state. not (is_of c.args.host.now state && is_under_way state)) c.self.inside.entries.items c.self.invariant)
