use Rattle.std.proofs.Common.{List, ap}
use Rattle.std.specs.declared.snapshot.Snapshot.{Snapshot}
use Rattle.mx_types.specs.declared.origin.Origin.{Origin}
use Rattle.mx_journal.specs.Core.{OriginList}
use Rattle.mx_journal.proofs.OriginLists.{set_behind}
use Rattle.mx_journal.proofs.origins.Origins.set.Goals as goal

pub returns : goal.returns
returns g c =
    let f = λ (s : Snapshot g.row.Q.Denot). g.Q.Work.origin s.value in
    let le = (rw (← c.self.view_is) at c.requires).0 in
    let from : List Origin → OriginList = λ all. record { begun = c.self.inside.begun; all = all } in
    rw (← c.self.view_is)
    (ap from
    (set_behind f c.self.inside.begun c.self.inside.works.items c.args.ticket.0 c.of.result (g.Q.Work.origin c.args.work.now) le (ap g.Q.Work.origin c.of.ensures)))
