use Rattle.mx_save_rules.specs.Left.{entries_left, KeepsEntries}
use Rattle.mx_save_rules.proofs.list.UrlList.next.Given as goal

abbrev pub invariant-loop : goal.invariant-loop
invariant-loop g l = KeepsEntries (entries_left g.R.Read.remaining l.initial.self) (entries_left g.R.Read.remaining l.self)
