use Rattle.std.proofs.Common.{◌≡◌, ℕ, ◌-◌, List, ◌++◌}
use Rattle.mx_save_rules.specs.Left.{entries_after, held}
use Rattle.mx_save_rules.proofs.list.UrlList.next_held.Given as goal

abbrev pub invariant-loop-self : goal.invariant-loop-self
invariant-loop-self g l = record {
  left : (rest : List ℕ) → entries_after l.initial.self.line (held l.initial.self ++ rest) ≡ entries_after l.self.line (held l.self ++ rest);
  reader : l.self.reader ≡ l.initial.self.reader;
}

abbrev pub decreases-loop-self : goal.decreases-loop-self
decreases-loop-self g l = l.self.end - l.self.start
