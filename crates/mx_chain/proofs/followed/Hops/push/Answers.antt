use Rattle.std.proofs.Common.{sym, subst, refl}
use Rattle.mx_chain.specs.Followed.{AreHeld}
use Rattle.mx_chain.proofs.HopLemmas.{held_pushed}
use Rattle.mx_chain.proofs.followed.Hops.push.Goals.{in-Whole, in-Heads}
use Rattle.mx_chain.proofs.followed.Hops.push.Goals as goal

pub invariant_of-self : goal.invariant_of-self
invariant_of-self c = elim c.match-self.branch [
  | in-Whole w ↦ rw w.self-inside-is (subst AreHeld (sym w.push.ensures.items) (held_pushed _ _ _ (rw w.in-Whole.is at c.self.invariant) ((rw (← c.self.view_is, w.in-Whole.is) at c.requires) refl)))
  | in-Heads w ↦ rw w.self-inside-is tt
]
