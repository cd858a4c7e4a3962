use Rattle.std.proofs.Common.{take, append-nil, sym, subst, ◌∙◌, Some, None}
use Rattle.mx_link.specs.Plan.{AllGiveSome}
use Rattle.mx_link.proofs.Plans.{left_of-none, AllGiveSome-planned, planned-more}
use Rattle.mx_link.proofs.scripted.plan_reads.Goals as goal
use Rattle.mx_link.proofs.scripted.plan_reads.Goals.{in-Some+in_ok-push, in_default}

pub loop-read-preserved : goal.loop-read-preserved
loop-read-preserved c = elim c.match-branch-2.branch [
  | in-Some+in_ok-push w ↦
      rw (w.entries-is, w.in_ok-push.ensures.items)
      (planned-more c.args.reads.now c.loop-read.read-index _ c.loop-read.entries.items (Some w.in-Some.entry) c.loop-read-test.true c.loop-read.invariant (rw w.in-Some.is at c.in_ok-entry.ensures))
  | in_default w ↦
      rw w.entries-is (rw append-nil at
      (planned-more c.args.reads.now c.loop-read.read-index _ c.loop-read.entries.items None c.loop-read-test.true c.loop-read.invariant (rw w.in_default.is at c.in_ok-entry.ensures)))
]

pub invariant_of-result : goal.invariant_of-result
invariant_of-result c =
    subst AllGiveSome (sym (left_of-none c.loop-read.entries.items ∙ c.loop-read.invariant)) (AllGiveSome-planned (take c.loop-read.read-index c.args.reads.now))
