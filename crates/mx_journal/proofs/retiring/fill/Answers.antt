use Rattle.mx_journal.proofs.Retirings.{filled_next}
use Rattle.mx_journal.proofs.retiring.fill.Goals as goal

pub loop-event-preserved : goal.loop-event-preserved
loop-event-preserved c =
    rw c.apply.ensures
    (filled_next c.args.journal.now c.loop-event.event-index _ c.loop-event.table c.loop-event-test.true c.requires.few c.requires.legal c.loop-event.invariant)
