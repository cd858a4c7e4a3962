use Rattle.mx_text.proofs.Steps.{text_printed, place}
use Rattle.mx_text.proofs.run.print_all.Goals as goal

pub loop-handle-preserved : goal.loop-handle-preserved
loop-handle-preserved g c =
    text_printed _ _ _ c.args.fetched.now c.loop-handle.handle c.index-fetched-handle.result
    (place _ _ _ c.loop-handle-test.true c.index-fetched-handle.is) c.loop-handle.invariant c.in_ok-print_transfer.ensures.bytes
