use Rattle.std.proofs.Common.{◌∙◌, ap}
use Rattle.mx_turn.specs.Workers.{Worker}
use Rattle.mx_turn.specs.Turn.{handed_in}
use Rattle.mx_turn.specs.Engines.{EndView}
use Rattle.mx_worker_turns.specs.WorkerSteps.{beside}
use Rattle.mx_worker_turns.proofs.Looking.{handed_beside, settles_on}
use Rattle.mx_worker_turns.proofs.Waiting.{polls_beside}
use Rattle.mx_worker_turns.proofs.worker_core.WorkerCore.serve.Goals as goal

pub returns-in-Waits-clause-serves : goal.returns-in-Waits-clause-serves
returns-in-Waits-clause-serves g c said = rw (← c.deref_mut-polled.ensures.value) (record {
  left = _;
  mid = beside c.poll.new.self.worker said;
  how = _;
  polls = polls_beside _ _ _ _ _ said _ c.in-Waits.ensures.polls;
  settles = settles_on _ c.args.goes c.args.delayed c.wants_link-wants.result c.could_go_on.result c.poll.new.self.worker c.hold_on.new.self.worker said c.wants_link-wants.ensures c.could_go_on.ensures (rw c.waiting.ensures at c.hold_on.ensures.held);
})

pub returns-in-Asks-clause-serves : goal.returns-in-Asks-clause-serves
returns-in-Asks-clause-serves g c said = rw (← c.deref_mut-polled.ensures.value) (record {
  left = _;
  mid = beside c.poll.new.self.worker said;
  how = _;
  polls = polls_beside _ _ _ _ _ said _ c.in-Asks.ensures.polls;
  settles = ap (λ (w : Worker _). beside w said) (rw c.new.ensures at c.hold_on-in-Asks.ensures.held);
})

pub returns-in-Ended-clause-serves : goal.returns-in-Ended-clause-serves
returns-in-Ended-clause-serves g c said = rw (← c.deref_mut-polled.ensures.value) (record {
  left = _;
  mid = beside c.poll.new.self.worker said;
  how = _;
  polls = polls_beside _ _ _ _ _ said _ c.in-Ended.ensures.polls;
  settles = (
    c.record.ensures.retries.0,
    ap (λ (w : Worker _). beside w said) c.record.ensures.retries.1
        ∙ ap (λ (e : EndView). beside (handed_in e.end.ticket e.end.outcome c.record.ensures.retries.0 c.poll.new.self.worker) said) c.new-in-Ended.ensures
        ∙ handed_beside c.record.ensures.retries.0 _ _ c.poll.new.self.worker said,
  );
})
