use Rattle.std.proofs.Common.{rules, arith}
use Rattle.mx_turn.specs.Turn.{Retries}
use Rattle.mx_turn.specs.Engines.{EndView}
use Rattle.mx_worker_turns.proofs.Passing.{each_next, each_end, retries_fits}
use Rattle.mx_worker_turns.proofs.worker_core.WorkerCore.retry_those.Goals as goal

pub returns-clause-retries : goal.returns-clause-retries
returns-clause-retries g c = c.loop-gone.invariant.so_far _ (each_end (λ (x : EndView). x.end) Retries _ _ (omega arith))

pub loop-gone-preserved : goal.loop-gone-preserved
loop-gone-preserved g c = record {
  so_far = λ v rest. c.loop-gone.invariant.so_far v (each_next (λ (x : EndView). x.end) Retries _ _ c.in-Some.finished _ c.record.new.self.worker v c.in-Some.ensures.taken c.record.ensures.retries rest);
  fits = retries_fits c.in-Some.finished.end _ _ _ _ c.record.ensures.retries (search rules) c.loop-gone.invariant.fits;
  of = search rules;
  same = search rules;
  count = search rules;
}
