use Rattle.std.proofs.Common.{rules, arith}
use Rattle.mx_turn.specs.Turn.{GivesBack}
use Rattle.mx_turn.specs.Engines.{HeldView}
use Rattle.mx_worker_turns.proofs.Passing.{each_next, each_end, gives_fits}
use Rattle.mx_worker_turns.proofs.worker_core.WorkerCore.stop_those.Goals as goal

pub returns-clause-gives : goal.returns-clause-gives
returns-clause-gives g c = c.loop-gone.invariant.so_far _ (each_end (λ (x : HeldView _). x.held) GivesBack _ _ (omega arith))

pub loop-gone-preserved : goal.loop-gone-preserved
loop-gone-preserved g c = record {
  so_far = λ v rest. c.loop-gone.invariant.so_far v (each_next (λ (x : HeldView _). x.held) GivesBack _ _ c.in-Some.held _ c.hand_back.new.self.worker v c.in-Some.ensures.taken c.hand_back.ensures.gives rest);
  fits = gives_fits c.in-Some.held.held _ _ _ _ c.hand_back.ensures.gives (search rules) c.loop-gone.invariant.fits;
  of = search rules;
  same = search rules;
  count = search rules;
}
