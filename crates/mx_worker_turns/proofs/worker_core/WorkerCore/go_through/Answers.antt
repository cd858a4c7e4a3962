use Rattle.std.proofs.Common.{rules, arith}
use Rattle.mx_worker_turns.proofs.Passing.{goes_next, goes_end, looks_fits}
use Rattle.mx_worker_turns.proofs.worker_core.WorkerCore.go_through.Goals as goal

pub returns-clause-through : goal.returns-clause-through
returns-clause-through g c = c.loop-gone.invariant.so_far _ _ (goes_end _ _ _ _ _ _ (omega arith))

pub loop-gone-preserved : goal.loop-gone-preserved
loop-gone-preserved g c = record {
  so_far = λ last v rest. c.loop-gone.invariant.so_far last v (goes_next _ _ last v _ _ _ _ _ c.in-Some.held c.loop-gone.self.worker _ _ _ c.in-Some.ensures.taken c.look_at.ensures.looks rest);
  bound = c.in-Some.ensures.bound;
  fits = looks_fits _ _ _ c.in-Some.held.held _ _ _ _ c.look_at.ensures.looks (search rules) c.loop-gone.invariant.fits;
  of = search rules;
  same = search rules;
  count = search rules;
}
