use Rattle.std.proofs.Common.{◌≡◌, ◌≤◌, ◌+◌, ◌++◌, List, map}
use Rattle.std.specs.Prelude.{reverse, vec_capacity, vec_len}
use Rattle.std.specs.List.{AllZip}
use Rattle.mx_crew.proofs.beside.join_all.Given as goal

abbrev pub invariant-loop-handle : goal.invariant-loop-handle
invariant-loop-handle g l = record {
  gives : (ended : List _) × (reverse (map (λ k. k.promise.job.value) l.fn.handles.items) ≡ ended ++ reverse (map (λ k. k.promise.job.value) l.handles.items))
      × AllZip g.J.Job.gives ended l.done.items;
  joined : vec_len l.done + vec_len l.handles ≡ vec_len l.fn.handles;
  room : vec_len l.fn.handles ≤ vec_capacity l.done;
}

abbrev pub decreases-loop-handle : goal.decreases-loop-handle
decreases-loop-handle g l = vec_len l.handles
