use Rattle.std.proofs.Common.{◌≡◌, ◌≤◌, ◌+◌, ◌++◌, map}
use Rattle.std.specs.Prelude.{reverse, vec_capacity, vec_len}
use Rattle.mx_crew.proofs.beside.start_all.Given as goal

abbrev pub invariant-loop-job : goal.invariant-loop-job
invariant-loop-job g l = record {
  order : reverse l.fn.jobs.items ≡ map (λ k. k.promise.job.value) l.handles.items ++ reverse l.jobs.items;
  started : vec_len l.handles + vec_len l.jobs ≡ vec_len l.fn.jobs;
  room : vec_len l.fn.jobs ≤ vec_capacity l.handles;
}

abbrev pub decreases-loop-job : goal.decreases-loop-job
decreases-loop-job g l = vec_len l.jobs
