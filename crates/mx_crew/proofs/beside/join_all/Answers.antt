use Rattle.std.proofs.Common.{arith}
use Rattle.mx_crew.proofs.Jobs.{next_joined}
use Rattle.mx_crew.proofs.beside.join_all.Goals as goal

pub loop-handle-preserved : goal.loop-handle-preserved
loop-handle-preserved g c =
    let was = c.loop-handle.invariant in
    record {
      gives = next_joined (λ k. k.promise.job.value) g.J.Job.gives c.args.handles.items c.loop-handle.handles.items c.pop.new.self.items c.loop-handle.done.items
          c.push_reserved.new.self.items c.in-Some.handle c.join.result was.gives c.in-Some.ensures.items c.push_reserved.ensures.items c.join.ensures;
      joined = omega (arith, c.in-Some.ensures.len, c.push_reserved.ensures.len, was.joined);
      room = omega (arith, was.room, c.push_reserved.ensures.capacity);
    }
