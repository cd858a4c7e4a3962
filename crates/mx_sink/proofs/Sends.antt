-- A sink in memory may go to another thread, and an outlet where its sink may.
use denote.RattleType.{RattleType}
use denote.Param.Send.{IsSend, struct_send, sendable}
use denote.Struct.Declared.{shape}
use Rattle.std.proofs.Crossing.{crosses}
use Rattle.mx_sink.specs.declared.sink.Sink as sink
use Rattle.mx_sink.specs.contracts.delivery.Held as Held
use Rattle.mx_sink.specs.contracts.memory.MemorySink as MemorySink
use Rattle.mx_sink.specs.contracts.memory.MemorySink.TheInside as MemoryInside
use Rattle.mx_sink.specs.contracts.outlet.Outlet as Outlet
use Rattle.mx_sink.specs.contracts.outlet.Outlet.TheInside as OutletInside

memory_inside : IsSend MemoryInside.the_field.row
memory_inside = struct_send (shape MemoryInside.the_type) (search (sendable, crosses) depth 40, (search (sendable, crosses) depth 40, tt))

pub memory_sink_send : IsSend MemorySink.the_row
memory_sink_send =
    let a = memory_inside in
    search (sendable) depth 40 fits 20000

outlet_inside : (S : RattleType) (g : sink.Ghosts S.Denot) → IsSend S → IsSend (OutletInside.the_field S g).row
outlet_inside S g s = struct_send (shape (OutletInside.the_type S g)) (s, (search (sendable, crosses) depth 40, (search (sendable, crosses) depth 40, (search (sendable, crosses) depth 40, (search (sendable, crosses) depth 40, (search (sendable, crosses) depth 40, tt))))))

pub outlet_send : (S : RattleType) (g : sink.Ghosts S.Denot) → IsSend S → IsSend (Outlet.the_row S g)
outlet_send S g s =
    let a = outlet_inside S g s in
    search (sendable) depth 40 fits 20000

pub held_send : IsSend Held.the_row
held_send = search (sendable, crosses) depth 40
