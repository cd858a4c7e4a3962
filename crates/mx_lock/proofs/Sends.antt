-- A lock may be shared by threads, and its content may go to another thread, where work and endings may.
-- `search` finds it for what these are made of, but not for the control state, so each step is here.
use denote.RattleType.{RattleType}
use denote.Param.Send.{IsSend, IsSync, struct_send, struct_sync, sendable}
use denote.Struct.Declared.{shape}
use Rattle.std.proofs.Crossing.{crosses}
use Rattle.mx_types.proofs.event.Event.TheSendSync.{the_send as event_send}
use Rattle.mx_table.proofs.makers.MakerCounts.TheSendSync.{the_send as counts_send}
use Rattle.mx_table.proofs.table.Table.TheSendSync.{the_send as table_send}
use Rattle.mx_journal.specs.contracts.origins.Origins as Origins
use Rattle.mx_journal.specs.contracts.origins.Origins.TheInside as OriginsInside
use Rattle.mx_journal.specs.contracts.control.Control as Control
use Rattle.mx_journal.specs.contracts.control.Control.TheInside as Inside
use Rattle.crossbeam_channel.proofs.flavors.array.ruled.Both.TheSendSync.{the_send as both_send, the_sync as both_sync}
use Rattle.crossbeam_channel.proofs.flavors.array.Rows.TheSendSync.{the_send as rows_send, the_sync as rows_sync}
use Rattle.atomic_table.proofs.badge.Badge.TheSendSync.{the_send as badge_send}
use Rattle.atomic_table.proofs.shared.Shared.TheSendSync.{the_send as words_send, the_sync as words_sync}
use Rattle.mx_board.proofs.writer.BoardWriter.TheSendSync.{the_send as board_send}
use Rattle.mx_append_log.proofs.log.AppendLog.TheSendSync.{the_send as ties_send}
use Rattle.mx_lock.specs.contracts.engine.Parts as Parts
use Rattle.mx_lock.specs.contracts.engine.Engine as Engine
use Rattle.mx_lock.specs.contracts.engine.Engine.TheInside as EngineInside
use Rattle.mx_lock.specs.contracts.lock.Lock as Lock
use Rattle.mx_lock.specs.contracts.lock.Lock.TheInside as LockInside
use Rattle.mx_types.specs.contracts.origin.Origin as Origin
use Rattle.mx_types.specs.declared.work.Work as work
use Rattle.mx_types.specs.declared.work.Ending as ending

origins_inside : (Q : RattleType) (g : work.Ghosts Q.Denot) → IsSend Q → IsSend (OriginsInside.the_field Q g).row
origins_inside Q g q = struct_send (shape (OriginsInside.the_type Q g)) (search (sendable, crosses) depth 40, (search (sendable, crosses) depth 40, tt))

origins_send : (Q : RattleType) (g : work.Ghosts Q.Denot) → IsSend Q → IsSend (Origins.the_field Q g).row
origins_send Q g q =
    let a = origins_inside Q g q in
    search (sendable) depth 40 fits 20000

inside_send : (Q O : RattleType) (g : work.Ghosts Q.Denot) (h : ending.Ghosts O.Denot) → IsSend Q → IsSend O → IsSend (Inside.the_field Q O g h).row
inside_send Q O g h q o = struct_send (shape (Inside.the_type Q O g h)) (
  search (sendable, crosses) depth 40,
  (
    search (sendable, crosses) depth 40,
    (
      search (sendable, crosses) depth 40,
      (
        search (counts_send, sendable, crosses) depth 40,
        (
          search (event_send, sendable, crosses) depth 40,
          (
            search (table_send, sendable, crosses) depth 40,
            (origins_send Q g q, (search (sendable, crosses) depth 40, (search (sendable, crosses) depth 40, (search (sendable, crosses) depth 40, tt)))),
          ),
        ),
      ),
    ),
  ),
)

pub control_send : (Q O : RattleType) (g : work.Ghosts Q.Denot) (h : ending.Ghosts O.Denot) → IsSend Q → IsSend O → IsSend (Control.the_row Q O g h)
control_send Q O g h q o =
    let a = inside_send Q O g h q o in
    search (sendable) depth 40 fits 20000

parts_field : (Q O : RattleType) (g : work.Ghosts Q.Denot) (h : ending.Ghosts O.Denot) → IsSend Q → IsSend O → IsSend (Parts.the_field Q O g h).row
parts_field Q O g h q o = struct_send (shape (Parts.the_type Q O g h)) (control_send Q O g h q o, (board_send, (ties_send Origin.the_row, tt)))

engine_inside : (Q O : RattleType) (g : work.Ghosts Q.Denot) (h : ending.Ghosts O.Denot) → IsSend Q → IsSend O → IsSend (EngineInside.the_field Q O g h).row
engine_inside Q O g h q o =
    let a = parts_field Q O g h q o in
    struct_send (shape (EngineInside.the_type Q O g h)) (search (sendable, crosses) depth 40 fits 20000, tt)

pub engine_send : (Q O : RattleType) (g : work.Ghosts Q.Denot) (h : ending.Ghosts O.Denot) → IsSend Q → IsSend O → IsSend (Engine.the_row Q O g h)
engine_send Q O g h q o =
    let a = engine_inside Q O g h q o in
    search (sendable) depth 40 fits 20000

lock_inside : (Q O : RattleType) (g : work.Ghosts Q.Denot) (h : ending.Ghosts O.Denot) → IsSend Q → IsSend O → IsSync (LockInside.the_field Q O g h).row
lock_inside Q O g h q o =
    let s = engine_send Q O g h q o in
    struct_sync (shape (LockInside.the_type Q O g h)) (
      search (both_send, both_sync, rows_send, rows_sync, badge_send, words_send, words_sync, sendable, crosses) depth 40 fits 20000,
      (search (both_send, both_sync, rows_send, rows_sync, badge_send, words_send, words_sync, sendable, crosses) depth 40 fits 20000, tt),
    )

pub lock_sync : (Q O : RattleType) (g : work.Ghosts Q.Denot) (h : ending.Ghosts O.Denot) → IsSend Q → IsSend O → IsSync (Lock.the_row Q O g h)
lock_sync Q O g h q o =
    let a = lock_inside Q O g h q o in
    search (sendable) depth 40 fits 20000
