-- A multi handle may be shared by threads, and a seat may go to another thread, where work and endings may go to one.
use denote.RattleType.{RattleType}
use denote.Ref.{NamedLft}
use denote.Param.Send.{IsSend, IsSync, struct_send, struct_sync, shr_send, sendable}
use denote.Struct.Declared.{shape}
use Rattle.std.proofs.Crossing.{crosses}
use Rattle.crossbeam_channel.proofs.flavors.array.Key.TheSendSync.{the_send as key_send}
use Rattle.crossbeam_channel.proofs.flavors.array.Doing.TheSendSync.{the_send as doing_send}
use Rattle.atomic_table.proofs.badge.Badge.TheSendSync.{the_send as badge_send}
use Rattle.atomic_table.proofs.shared.Seat.TheSendSync.{the_send as chair_send}
use Rattle.mx_append_log.proofs.mark.CountedMark.TheSendSync.{the_sync as mark_sync}
use Rattle.mx_types.specs.contracts.event.Event as Event
use Rattle.mx_board.proofs.reader.BoardReader.TheSendSync.{the_send as reader_send}
use Rattle.mx_board.proofs.progress.NoteSeat.TheSendSync.{the_send as notes_send}
use Rattle.mx_board.proofs.progress.ProgressTable.TheSendSync.{the_sync as words_sync}
use Rattle.mx_lock.proofs.Sends.{engine_send, lock_sync}
use Rattle.mx_append_log.proofs.mark.LogMark.TheSendSync.{the_send as tie_send, the_sync as tie_sync}
use Rattle.mx_types.specs.contracts.origin.Origin as Origin
use Rattle.mx_multi.specs.contracts.seat.SeatOf as SeatOf
use Rattle.mx_multi.specs.contracts.seat.SeatOf.TheInside as SeatInside
use Rattle.mx_multi.specs.contracts.seat.Application as Application
use Rattle.mx_multi.specs.contracts.seat.AtWork as AtWork
use Rattle.mx_multi.specs.contracts.seated.Seated as Seated
use Rattle.mx_multi.specs.contracts.seated.Seated.TheInside as SeatedInside
use Rattle.mx_multi.specs.contracts.multi.Multi as Multi
use Rattle.mx_multi.specs.contracts.multi.Multi.TheInside as MultiInside
use Rattle.mx_types.specs.declared.work.Work as work
use Rattle.mx_types.specs.declared.work.Ending as ending

seat_inside : (K Q O : RattleType) (g : work.Ghosts Q.Denot) (h : ending.Ghosts O.Denot) → IsSend K → IsSend Q → IsSend O → IsSend (SeatInside.the_field K Q O g h).row
seat_inside K Q O g h k q o =
    let s = engine_send Q O g h q o in
    struct_send (shape (SeatInside.the_type K Q O g h)) (search (sendable, crosses) depth 40, (search (chair_send, badge_send, key_send, doing_send, sendable, crosses) depth 40 fits 20000, (reader_send, (search (sendable, crosses) depth 40, (notes_send, (search (sendable, crosses) depth 40, (tie_send Origin.the_row, (search (sendable, crosses) depth 40, (search (sendable, crosses) depth 40, tt)))))))))

pub seat_send : (K Q O : RattleType) (g : work.Ghosts Q.Denot) (h : ending.Ghosts O.Denot) → IsSend K → IsSend Q → IsSend O → IsSend (SeatOf.the_row K Q O g h)
seat_send K Q O g h k q o =
    let a = seat_inside K Q O g h k q o in
    search (sendable) depth 40 fits 20000

pub application_send : IsSend Application.the_row
application_send = search (sendable, crosses) depth 40

pub at_work_send : IsSend AtWork.the_row
at_work_send = search (sendable, crosses) depth 40

multi_inside : (Q O : RattleType) (g : work.Ghosts Q.Denot) (h : ending.Ghosts O.Denot) → IsSend Q → IsSend O → IsSync (MultiInside.the_field Q O g h).row
multi_inside Q O g h q o = struct_sync (shape (MultiInside.the_type Q O g h)) (
  lock_sync Q O g h q o,
  (mark_sync Event.the_row, (tie_sync Origin.the_row, (words_sync, (search (sendable, crosses) depth 40, (search (sendable, crosses) depth 40, (search (sendable, crosses) depth 40, (search (sendable, crosses) depth 40, (search (sendable, crosses) depth 40, tt)))))))),
)

pub multi_sync : (Q O : RattleType) (g : work.Ghosts Q.Denot) (h : ending.Ghosts O.Denot) → IsSend Q → IsSend O → IsSync (Multi.the_row Q O g h)
multi_sync Q O g h q o =
    let a = multi_inside Q O g h q o in
    search (sendable) depth 40 fits 20000

seated_inside : (x : NamedLft) (K Q O : RattleType) (g : work.Ghosts Q.Denot) (h : ending.Ghosts O.Denot) → IsSend K → IsSend Q → IsSend O → IsSend (SeatedInside.the_field x K Q O g h).row
seated_inside x K Q O g h k q o =
    struct_send (shape (SeatedInside.the_type x K Q O g h)) (shr_send x.mir x.lft (Multi.the_row Q O g h) (multi_sync Q O g h q o), (seat_send K Q O g h k q o, tt))

-- a seat that has its multi handle with it
pub seated_send : (x : NamedLft) (K Q O : RattleType) (g : work.Ghosts Q.Denot) (h : ending.Ghosts O.Denot) → IsSend K → IsSend Q → IsSend O → IsSend (Seated.the_row x K Q O g h)
seated_send x K Q O g h k q o =
    let a = seated_inside x K Q O g h k q o in
    search (sendable) depth 40 fits 20000
