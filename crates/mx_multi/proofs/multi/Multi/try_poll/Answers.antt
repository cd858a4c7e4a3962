use Rattle.std.proofs.Common.{◌∙◌, ap, sym, refl, length}
use Rattle.crossbeam_channel.specs.Claims.{view}
use Rattle.mx_lock.specs.Lock.{IsKeyOf}
use Rattle.mx_board.specs.Board.{ReaderState}
use Rattle.mx_multi.specs.Seats.{SeatView}
use Rattle.mx_types.specs.declared.call.Call.TheVariants as call
use Rattle.mx_types.specs.declared.reply.Reply.TheVariants as reply
use Rattle.mx_lock.specs.Engine.{Leaves}
use Rattle.mx_multi.proofs.Standing.{list_kept, list_released, seat_after, seat_released, receipt_is, received_more, lock_stands, same_of, engine_kept, engine_released, received_released, stands_from, woken, caught_confirmed, legal_as, length_as, ready_as, finds_none_ready, none_ready_from, locked_as, finds_other, other_from}
use Rattle.mx_multi.proofs.multi.Multi.try_poll.Goals as goal

pub invariant_of-seat-then-is_ready : goal.invariant_of-seat-then-is_ready
invariant_of-seat-then-is_ready g c =
    let k : IsKeyOf c.self.inside.lock c.leave.new.key = c.leave.ensures.kept in
    let took = c.in-Ok.ensures.entered.0 in
    let x = c.in-Ok.taken in
    let y = c.in-Ok.taken in
    let leaves : Leaves c.seat.inside.reader.who call.Poll x reply.Woken x = woken _ x (legal_as _ _ c.engine-found.ensures c.len-cut.ensures.legal) in (
      seat_after _ _ c.seat.inside.reader x c.seat.invariant.0 took _ _ x c.leave.ensures.gave c.leave.ensures.reader refl,
      k.2,
      received_more _ _ _ _
          (lock_stands _ _ c.seat.inside.reader x c.seat.invariant.0 took _ c.leave.new.reader x c.leave.ensures.gave c.leave.ensures.reader _ _ c.seat.inside.polled c.len-cut.result c.seat.inside.notes c.seat.inside.ties.entries c.leave.new.ties.entries c.seat.inside.mine c.seat.inside.given c.note_receipt.new.mine _ _ _ c.leave.ensures.told.1 refl (same_of _ _ _ c.args.self.now c.args.seat.now c.requires.own c.self.view_is (ap (λ (s : SeatView g.row.Q.Denot g.row.O.Denot). s.of) c.seat.view_is) k.0 k.1 (engine_kept _ _ c.seat.inside.reader x c.seat.invariant.0 took _ y c.leave.ensures.gave) refl refl)
          refl c.in-Ok.ensures.entered.1 leaves (length_as _ _ _ c.engine-found.ensures c.len-cut.ensures.length) (λ _. sym (ready_as _ _ _ _ c.engine-found.ensures c.is_ready.ensures) ∙ c.if-is_ready.true)
          (receipt_is _ _ _ _ _ _ _ _ c.note_receipt.ensures ((length_as _ _ _ c.engine-found.ensures c.len-cut.ensures.length) ∙ ap (λ (t : ReaderState). length t.seen) (sym c.leave.ensures.reader)) refl refl))
          c.seat.invariant.2,
      list_kept _ _ c.seat.inside.reader x c.seat.invariant.0 took _ y _ _ c.leave.ensures.gave c.leave.ensures.told.0 c.seat.invariant.3,
    )

pub returns-then-is_ready-clause-polls : goal.returns-then-is_ready-clause-polls
returns-then-is_ready-clause-polls g c =
    let k : IsKeyOf c.self.inside.lock c.leave.new.key = c.leave.ensures.kept in
    let took = c.in-Ok.ensures.entered.0 in
    let x = c.in-Ok.taken in
    let y = c.in-Ok.taken in
    let leaves : Leaves c.seat.inside.reader.who call.Poll x reply.Woken x = woken _ x (legal_as _ _ c.engine-found.ensures c.len-cut.ensures.legal) in (
      stands_from _ _ _ _ _ c.seat.view_is
          (lock_stands _ _ c.seat.inside.reader x c.seat.invariant.0 took _ c.leave.new.reader x c.leave.ensures.gave c.leave.ensures.reader _ _ c.seat.inside.polled c.len-cut.result c.seat.inside.notes c.seat.inside.ties.entries c.leave.new.ties.entries c.seat.inside.mine c.seat.inside.given c.note_receipt.new.mine _ _ _ c.leave.ensures.told.1 refl (same_of _ _ _ c.args.self.now c.args.seat.now c.requires.own c.self.view_is (ap (λ (s : SeatView g.row.Q.Denot g.row.O.Denot). s.of) c.seat.view_is) k.0 k.1 (engine_kept _ _ c.seat.inside.reader x c.seat.invariant.0 took _ y c.leave.ensures.gave) refl refl)
          refl c.in-Ok.ensures.entered.1 leaves (length_as _ _ _ c.engine-found.ensures c.len-cut.ensures.length) (λ _. sym (ready_as _ _ _ _ c.engine-found.ensures c.is_ready.ensures) ∙ c.if-is_ready.true)
          (receipt_is _ _ _ _ _ _ _ _ c.note_receipt.ensures ((length_as _ _ _ c.engine-found.ensures c.len-cut.ensures.length) ∙ ap (λ (t : ReaderState). length t.seen) (sym c.leave.ensures.reader)) refl refl)),
      caught_confirmed _ _ x c.leave.ensures.reader,
    )

pub invariant_of-seat-2 : goal.invariant_of-seat-2
invariant_of-seat-2 g c =
    let k : IsKeyOf c.self.inside.lock c.put_back.new.key = c.put_back.ensures.kept in
    let took = c.in-Ok.ensures.entered.0 in
    let x = c.in-Ok.taken in (
      seat_released _ _ c.seat.inside.reader x c.seat.invariant.0 took _ c.put_back.ensures.gave,
      k.2,
      received_released (view c.seat.inside.key) (view c.put_back.new.key) c.seat.inside.reader _ _ c.seat.inside.polled c.seat.inside.notes c.seat.inside.ties.entries c.seat.inside.mine c.seat.inside.given (engine_released _ _ c.seat.inside.reader x c.seat.invariant.0 took _ c.put_back.ensures.gave) c.seat.invariant.2,
      list_released _ _ c.seat.inside.reader x c.seat.invariant.0 took _ _ c.put_back.ensures.gave c.seat.invariant.3,
    )

pub returns-clause-asleep : goal.returns-clause-asleep
returns-clause-asleep g c =
    none_ready_from g.O.Ending.code_of g.O.Ending.size_of _ _ c.seat.view_is
    (finds_none_ready (view c.seat.inside.key) _ c.seat.inside.reader c.in-Ok.taken c.seat.invariant.0 c.in-Ok.ensures.entered.0 g.O.Ending.code_of g.O.Ending.size_of _ c.seat.inside.polled c.seat.inside.notes c.seat.inside.ties.entries c.seat.inside.mine c.seat.inside.given refl c.in-Ok.ensures.entered.1
    (locked_as _ _ _ _ c.engine-found.ensures c.know-known.ensures.locked) (sym (ready_as _ _ _ _ c.engine-found.ensures c.is_ready.ensures) ∙ c.if-is_ready.false))

pub returns-in-Err-clause-right : goal.returns-in-Err-clause-right
returns-in-Err-clause-right g c =
    other_from g.O.Ending.code_of g.O.Ending.size_of _ _ c.seat.view_is
    (finds_other g.O.Ending.code_of g.O.Ending.size_of (view c.seat.inside.key) c.seat.inside.reader c.in-Err._found.value _ c.seat.inside.polled c.seat.inside.notes c.seat.inside.ties.entries c.seat.inside.mine c.seat.inside.given refl c.seat.invariant.0 c.in-Err.ensures.right.0 c.in-Err.ensures.newer c.in-Err.ensures.right.1)
