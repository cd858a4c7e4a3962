use Rattle.std.proofs.Common.{◌∙◌, ap, refl}
use Rattle.crossbeam_channel.specs.Claims.{view}
use Rattle.mx_lock.specs.Lock.{IsKeyOf}
use Rattle.mx_lock.specs.Engine.{IsLeft}
use Rattle.mx_board.specs.Board.{ReaderState}
use Rattle.mx_multi.specs.Seats.{SeatView}
use Rattle.mx_multi.proofs.Standing.{list_kept, seat_after, received_same, lock_sees, same_of, engine_kept, sees_from, claims_after, left_same, no_other, found_state, legal_as, locked_as, finds_other, other_from}
use Rattle.mx_multi.proofs.multi.Multi.locked_state.Goals as goal

pub invariant_of-seat-2 : goal.invariant_of-seat-2
invariant_of-seat-2 g c =
    let k : IsKeyOf c.self.inside.lock c.leave.new.key = c.leave.ensures.kept in
    let took = c.in-Ok.ensures.entered.0 in
    let x = c.in-Ok.taken in
    let left : IsLeft x x = left_same x x refl (legal_as _ _ c.engine-found.ensures c.len-cut.ensures.legal) in (
      seat_after _ _ c.seat.inside.reader x c.seat.invariant.0 took _ _ x c.leave.ensures.gave c.leave.ensures.reader refl,
      k.2,
      received_same _ _
          (lock_sees _ _ c.seat.inside.reader x c.seat.invariant.0 took _ c.leave.new.reader x c.leave.ensures.gave c.leave.ensures.reader _ _ c.seat.inside.polled c.seat.inside.notes c.seat.inside.ties.entries c.leave.new.ties.entries c.seat.inside.mine c.seat.inside.given c.seat.inside.given c.leave.ensures.told.1 (same_of _ _ _ c.args.self.now c.args.seat.now c.requires.own c.self.view_is (ap (λ (s : SeatView g.row.Q.Denot g.row.O.Denot). s.of) c.seat.view_is) k.0 k.1 (engine_kept _ _ c.seat.inside.reader x c.seat.invariant.0 took _ x c.leave.ensures.gave) refl refl) c.in-Ok.ensures.entered.1 left)
          c.seat.invariant.2,
      list_kept _ _ c.seat.inside.reader x c.seat.invariant.0 took _ x _ _ c.leave.ensures.gave c.leave.ensures.told.0 c.seat.invariant.3,
    )

pub returns-clause-sees : goal.returns-clause-sees
returns-clause-sees g c =
    let k : IsKeyOf c.self.inside.lock c.leave.new.key = c.leave.ensures.kept in
    let took = c.in-Ok.ensures.entered.0 in
    let x = c.in-Ok.taken in
    let left : IsLeft x x = left_same x x refl (legal_as _ _ c.engine-found.ensures c.len-cut.ensures.legal) in
    sees_from _ _ _ c.seat.view_is
    (lock_sees _ _ c.seat.inside.reader x c.seat.invariant.0 took _ c.leave.new.reader x c.leave.ensures.gave c.leave.ensures.reader _ _ c.seat.inside.polled c.seat.inside.notes c.seat.inside.ties.entries c.leave.new.ties.entries c.seat.inside.mine c.seat.inside.given c.seat.inside.given c.leave.ensures.told.1 (same_of _ _ _ c.args.self.now c.args.seat.now c.requires.own c.self.view_is (ap (λ (s : SeatView g.row.Q.Denot g.row.O.Denot). s.of) c.seat.view_is) k.0 k.1 (engine_kept _ _ c.seat.inside.reader x c.seat.invariant.0 took _ x c.leave.ensures.gave) refl refl) c.in-Ok.ensures.entered.1 left)

pub returns-clause-found : goal.returns-clause-found
returns-clause-found g c =
    let took = c.in-Ok.ensures.entered.0 in
    let x = c.in-Ok.taken in
    found_state _ _ c.seat.inside.reader x c.seat.invariant.0 took g.O.Ending.code_of g.O.Ending.size_of _ _ (c.know-known.ensures.is ∙ c.engine-found.ensures) (ap (λ (t : ReaderState). t.seen) c.leave.ensures.reader) (engine_kept _ _ c.seat.inside.reader x c.seat.invariant.0 took _ x c.leave.ensures.gave) (locked_as _ _ _ _ c.engine-found.ensures c.know-known.ensures.locked)

pub returns-clause-claims : goal.returns-clause-claims
returns-clause-claims g c =
    let took = c.in-Ok.ensures.entered.0 in
    let x = c.in-Ok.taken in
    claims_after _ _ c.seat.inside.reader x c.seat.invariant.0 took _ _ x c.leave.ensures.gave c.leave.ensures.reader (no_other x x refl) ∙ ap (λ (s : SeatView g.row.Q.Denot g.row.O.Denot). s.claims) c.seat.view_is

pub returns-clause-given : goal.returns-clause-given
returns-clause-given g c = ap (λ (s : SeatView g.row.Q.Denot g.row.O.Denot). s.given) c.seat.view_is

pub returns-in-Err-clause-right : goal.returns-in-Err-clause-right
returns-in-Err-clause-right g c =
    other_from g.O.Ending.code_of g.O.Ending.size_of _ _ c.seat.view_is
    (finds_other g.O.Ending.code_of g.O.Ending.size_of (view c.seat.inside.key) c.seat.inside.reader c.in-Err._found.value _ c.seat.inside.polled c.seat.inside.notes c.seat.inside.ties.entries c.seat.inside.mine c.seat.inside.given refl c.seat.invariant.0 c.in-Err.ensures.right.0 c.in-Err.ensures.newer c.in-Err.ensures.right.1)
