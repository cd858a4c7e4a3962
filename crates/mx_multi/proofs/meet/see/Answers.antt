use Rattle.std.proofs.Common.{◌≡◌, ◌∙◌, ap}
use Rattle.crossbeam_channel.specs.Claims.{view}
use Rattle.mx_board.specs.Board.{ReaderState}
use Rattle.mx_lock.specs.Engine.{EngineId}
use Rattle.mx_multi.specs.Seats.{SeatView}
use Rattle.mx_multi.proofs.Standing.{other_sees, received_same, seat_sees, sees_from}
use Rattle.mx_multi.proofs.meet.see.Goals as goal

pub invariant_of-seat : goal.invariant_of-seat
invariant_of-seat g c =
    let x = c.args.taken.now in
    let r = c.seat.inside.reader in
    let f = rw (← c.seat.view_is) at c.requires.finds in
    let engine = ap (λ (s : SeatView g.row.Q.Denot g.row.O.Denot). s.of.engine) c.seat.view_is ∙ c.requires.engine in
    let book : r.book ≡ x.book = c.seat.invariant.0.book ∙ ap (λ (e : EngineId). e.book) engine in (
      seat_sees _ r _ x c.seat.invariant.0 f.later f.own book c.refresh.ensures.reader,
      c.seat.invariant.1,
      received_same _ _
          (other_sees _ (view c.seat.inside.key) r c.refresh.new.reader c.seat.inside.polled c.seat.inside.notes c.seat.inside.ties.entries c.tell.new.mark.entries c.seat.inside.mine c.seat.inside.given x c.tell.ensures.grown f.later f.own c.requires.legal c.refresh.ensures.reader)
          c.seat.invariant.2,
      c.tell.ensures.book ∙ c.seat.invariant.3,
    )

pub returns-clause-sees : goal.returns-clause-sees
returns-clause-sees g c =
    let x = c.args.taken.now in
    let r = c.seat.inside.reader in
    let f = rw (← c.seat.view_is) at c.requires.finds in
    record {
      sees = sees_from _ _ _ c.seat.view_is
          (other_sees _ (view c.seat.inside.key) r c.refresh.new.reader c.seat.inside.polled c.seat.inside.notes c.seat.inside.ties.entries c.tell.new.mark.entries c.seat.inside.mine c.seat.inside.given x c.tell.ensures.grown f.later f.own c.requires.legal c.refresh.ensures.reader);
      seen = ap (λ (t : ReaderState). t.seen) c.refresh.ensures.reader;
      claims = ap (λ (s : SeatView g.row.Q.Denot g.row.O.Denot). s.claims) c.seat.view_is;
      given = ap (λ (s : SeatView g.row.Q.Denot g.row.O.Denot). s.given) c.seat.view_is;
    }
