use Rattle.std.proofs.Common.{◌≡◌, ◌∙◌, ap, length, refl, sym, subst, inl}
use Rattle.crossbeam_channel.specs.Claims.{view}
use Rattle.mx_lock.specs.Lock.{IsKeyOf}
use Rattle.mx_board.specs.Board.{ReaderState}
use Rattle.mx_lock.specs.Engine.{EngineState, IsLeft}
use Rattle.mx_multi.specs.Meeting.{AllSee}
use Rattle.mx_multi.specs.Retiring.{AllFind}
use Rattle.mx_multi.specs.Seats.{FindsOther, MultiView, SeatView}
use Rattle.mx_multi.proofs.Standing.{list_kept, list_released, seat_after, seat_released, received_same, received_released, lock_sees, same_of, engine_kept, engine_released, sees_from, claims_after, left_same, no_other, legal_as, length_as, finds_other, other_from}
use Rattle.mx_multi.proofs.multi.Multi.meet_by.Goals as goal

pub see_both-requires-clause-find : goal.see_both-requires-clause-find
see_both-requires-clause-find g c =
    let h = c.if-both_find.ensures in
    subst (λ (z : EngineState g.row.Q.Denot g.row.O.Denot). AllFind z.core.journal c.args.seats.now × AllFind z.core.journal c.args.workers.now) c.engine-found.ensures (h.0.0, h.1.0)

pub see_both-requires-clause-legal : goal.see_both-requires-clause-legal
see_both-requires-clause-legal g c = legal_as _ _ c.engine-found.ensures c.len-cut.ensures.legal

pub invariant_of-one-then-both_find : goal.invariant_of-one-then-both_find
invariant_of-one-then-both_find g c =
    let k : IsKeyOf c.self.inside.lock c.leave.new.key = c.leave.ensures.kept in
    let took = c.in-Ok.ensures.entered.0 in
    let x = c.in-Ok.taken in
    let y = c.see_both.new.taken in
    let same : y ≡ x = c.see_both.ensures.same in
    let left : IsLeft x y = left_same x y same (legal_as _ _ c.engine-found.ensures c.len-cut.ensures.legal) in (
      seat_after _ _ c.one.inside.reader x c.one.invariant.0 took _ _ y c.leave.ensures.gave c.leave.ensures.reader left.book,
      k.2,
      received_same _ _
          (lock_sees _ _ c.one.inside.reader x c.one.invariant.0 took _ c.leave.new.reader y c.leave.ensures.gave c.leave.ensures.reader _ _ c.one.inside.polled c.one.inside.notes c.one.inside.ties.entries c.leave.new.ties.entries c.one.inside.mine c.one.inside.given c.one.inside.given c.leave.ensures.told.1 (same_of _ _ _ c.args.self.now c.args.one.now c.requires.own.0 c.self.view_is (ap (λ (s : SeatView g.row.Q.Denot g.row.O.Denot). s.of) c.one.view_is) k.0 k.1 (engine_kept _ _ c.one.inside.reader x c.one.invariant.0 took _ y c.leave.ensures.gave) refl refl) c.in-Ok.ensures.entered.1 left)
          c.one.invariant.2,
      list_kept _ _ c.one.inside.reader x c.one.invariant.0 took _ y _ _ c.leave.ensures.gave c.leave.ensures.told.0 c.one.invariant.3,
    )

pub invariant_of-one-2 : goal.invariant_of-one-2
invariant_of-one-2 g c =
    let k : IsKeyOf c.self.inside.lock c.put_back.new.key = c.put_back.ensures.kept in
    let took = c.in-Ok.ensures.entered.0 in
    let x = c.in-Ok.taken in (
      seat_released _ _ c.one.inside.reader x c.one.invariant.0 took _ c.put_back.ensures.gave,
      k.2,
      received_released (view c.one.inside.key) (view c.put_back.new.key) c.one.inside.reader _ _ c.one.inside.polled c.one.inside.notes c.one.inside.ties.entries c.one.inside.mine c.one.inside.given (engine_released _ _ c.one.inside.reader x c.one.invariant.0 took _ c.put_back.ensures.gave) c.one.invariant.2,
      list_released _ _ c.one.inside.reader x c.one.invariant.0 took _ _ c.put_back.ensures.gave c.one.invariant.3,
    )

pub returns-then-both_find : goal.returns-then-both_find
returns-then-both_find g c =
    let k : IsKeyOf c.self.inside.lock c.leave.new.key = c.leave.ensures.kept in
    let took = c.in-Ok.ensures.entered.0 in
    let x = c.in-Ok.taken in
    let y = c.see_both.new.taken in
    let same : y ≡ x = c.see_both.ensures.same in
    let left : IsLeft x y = left_same x y same (legal_as _ _ c.engine-found.ensures c.len-cut.ensures.legal) in
    let found : c.leave.new.reader.seen ≡ x.core.journal = ap (λ (t : ReaderState). t.seen) c.leave.ensures.reader ∙ ap (λ (z : EngineState g.row.Q.Denot g.row.O.Denot). z.core.journal) same in
    record {
      meets = (
        record {
          sees = sees_from _ _ _ c.one.view_is
              (lock_sees _ _ c.one.inside.reader x c.one.invariant.0 took _ c.leave.new.reader y c.leave.ensures.gave c.leave.ensures.reader _ _ c.one.inside.polled c.one.inside.notes c.one.inside.ties.entries c.leave.new.ties.entries c.one.inside.mine c.one.inside.given c.one.inside.given c.leave.ensures.told.1 (same_of _ _ _ c.args.self.now c.args.one.now c.requires.own.0 c.self.view_is (ap (λ (s : SeatView g.row.Q.Denot g.row.O.Denot). s.of) c.one.view_is) k.0 k.1 (engine_kept _ _ c.one.inside.reader x c.one.invariant.0 took _ y c.leave.ensures.gave) refl refl) c.in-Ok.ensures.entered.1 left);
          seen = refl;
          claims = claims_after _ _ c.one.inside.reader x c.one.invariant.0 took _ _ y c.leave.ensures.gave c.leave.ensures.reader (no_other x y same) ∙ ap (λ (s : SeatView g.row.Q.Denot g.row.O.Denot). s.claims) c.one.view_is;
          given = ap (λ (s : SeatView g.row.Q.Denot g.row.O.Denot). s.given) c.one.view_is;
        },
        subst (λ j. AllSee j c.args.seats.now c.see_both.new.seats) (sym found) c.see_both.ensures.see.0,
        subst (λ j. AllSee j c.args.workers.now c.see_both.new.workers) (sym found) c.see_both.ensures.see.1,
        length_as _ _ _ c.engine-found.ensures c.len-cut.ensures.length ∙ sym (ap length found),
      );
      right = tt;
    }

pub returns-in-Err-clause-right : goal.returns-in-Err-clause-right
returns-in-Err-clause-right g c =
    let h : FindsOther g.O.Ending.code_of g.O.Ending.size_of c.args.one.now = other_from g.O.Ending.code_of g.O.Ending.size_of _ _ c.one.view_is
    (finds_other g.O.Ending.code_of g.O.Ending.size_of (view c.one.inside.key) c.one.inside.reader c.in-Err._found.value _ c.one.inside.polled c.one.inside.notes c.one.inside.ties.entries c.one.inside.mine c.one.inside.given refl c.one.invariant.0 c.in-Err.ensures.right.0 c.in-Err.ensures.newer c.in-Err.ensures.right.1) in (
      h.found,
      record { engine = h.engine ∙ ap (λ (m : MultiView g.row.Q.Denot g.row.O.Denot). m.engine) c.requires.own.0; locked = h.locked },
      inl (h.newer, h.other),
    )
