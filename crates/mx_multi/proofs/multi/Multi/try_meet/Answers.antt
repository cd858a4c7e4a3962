use Rattle.std.proofs.Common.{◌≡◌, ◌∙◌, ap, refl, subst, sym, inr, inl}
use Rattle.crossbeam_channel.specs.Claims.{view}
use Rattle.mx_lock.specs.Lock.{IsKeyOf}
use Rattle.mx_board.specs.Board.{ReaderState}
use Rattle.mx_lock.specs.Engine.{EngineState, IsLeft, content}
use Rattle.mx_multi.specs.Seats.{Finds, IsNoOlder, MultiView, SeatView}
use Rattle.mx_multi.proofs.Standing.{list_kept, list_released, seat_after, seat_released, received_same, received_released, lock_sees, same_of, engine_kept, engine_released, sees_from, claims_after, left_same, no_other, legal_as, locked_as, other_from, finds_other}
use Rattle.mx_multi.proofs.multi.Multi.try_meet.Goals as goal

pub finds-requires : goal.finds-requires
finds-requires g c =
    ap (λ (m : MultiView g.row.Q.Denot g.row.O.Denot). m.engine) (c.requires.own.1 ∙ sym c.requires.own.0) ∙ sym (ap (λ (s : SeatView g.row.Q.Denot g.row.O.Denot). s.of.engine) c.one.view_is) ∙ c.in-Ok.ensures.entered.0.engine
    ∙ sym (ap (λ (z : EngineState g.row.Q.Denot g.row.O.Denot). (content z).engine) c.engine-found.ensures)

pub see-requires-clause-engine : goal.see-requires-clause-engine
see-requires-clause-engine g c =
    ap (λ (m : MultiView g.row.Q.Denot g.row.O.Denot). m.engine) (c.requires.own.1 ∙ sym c.requires.own.0) ∙ sym (ap (λ (s : SeatView g.row.Q.Denot g.row.O.Denot). s.of.engine) c.one.view_is) ∙ c.in-Ok.ensures.entered.0.engine

pub see-requires-clause-finds : goal.see-requires-clause-finds
see-requires-clause-finds g c = subst (λ (z : EngineState g.row.Q.Denot g.row.O.Denot). Finds c.args.two.now z.core.journal) c.engine-found.ensures c.if-finds.ensures.finds

pub see-requires-clause-legal : goal.see-requires-clause-legal
see-requires-clause-legal g c = legal_as _ _ c.engine-found.ensures c.len-cut.ensures.legal

pub invariant_of-one-then-finds : goal.invariant_of-one-then-finds
invariant_of-one-then-finds g c =
    let k : IsKeyOf c.self.inside.lock c.leave.new.key = c.leave.ensures.kept in
    let took = c.in-Ok.ensures.entered.0 in
    let x = c.in-Ok.taken in
    let y = c.see.new.taken in
    let same : y ≡ x = c.see.ensures.same in
    let left : IsLeft x y = left_same x y same (legal_as _ _ c.engine-found.ensures c.len-cut.ensures.legal) in (
      seat_after _ _ c.one.inside.reader x c.one.invariant.0 took _ _ y c.leave.ensures.gave c.leave.ensures.reader left.book,
      k.2,
      received_same _ _
          (lock_sees _ _ c.one.inside.reader x c.one.invariant.0 took _ c.leave.new.reader y c.leave.ensures.gave c.leave.ensures.reader _ _ c.one.inside.polled c.one.inside.notes c.one.inside.ties.entries c.leave.new.ties.entries c.one.inside.mine c.one.inside.given c.one.inside.given c.leave.ensures.told.1 (same_of _ _ _ c.args.self.now c.args.one.now c.requires.own.0 c.self.view_is (ap (λ (s : SeatView g.row.Q.Denot g.row.O.Denot). s.of) c.one.view_is) k.0 k.1 (engine_kept _ _ c.one.inside.reader x c.one.invariant.0 took _ y c.leave.ensures.gave) refl refl) c.in-Ok.ensures.entered.1 left)
          c.one.invariant.2,
      list_kept _ _ c.one.inside.reader x c.one.invariant.0 took _ y _ _ c.leave.ensures.gave c.leave.ensures.told.0 c.one.invariant.3,
    )

pub invariant_of-one-2 : goal.invariant_of-one-2
invariant_of-one-2 g c =
    let k : IsKeyOf c.self.inside.lock c.put_back.new.key = c.put_back.ensures.kept in
    let took = c.in-Ok.ensures.entered.0 in
    let x = c.in-Ok.taken in (
      seat_released _ _ c.one.inside.reader x c.one.invariant.0 took _ c.put_back.ensures.gave,
      k.2,
      received_released (view c.one.inside.key) (view c.put_back.new.key) c.one.inside.reader _ _ c.one.inside.polled c.one.inside.notes c.one.inside.ties.entries c.one.inside.mine c.one.inside.given (engine_released _ _ c.one.inside.reader x c.one.invariant.0 took _ c.put_back.ensures.gave) c.one.invariant.2,
      list_released _ _ c.one.inside.reader x c.one.invariant.0 took _ _ c.put_back.ensures.gave c.one.invariant.3,
    )

pub returns-then-finds-clause-meets : goal.returns-then-finds-clause-meets
returns-then-finds-clause-meets g c =
    let k : IsKeyOf c.self.inside.lock c.leave.new.key = c.leave.ensures.kept in
    let took = c.in-Ok.ensures.entered.0 in
    let x = c.in-Ok.taken in
    let y = c.see.new.taken in
    let same : y ≡ x = c.see.ensures.same in
    let left : IsLeft x y = left_same x y same (legal_as _ _ c.engine-found.ensures c.len-cut.ensures.legal) in
    let found = ap (λ (t : ReaderState). t.seen) c.leave.ensures.reader ∙ ap (λ (z : EngineState g.row.Q.Denot g.row.O.Denot). z.core.journal) same in (
      sees_from _ _ _ c.one.view_is
          (lock_sees _ _ c.one.inside.reader x c.one.invariant.0 took _ c.leave.new.reader y c.leave.ensures.gave c.leave.ensures.reader _ _ c.one.inside.polled c.one.inside.notes c.one.inside.ties.entries c.leave.new.ties.entries c.one.inside.mine c.one.inside.given c.one.inside.given c.leave.ensures.told.1 (same_of _ _ _ c.args.self.now c.args.one.now c.requires.own.0 c.self.view_is (ap (λ (s : SeatView g.row.Q.Denot g.row.O.Denot). s.of) c.one.view_is) k.0 k.1 (engine_kept _ _ c.one.inside.reader x c.one.invariant.0 took _ y c.leave.ensures.gave) refl refl) c.in-Ok.ensures.entered.1 left),
      c.see.ensures.sees.sees,
      found ∙ sym c.see.ensures.sees.seen,
    )

pub returns-then-finds-clause-claims : goal.returns-then-finds-clause-claims
returns-then-finds-clause-claims g c =
    let took = c.in-Ok.ensures.entered.0 in
    let x = c.in-Ok.taken in
    let y = c.see.new.taken in
    let same : y ≡ x = c.see.ensures.same in (
      claims_after _ _ c.one.inside.reader x c.one.invariant.0 took _ _ y c.leave.ensures.gave c.leave.ensures.reader (no_other x y same) ∙ ap (λ (s : SeatView g.row.Q.Denot g.row.O.Denot). s.claims) c.one.view_is,
      c.see.ensures.sees.claims,
    )

pub returns-then-finds-clause-given : goal.returns-then-finds-clause-given
returns-then-finds-clause-given g c =
    (ap (λ (s : SeatView g.row.Q.Denot g.row.O.Denot). s.given) c.one.view_is, c.see.ensures.sees.given)

pub returns-clause-right : goal.returns-clause-right
returns-clause-right g c =
    let x = c.in-Ok.taken in
    let engine = ap (λ (m : MultiView g.row.Q.Denot g.row.O.Denot). m.engine) (c.requires.own.1 ∙ sym c.requires.own.0) ∙ sym (ap (λ (s : SeatView g.row.Q.Denot g.row.O.Denot). s.of.engine) c.one.view_is) ∙ c.in-Ok.ensures.entered.0.engine in
    inr (record {
      found = x;
      engine = sym engine;
      locked = locked_as _ _ _ _ c.engine-found.ensures c.know-known.ensures.locked;
      newer = subst (λ (z : EngineState g.row.Q.Denot g.row.O.Denot). IsNoOlder c.args.two.now z.core.journal) c.engine-found.ensures c.if-finds.ensures.newer;
      other = subst (λ (z : EngineState g.row.Q.Denot g.row.O.Denot). Finds c.args.two.now z.core.journal → ⊥) c.engine-found.ensures c.if-finds.ensures.finds;
    })

pub returns-in-Err-clause-right : goal.returns-in-Err-clause-right
returns-in-Err-clause-right g c =
    inl (other_from g.O.Ending.code_of g.O.Ending.size_of _ _ c.one.view_is
    (finds_other g.O.Ending.code_of g.O.Ending.size_of (view c.one.inside.key) c.one.inside.reader c.in-Err._found.value _ c.one.inside.polled c.one.inside.notes c.one.inside.ties.entries c.one.inside.mine c.one.inside.given refl c.one.invariant.0 c.in-Err.ensures.right.0 c.in-Err.ensures.newer c.in-Err.ensures.right.1))
