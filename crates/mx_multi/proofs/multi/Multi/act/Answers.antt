use Rattle.std.proofs.Common.{◌∙◌, ap, subst, sym, refl}
use Rattle.crossbeam_channel.specs.Claims.{view}
use Rattle.std.proofs.lemmas.Bool.{false≢true}
use Rattle.mx_lock.specs.Lock.{IsKeyOf}
use Rattle.mx_multi.specs.Seats.{MultiView, SeatView}
use Rattle.mx_board.specs.Board.{ReaderState}
use Rattle.mx_multi.proofs.Standing.{found_left, finds, left_from, list_kept, list_of, grows_by, begins_by, seat_after, receipt_is, received_more, lock_stands, same_of, engine_kept, stands_from, quiet_mark, tells_on, list_found, locked_as, finds_other, other_from}
use Rattle.mx_multi.proofs.multi.Multi.act.Goals as goal

pub leave-requires-clause-grows : goal.leave-requires-clause-grows
leave-requires-clause-grows g c =
    grows_by _ _ c.seat.inside.reader c.in-Ok.taken c.seat.invariant.0 c.in-Ok.ensures.entered.0 c.run-taken.result.0 _ _ _ c.who-who.ensures.is c.run-taken.ensures.leaves

pub leave-requires-clause-begins : goal.leave-requires-clause-begins
leave-requires-clause-begins g c =
    begins_by _ _ c.seat.inside.reader c.in-Ok.taken c.seat.invariant.0 c.in-Ok.ensures.entered.0 c.run-taken.result.0 _ _ _ c.run-taken.ensures.leaves c.in-Ok.ensures.entered.1

pub invariant_of-seat-2 : goal.invariant_of-seat-2
invariant_of-seat-2 g c =
    let k : IsKeyOf c.self.inside.lock c.leave.new.key = c.leave.ensures.kept in
    let took = c.in-Ok.ensures.entered.0 in
    let x = c.in-Ok.taken in
    let y = c.run-taken.result.0 in
    let leaves = c.run-taken.ensures.leaves in
    let quiet = c.run-taken.ensures.quiet in (
      seat_after _ _ c.seat.inside.reader x c.seat.invariant.0 took _ _ y c.leave.ensures.gave c.leave.ensures.reader leaves.book,
      k.2,
      received_more _ _ _ _
          (lock_stands _ _ c.seat.inside.reader x c.seat.invariant.0 took _ c.leave.new.reader y c.leave.ensures.gave c.leave.ensures.reader _ _ c.seat.inside.polled c.seat.inside.polled c.seat.inside.notes c.seat.inside.ties.entries c.leave.new.ties.entries c.seat.inside.mine c.seat.inside.given c.note_receipt.new.mine _ _ _ c.leave.ensures.told.1 refl (same_of _ _ _ c.args.self.now c.args.seat.now c.requires.own c.self.view_is (ap (λ (s : SeatView g.row.Q.Denot g.row.O.Denot). s.of) c.seat.view_is) k.0 k.1 (engine_kept _ _ c.seat.inside.reader x c.seat.invariant.0 took _ y c.leave.ensures.gave) refl refl)
          c.who-who.ensures.is c.in-Ok.ensures.entered.1 leaves (quiet_mark _ _ _ quiet) (λ is. absurd (false≢true (sym quiet ∙ is)))
          (receipt_is _ _ _ _ _ _ _ _ c.note_receipt.ensures c.cut-cut.ensures c.as_call-call.ensures c.as_reply-answer.ensures))
          c.seat.invariant.2,
      list_kept _ _ c.seat.inside.reader x c.seat.invariant.0 took _ y _ _ c.leave.ensures.gave c.leave.ensures.told.0 c.seat.invariant.3,
    )

pub returns-clause-stands : goal.returns-clause-stands
returns-clause-stands g c =
    let k : IsKeyOf c.self.inside.lock c.leave.new.key = c.leave.ensures.kept in
    let took = c.in-Ok.ensures.entered.0 in
    let x = c.in-Ok.taken in
    let y = c.run-taken.result.0 in
    let leaves = c.run-taken.ensures.leaves in
    let quiet = c.run-taken.ensures.quiet in
    stands_from _ _ _ _ _ c.seat.view_is
    (lock_stands _ _ c.seat.inside.reader x c.seat.invariant.0 took _ c.leave.new.reader y c.leave.ensures.gave c.leave.ensures.reader _ _ c.seat.inside.polled c.seat.inside.polled c.seat.inside.notes c.seat.inside.ties.entries c.leave.new.ties.entries c.seat.inside.mine c.seat.inside.given c.note_receipt.new.mine _ _ _ c.leave.ensures.told.1 refl (same_of _ _ _ c.args.self.now c.args.seat.now c.requires.own c.self.view_is (ap (λ (s : SeatView g.row.Q.Denot g.row.O.Denot). s.of) c.seat.view_is) k.0 k.1 (engine_kept _ _ c.seat.inside.reader x c.seat.invariant.0 took _ y c.leave.ensures.gave) refl refl)
    c.who-who.ensures.is c.in-Ok.ensures.entered.1 leaves (quiet_mark _ _ _ quiet) (λ is. absurd (false≢true (sym quiet ∙ is)))
    (receipt_is _ _ _ _ _ _ _ _ c.note_receipt.ensures c.cut-cut.ensures c.as_call-call.ensures c.as_reply-answer.ensures))

pub leave-requires-clause-ties : goal.leave-requires-clause-ties
leave-requires-clause-ties g c =
    list_found _ _ c.seat.inside.reader c.in-Ok.taken c.seat.invariant.0 c.in-Ok.ensures.entered.0 c.run-taken.result.0 _ c.seat.invariant.3 c.run-taken.ensures.leaves.ties

pub returns-clause-tells : goal.returns-clause-tells
returns-clause-tells g c = tells_on _ _ _ c.leave.ensures.told.2 c.run-taken.ensures.tells

pub run-taken-requires-clause-own : goal.run-taken-requires-clause-own
run-taken-requires-clause-own g c =
    subst (g.D.Deed.own c.args.deed)
    (sym (list_of _ _ c.seat.inside.reader c.in-Ok.taken c.seat.invariant.0 c.in-Ok.ensures.entered.0 c.args.self.now (ap (λ (s : SeatView g.row.Q.Denot g.row.O.Denot). s.of.engine) c.seat.view_is ∙ ap (λ (m : MultiView g.row.Q.Denot g.row.O.Denot). m.engine) c.requires.own)))
    c.requires.claim

pub returns-clause-left : goal.returns-clause-left
returns-clause-left g c =
    let took = c.in-Ok.ensures.entered.0 in
    let x = c.in-Ok.taken in
    let y = c.run-taken.result.0 in
    let leaves = c.run-taken.ensures.leaves in
    left_from g.O.Ending.code_of g.O.Ending.size_of _ _ _ _ _ c.seat.view_is
    (record {
      found = x;
      engine = sym took.engine;
      begins = finds _ _ c.seat.inside.reader x c.seat.invariant.0 took _ c.seat.inside.polled c.seat.inside.notes c.seat.inside.ties.entries c.seat.inside.mine c.seat.inside.given c.in-Ok.ensures.entered.1;
      locked = (locked_as _ _ _ _ c.engine-found.ensures c.know-known.ensures.locked);
      after = y;
      left = found_left _ _ c.seat.inside.reader x c.seat.invariant.0 took g.O.Ending.code_of g.O.Ending.size_of _ y leaves.book leaves.opening leaves.ties (sym (ap (λ (t : ReaderState). t.seen) c.leave.ensures.reader))
          (engine_kept _ _ c.seat.inside.reader x c.seat.invariant.0 took _ y c.leave.ensures.gave) (locked_as _ _ _ _ c.engine-left.ensures c.know-left.ensures.locked);
      out = leaves.out;
      work = c.run-taken.ensures.work;
      unchanged = leaves.unchanged;
    })

pub returns-in-Err-clause-right : goal.returns-in-Err-clause-right
returns-in-Err-clause-right g c =
    other_from g.O.Ending.code_of g.O.Ending.size_of _ _ c.seat.view_is
    (finds_other g.O.Ending.code_of g.O.Ending.size_of (view c.seat.inside.key) c.seat.inside.reader c.in-Err._found.value _ c.seat.inside.polled c.seat.inside.notes c.seat.inside.ties.entries c.seat.inside.mine c.seat.inside.given refl c.seat.invariant.0 c.in-Err.ensures.right.0 c.in-Err.ensures.newer c.in-Err.ensures.right.1)
