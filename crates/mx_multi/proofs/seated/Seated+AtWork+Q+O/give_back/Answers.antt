use Rattle.std.proofs.Common.{◌≡◌, ◌∙◌, sym, ap, refl}
use Rattle.crossbeam_channel.specs.Claims.{view}
use Rattle.mx_journal.specs.History.{is_legal, has_ticket, running}
use Rattle.mx_board.specs.Board.{ReaderState}
use Rattle.mx_lock.specs.Lock.{IsKeyOf}
use Rattle.mx_lock.specs.Engine.{IsLeft}
use Rattle.mx_lock.specs.Ties.{TieState}
use Rattle.mx_multi.specs.Seats.{SeatView, given_with}
use Rattle.mx_multi.proofs.Standing.{list_kept, list_of, seat_after, received_same, lock_sees, same_of, engine_kept, sees_from, claims_after, found_state, found_left, legal_as, locked_as, finds_other, other_from}
use Rattle.mx_multi.proofs.seated.Seated+AtWork+Q+O.give_back.Goals as goal

pub invariant_of-self-inside-2 : goal.invariant_of-self-inside-2
invariant_of-self-inside-2 g c =
    let k : IsKeyOf c.multi.inside.lock c.leave.new.key = c.leave.ensures.kept in
    let took = c.in-Ok.ensures.entered.0 in
    let x = c.in-Ok.taken in
    let y = c.give_back-reply.new.self in
    let j = c.give_back-reply.ensures.journal in
    let left : IsLeft x y = record { journal = j.0; opening = j.1; book = j.2; ties = ap (λ (z : TieState). z.book) c.give_back-reply.ensures.ties; legal = ap is_legal j.0 ∙ (legal_as _ _ c.engine-found.ensures c.len-cut.ensures.legal) } in (
      seat_after _ _ c.self-inside.inside.0.1.0.reader x c.self-inside.invariant.0 took _ _ y c.leave.ensures.gave c.leave.ensures.reader left.book,
      k.2,
      received_same _ _
          (lock_sees _ _ c.self-inside.inside.0.1.0.reader x c.self-inside.invariant.0 took _ c.leave.new.reader y c.leave.ensures.gave c.leave.ensures.reader _ _ c.self-inside.inside.0.1.0.polled c.self-inside.inside.0.1.0.notes c.self-inside.inside.0.1.0.ties.entries c.leave.new.ties.entries c.self-inside.inside.0.1.0.mine c.self-inside.inside.0.1.0.given c.note_given.new.given c.leave.ensures.told.1 (same_of _ _ _ _ c.self.inside.seat c.self.invariant (c.multi.view_is ∙ (λ i. (c.self-inside.view_is i).multi.now)) (λ i. (c.self-inside.view_is i).seat.of) k.0 k.1 (engine_kept _ _ c.self-inside.inside.0.1.0.reader x c.self-inside.invariant.0 took _ y c.leave.ensures.gave) refl refl) c.in-Ok.ensures.entered.1 left)
          c.self-inside.invariant.2,
      list_kept _ _ c.self-inside.inside.0.1.0.reader x c.self-inside.invariant.0 took _ y _ _ c.leave.ensures.gave c.leave.ensures.told.0 c.self-inside.invariant.3,
    )

pub returns-clause-sees : goal.returns-clause-sees
returns-clause-sees g c =
    let k : IsKeyOf c.multi.inside.lock c.leave.new.key = c.leave.ensures.kept in
    let took = c.in-Ok.ensures.entered.0 in
    let x = c.in-Ok.taken in
    let y = c.give_back-reply.new.self in
    let j = c.give_back-reply.ensures.journal in
    let left : IsLeft x y = record { journal = j.0; opening = j.1; book = j.2; ties = ap (λ (z : TieState). z.book) c.give_back-reply.ensures.ties; legal = ap is_legal j.0 ∙ (legal_as _ _ c.engine-found.ensures c.len-cut.ensures.legal) } in
    sees_from _ _ _ ((λ i. (c.self-inside.view_is i).seat) ∙ c.self.view_is)
    (lock_sees _ _ c.self-inside.inside.0.1.0.reader x c.self-inside.invariant.0 took _ c.leave.new.reader y c.leave.ensures.gave c.leave.ensures.reader _ _ c.self-inside.inside.0.1.0.polled c.self-inside.inside.0.1.0.notes c.self-inside.inside.0.1.0.ties.entries c.leave.new.ties.entries c.self-inside.inside.0.1.0.mine c.self-inside.inside.0.1.0.given c.note_given.new.given c.leave.ensures.told.1 (same_of _ _ _ _ c.self.inside.seat c.self.invariant (c.multi.view_is ∙ (λ i. (c.self-inside.view_is i).multi.now)) (λ i. (c.self-inside.view_is i).seat.of) k.0 k.1 (engine_kept _ _ c.self-inside.inside.0.1.0.reader x c.self-inside.invariant.0 took _ y c.leave.ensures.gave) refl refl) c.in-Ok.ensures.entered.1 left)

pub returns-clause-runs : goal.returns-clause-runs
returns-clause-runs g c = λ back. ap (λ (t : ReaderState). has_ticket c.args.claim.ticket (running t.seen)) c.leave.ensures.reader ∙ ap (λ l. has_ticket c.args.claim.ticket (running l)) c.give_back-reply.ensures.journal.0 ∙ c.give_back-reply.ensures.runs back

pub returns-clause-queue : goal.returns-clause-queue
returns-clause-queue g c =
    let took = c.in-Ok.ensures.entered.0 in
    let x = c.in-Ok.taken in
    let y = c.give_back-reply.new.self in
    let seen = ap (λ (t : ReaderState). t.seen) c.leave.ensures.reader in
    let same = c.give_back-reply.ensures.journal in
    let engine = engine_kept _ _ c.self-inside.inside.0.1.0.reader x c.self-inside.invariant.0 took _ y c.leave.ensures.gave in
    record {
      found = x;
      is = found_state _ _ c.self-inside.inside.0.1.0.reader x c.self-inside.invariant.0 took g.O.Ending.code_of g.O.Ending.size_of _ x refl (seen ∙ same.0) engine (locked_as _ _ _ _ c.engine-found.ensures c.know-known.ensures.locked);
      back = c.give_back-reply.ensures.back;
      after = y;
      left = found_left _ _ c.self-inside.inside.0.1.0.reader x c.self-inside.invariant.0 took g.O.Ending.code_of g.O.Ending.size_of _ y same.2 same.1 (ap (λ (z : TieState). z.book) c.give_back-reply.ensures.ties) (sym seen) engine (locked_as _ _ _ _ c.engine-left.ensures c.know-left.ensures.locked);
      queue = c.give_back-reply.ensures.queue;
      endings = c.give_back-reply.ensures.endings;
      out = c.give_back-reply.ensures.out;
    }

pub returns-clause-claims : goal.returns-clause-claims
returns-clause-claims g c =
    let took = c.in-Ok.ensures.entered.0 in
    let x = c.in-Ok.taken in
    let y = c.give_back-reply.new.self in
    claims_after _ _ c.self-inside.inside.0.1.0.reader x c.self-inside.invariant.0 took _ _ y c.leave.ensures.gave c.leave.ensures.reader c.give_back-reply.ensures.claims ∙ ap (λ (s : SeatView g.row.Q.Denot g.row.O.Denot). s.claims) ((λ i. (c.self-inside.view_is i).seat) ∙ c.self.view_is)

pub give_back-reply-requires-clause-own : goal.give_back-reply-requires-clause-own
give_back-reply-requires-clause-own g c =
    c.requires.claim
    ∙ sym (list_of _ _ c.self-inside.inside.0.1.0.reader c.in-Ok.taken c.self-inside.invariant.0 c.in-Ok.ensures.entered.0 c.args.self.now.of (λ i. (((λ i. (c.self-inside.view_is i).seat) ∙ c.self.view_is) i).of.engine))

pub returns-clause-given : goal.returns-clause-given
returns-clause-given g c =
    let reply = c.give_back-reply.result in
    let same : given_with reply c.ticket-ticket.result c.self-inside.inside.0.1.0.given ≡ given_with reply c.args.claim.ticket c.args.self.now.given = λ i. given_with reply (c.ticket-ticket.ensures i) ((((λ i. (c.self-inside.view_is i).seat) ∙ c.self.view_is) i).given) in
    c.note_given.ensures ∙ same

pub returns-in-Err-clause-right : goal.returns-in-Err-clause-right
returns-in-Err-clause-right g c =
    other_from g.O.Ending.code_of g.O.Ending.size_of _ _ ((λ i. (c.self-inside.view_is i).seat) ∙ c.self.view_is)
    (finds_other g.O.Ending.code_of g.O.Ending.size_of (view c.self-inside.inside.0.1.0.key) c.self-inside.inside.0.1.0.reader c.in-Err._found.value _ c.self-inside.inside.0.1.0.polled c.self-inside.inside.0.1.0.notes c.self-inside.inside.0.1.0.ties.entries c.self-inside.inside.0.1.0.mine c.self-inside.inside.0.1.0.given refl c.self-inside.invariant.0 c.in-Err.ensures.right.0 c.in-Err.ensures.newer c.in-Err.ensures.right.1)

pub invariant_of-self-2 : goal.invariant_of-self-2
invariant_of-self-2 g c =
    let k : IsKeyOf c.multi.inside.lock c.leave.new.key = c.leave.ensures.kept in
    let took = c.in-Ok.ensures.entered.0 in
    let x = c.in-Ok.taken in
    let y = c.give_back-reply.new.self in
    same_of _ _ _ _ c.self.inside.seat c.self.invariant (c.multi.view_is ∙ (λ i. (c.self-inside.view_is i).multi.now)) (λ i. (c.self-inside.view_is i).seat.of) k.0 k.1 (engine_kept _ _ c.self-inside.inside.0.1.0.reader x c.self-inside.invariant.0 took _ y c.leave.ensures.gave) refl refl
    ∙ (λ i. (c.self-inside.view_is i).seat.of) ∙ c.self.invariant ∙ sym (λ i. (c.self-inside.view_is i).multi.now)
