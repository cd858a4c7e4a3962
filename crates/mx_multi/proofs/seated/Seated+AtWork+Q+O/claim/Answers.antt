use Rattle.std.proofs.Common.{rules, ◌≡◌, ◌∙◌, ap, sym, refl, [], ◌∷◌, ◌++◌, inr, inl}
use Rattle.crossbeam_channel.specs.Claims.{view}
use Rattle.mx_lock.specs.Lock.{IsKeyOf}
use Rattle.mx_journal.specs.Answers.{handle_of}
use Rattle.mx_journal.specs.History.{is_legal}
use Rattle.mx_journal.specs.Slots.{slot_of}
use Rattle.mx_lock.specs.Engine.{IsLeft, EngineId}
use Rattle.mx_lock.specs.Ties.{TieState}
use Rattle.mx_multi.specs.Seats.{SeatView}
use Rattle.mx_board.specs.Board.{ReaderState}
use Rattle.mx_lock.proofs.Tying.{has_more}
use Rattle.mx_multi.proofs.Standing.{list_kept, seat_after, received_same, lock_sees, same_of, engine_kept, sees_from, claims_after, claims_one, none_claimed, found_state, found_left, legal_as, locked_as, finds_other, other_from}
use Rattle.mx_multi.proofs.Claiming.{claims_new}
use Rattle.mx_multi.proofs.seated.Seated+AtWork+Q+O.claim.Goals as goal

pub invariant_of-self-inside-2 : goal.invariant_of-self-inside-2
invariant_of-self-inside-2 g c =
    let k : IsKeyOf c.multi.inside.lock c.leave.new.key = c.leave.ensures.kept in
    let took = c.in-Ok.ensures.entered.0 in
    let x = c.in-Ok.taken in
    let y = c.claim-claimed.new.self in
    let j = c.claim-claimed.ensures.journal in
    let left : IsLeft x y = record { journal = j.0; opening = j.1; book = j.2; ties = ap (λ (z : TieState). z.book) c.claim-claimed.ensures.ties; legal = ap is_legal j.0 ∙ (legal_as _ _ c.engine-found.ensures c.len-cut.ensures.legal) } in (
      seat_after _ _ c.self-inside.inside.0.1.0.reader x c.self-inside.invariant.0 took _ _ y c.leave.ensures.gave c.leave.ensures.reader left.book,
      k.2,
      received_same _ _
          (lock_sees _ _ c.self-inside.inside.0.1.0.reader x c.self-inside.invariant.0 took _ c.leave.new.reader y c.leave.ensures.gave c.leave.ensures.reader _ _ c.self-inside.inside.0.1.0.polled c.self-inside.inside.0.1.0.notes c.self-inside.inside.0.1.0.ties.entries c.leave.new.ties.entries c.self-inside.inside.0.1.0.mine c.self-inside.inside.0.1.0.given c.self-inside.inside.0.1.0.given c.leave.ensures.told.1 (same_of _ _ _ _ c.self.inside.seat c.self.invariant (c.multi.view_is ∙ (λ i. (c.self-inside.view_is i).multi.now)) (λ i. (c.self-inside.view_is i).seat.of) k.0 k.1 (engine_kept _ _ c.self-inside.inside.0.1.0.reader x c.self-inside.invariant.0 took _ y c.leave.ensures.gave) refl refl) c.in-Ok.ensures.entered.1 left)
          c.self-inside.invariant.2,
      list_kept _ _ c.self-inside.inside.0.1.0.reader x c.self-inside.invariant.0 took _ y _ _ c.leave.ensures.gave c.leave.ensures.told.0 c.self-inside.invariant.3,
    )

pub returns-in_default-clause-sees : goal.returns-in_default-clause-sees
returns-in_default-clause-sees g c =
    let k : IsKeyOf c.multi.inside.lock c.leave.new.key = c.leave.ensures.kept in
    let took = c.in-Ok.ensures.entered.0 in
    let x = c.in-Ok.taken in
    let y = c.claim-claimed.new.self in
    let j = c.claim-claimed.ensures.journal in
    let left : IsLeft x y = record { journal = j.0; opening = j.1; book = j.2; ties = ap (λ (z : TieState). z.book) c.claim-claimed.ensures.ties; legal = ap is_legal j.0 ∙ (legal_as _ _ c.engine-found.ensures c.len-cut.ensures.legal) } in
    inr (sees_from _ _ _ ((λ i. (c.self-inside.view_is i).seat) ∙ c.self.view_is)
    (lock_sees _ _ c.self-inside.inside.0.1.0.reader x c.self-inside.invariant.0 took _ c.leave.new.reader y c.leave.ensures.gave c.leave.ensures.reader _ _ c.self-inside.inside.0.1.0.polled c.self-inside.inside.0.1.0.notes c.self-inside.inside.0.1.0.ties.entries c.leave.new.ties.entries c.self-inside.inside.0.1.0.mine c.self-inside.inside.0.1.0.given c.self-inside.inside.0.1.0.given c.leave.ensures.told.1 (same_of _ _ _ _ c.self.inside.seat c.self.invariant (c.multi.view_is ∙ (λ i. (c.self-inside.view_is i).multi.now)) (λ i. (c.self-inside.view_is i).seat.of) k.0 k.1 (engine_kept _ _ c.self-inside.inside.0.1.0.reader x c.self-inside.invariant.0 took _ y c.leave.ensures.gave) refl refl) c.in-Ok.ensures.entered.1 left))

pub returns-clause-sees : goal.returns-clause-sees
returns-clause-sees g c =
    let k : IsKeyOf c.multi.inside.lock c.leave.new.key = c.leave.ensures.kept in
    let took = c.in-Ok.ensures.entered.0 in
    let x = c.in-Ok.taken in
    let y = c.claim-claimed.new.self in
    let j = c.claim-claimed.ensures.journal in
    let left : IsLeft x y = record { journal = j.0; opening = j.1; book = j.2; ties = ap (λ (z : TieState). z.book) c.claim-claimed.ensures.ties; legal = ap is_legal j.0 ∙ (legal_as _ _ c.engine-found.ensures c.len-cut.ensures.legal) } in
    sees_from _ _ _ ((λ i. (c.self-inside.view_is i).seat) ∙ c.self.view_is)
    (lock_sees _ _ c.self-inside.inside.0.1.0.reader x c.self-inside.invariant.0 took _ c.leave.new.reader y c.leave.ensures.gave c.leave.ensures.reader _ _ c.self-inside.inside.0.1.0.polled c.self-inside.inside.0.1.0.notes c.self-inside.inside.0.1.0.ties.entries c.leave.new.ties.entries c.self-inside.inside.0.1.0.mine c.self-inside.inside.0.1.0.given c.self-inside.inside.0.1.0.given c.leave.ensures.told.1 (same_of _ _ _ _ c.self.inside.seat c.self.invariant (c.multi.view_is ∙ (λ i. (c.self-inside.view_is i).multi.now)) (λ i. (c.self-inside.view_is i).seat.of) k.0 k.1 (engine_kept _ _ c.self-inside.inside.0.1.0.reader x c.self-inside.invariant.0 took _ y c.leave.ensures.gave) refl refl) c.in-Ok.ensures.entered.1 left)

pub returns-in_default-clause-claims : goal.returns-in_default-clause-claims
returns-in_default-clause-claims g c =
    let took = c.in-Ok.ensures.entered.0 in
    let x = c.in-Ok.taken in
    let y = c.claim-claimed.new.self in
    let none : (x.core.queue ≡ []) × (y.core.queue ≡ []) = search rules in
    claims_after _ _ c.self-inside.inside.0.1.0.reader x c.self-inside.invariant.0 took _ _ y c.leave.ensures.gave c.leave.ensures.reader (none_claimed x.core.journal y.core.journal x.core.queue y.core.queue c.claim-claimed.ensures.journal.0 none.0 none.1)
    ∙ ap (λ (s : SeatView g.row.Q.Denot g.row.O.Denot). s.claims) ((λ i. (c.self-inside.view_is i).seat) ∙ c.self.view_is)

pub returns-clause-claims : goal.returns-clause-claims
returns-clause-claims g c =
    let took = c.in-Ok.ensures.entered.0 in
    let x = c.in-Ok.taken in
    let y = c.claim-claimed.new.self in
    let r = c.in-Some.claimed in
    claims_one _ _ c.self-inside.inside.0.1.0.reader x c.self-inside.invariant.0 took _ _ y c.leave.ensures.gave c.leave.ensures.reader r.0.ticket
    (claims_new x.core.journal y.core.journal r.0.ticket r.1 x.core.queue y.core.queue (ap is_legal c.claim-claimed.ensures.journal.0 ∙ (legal_as _ _ c.engine-found.ensures c.len-cut.ensures.legal)) c.claim-claimed.ensures.journal.0 c.in-Some.ensures.some c.in-Some.ensures.claimed)
    ∙ ap (λ (s : SeatView g.row.Q.Denot g.row.O.Denot). s.claims ++ r.0.ticket ∷ []) ((λ i. (c.self-inside.view_is i).seat) ∙ c.self.view_is)

pub returns-in_default-clause-queue : goal.returns-in_default-clause-queue
returns-in_default-clause-queue g c =
    let took = c.in-Ok.ensures.entered.0 in
    let x = c.in-Ok.taken in
    let y = c.claim-claimed.new.self in
    let none : (x.core.queue ≡ []) × (y.core.queue ≡ []) = search rules in
    inr
    (record {
      found = x;
      is = found_state _ _ c.self-inside.inside.0.1.0.reader x c.self-inside.invariant.0 took g.O.Ending.code_of g.O.Ending.size_of _ x refl (ap (λ (t : ReaderState). t.seen) c.leave.ensures.reader ∙ c.claim-claimed.ensures.journal.0) (engine_kept _ _ c.self-inside.inside.0.1.0.reader x c.self-inside.invariant.0 took _ y c.leave.ensures.gave) (locked_as _ _ _ _ c.engine-found.ensures c.know-known.ensures.locked);
      none = none.0;
    })

pub returns-clause-queue : goal.returns-clause-queue
returns-clause-queue g c =
    let took = c.in-Ok.ensures.entered.0 in
    let x = c.in-Ok.taken in
    let y = c.claim-claimed.new.self in
    let j = c.claim-claimed.ensures.journal in
    record {
      found = x;
      is = found_state _ _ c.self-inside.inside.0.1.0.reader x c.self-inside.invariant.0 took g.O.Ending.code_of g.O.Ending.size_of _ x refl (ap (λ (t : ReaderState). t.seen) c.leave.ensures.reader ∙ c.claim-claimed.ensures.journal.0) (engine_kept _ _ c.self-inside.inside.0.1.0.reader x c.self-inside.invariant.0 took _ y c.leave.ensures.gave) (locked_as _ _ _ _ c.engine-found.ensures c.know-known.ensures.locked);
      least = c.in-Some.ensures.least;
      after = y;
      left = found_left _ _ c.self-inside.inside.0.1.0.reader x c.self-inside.invariant.0 took g.O.Ending.code_of g.O.Ending.size_of _ y j.2 j.1 (ap (λ (z : TieState). z.book) c.claim-claimed.ensures.ties) (sym (ap (λ (t : ReaderState). t.seen) c.leave.ensures.reader))
          (engine_kept _ _ c.self-inside.inside.0.1.0.reader x c.self-inside.invariant.0 took _ y c.leave.ensures.gave) (locked_as _ _ _ _ c.engine-left.ensures c.know-left.ensures.locked);
      first = c.in-Some.ensures.some;
      claimed = c.in-Some.ensures.claimed;
      endings = c.claim-claimed.ensures.endings;
      out = c.in-Some.ensures.out;
    }

pub returns-clause-request : goal.returns-clause-request
returns-clause-request g c = has_more _ _ _ _ c.leave.ensures.told.2 c.in-Some.ensures.request

pub returns-clause-own : goal.returns-clause-own
returns-clause-own g c =
    let took = c.in-Ok.ensures.entered.0 in
    let y = c.claim-claimed.new.self in
    c.in-Some.ensures.own ∙ ap (λ (z : TieState). z.book) c.claim-claimed.ensures.ties
    ∙ ap (λ (e : EngineId). e.ties) (sym took.engine ∙ sym (engine_kept _ _ c.self-inside.inside.0.1.0.reader c.in-Ok.taken c.self-inside.invariant.0 took _ y c.leave.ensures.gave))

pub returns-in_default-clause-given : goal.returns-in_default-clause-given
returns-in_default-clause-given g c = ap (λ (s : SeatView g.row.Q.Denot g.row.O.Denot). s.given) ((λ i. (c.self-inside.view_is i).seat) ∙ c.self.view_is)

pub returns-clause-given : goal.returns-clause-given
returns-clause-given g c = ap (λ (s : SeatView g.row.Q.Denot g.row.O.Denot). s.given) ((λ i. (c.self-inside.view_is i).seat) ∙ c.self.view_is)

pub returns-in-Err-clause-right : goal.returns-in-Err-clause-right
returns-in-Err-clause-right g c =
    inl (
      search rules,
      other_from g.O.Ending.code_of g.O.Ending.size_of _ _ ((λ i. (c.self-inside.view_is i).seat) ∙ c.self.view_is)
          (finds_other g.O.Ending.code_of g.O.Ending.size_of (view c.self-inside.inside.0.1.0.key) c.self-inside.inside.0.1.0.reader c.in-Err._found.value _ c.self-inside.inside.0.1.0.polled c.self-inside.inside.0.1.0.notes c.self-inside.inside.0.1.0.ties.entries c.self-inside.inside.0.1.0.mine c.self-inside.inside.0.1.0.given refl c.self-inside.invariant.0 c.in-Err.ensures.right.0 c.in-Err.ensures.newer c.in-Err.ensures.right.1),
    )

pub returns-in_default-clause-right : goal.returns-in_default-clause-right
returns-in_default-clause-right g c =
    let k : IsKeyOf c.multi.inside.lock c.leave.new.key = c.leave.ensures.kept in
    let took = c.in-Ok.ensures.entered.0 in
    let x = c.in-Ok.taken in
    let y = c.claim-claimed.new.self in
    let j = c.claim-claimed.ensures.journal in
    let none : (x.core.queue ≡ []) × (y.core.queue ≡ []) = search rules in
    let left : IsLeft x y = record { journal = j.0; opening = j.1; book = j.2; ties = ap (λ (z : TieState). z.book) c.claim-claimed.ensures.ties; legal = ap is_legal j.0 ∙ (legal_as _ _ c.engine-found.ensures c.len-cut.ensures.legal) } in
    inr (
      sees_from _ _ _ ((λ i. (c.self-inside.view_is i).seat) ∙ c.self.view_is)
          (lock_sees _ _ c.self-inside.inside.0.1.0.reader x c.self-inside.invariant.0 took _ c.leave.new.reader y c.leave.ensures.gave c.leave.ensures.reader _ _ c.self-inside.inside.0.1.0.polled c.self-inside.inside.0.1.0.notes c.self-inside.inside.0.1.0.ties.entries c.leave.new.ties.entries c.self-inside.inside.0.1.0.mine c.self-inside.inside.0.1.0.given c.self-inside.inside.0.1.0.given c.leave.ensures.told.1 (same_of _ _ _ _ c.self.inside.seat c.self.invariant (c.multi.view_is ∙ (λ i. (c.self-inside.view_is i).multi.now)) (λ i. (c.self-inside.view_is i).seat.of) k.0 k.1 (engine_kept _ _ c.self-inside.inside.0.1.0.reader x c.self-inside.invariant.0 took _ y c.leave.ensures.gave) refl refl) c.in-Ok.ensures.entered.1 left),
      record {
        found = x;
        is = found_state _ _ c.self-inside.inside.0.1.0.reader x c.self-inside.invariant.0 took g.O.Ending.code_of g.O.Ending.size_of _ x refl (ap (λ (t : ReaderState). t.seen) c.leave.ensures.reader ∙ c.claim-claimed.ensures.journal.0) (engine_kept _ _ c.self-inside.inside.0.1.0.reader x c.self-inside.invariant.0 took _ y c.leave.ensures.gave) (locked_as _ _ _ _ c.engine-found.ensures c.know-known.ensures.locked);
        none = none.0;
      },
    )

pub returns-clause-handle : goal.returns-clause-handle
returns-clause-handle g c = ap (λ (t : ReaderState). handle_of c.in-Some.claimed.0.ticket t.seen) c.leave.ensures.reader ∙ ap (handle_of c.in-Some.claimed.0.ticket) c.claim-claimed.ensures.journal.0 ∙ c.in-Some.ensures.handle

pub returns-clause-slot : goal.returns-clause-slot
returns-clause-slot g c = ap (λ (t : ReaderState). slot_of c.in-Some.claimed.0.ticket t.seen) c.leave.ensures.reader ∙ ap (slot_of c.in-Some.claimed.0.ticket) c.claim-claimed.ensures.journal.0 ∙ c.in-Some.ensures.slot

pub returns-in_default-clause-of : goal.returns-in_default-clause-of
returns-in_default-clause-of g c =
    let k : IsKeyOf c.multi.inside.lock c.leave.new.key = c.leave.ensures.kept in
    let took = c.in-Ok.ensures.entered.0 in
    let x = c.in-Ok.taken in
    let y = c.claim-claimed.new.self in
    same_of _ _ _ _ c.self.inside.seat c.self.invariant (c.multi.view_is ∙ (λ i. (c.self-inside.view_is i).multi.now)) (λ i. (c.self-inside.view_is i).seat.of) k.0 k.1 (engine_kept _ _ c.self-inside.inside.0.1.0.reader x c.self-inside.invariant.0 took _ y c.leave.ensures.gave) refl refl
    ∙ (λ i. (((λ i. (c.self-inside.view_is i).seat) ∙ c.self.view_is) i).of)

pub returns-clause-of : goal.returns-clause-of
returns-clause-of g c =
    let k : IsKeyOf c.multi.inside.lock c.leave.new.key = c.leave.ensures.kept in
    let took = c.in-Ok.ensures.entered.0 in
    let x = c.in-Ok.taken in
    let y = c.claim-claimed.new.self in
    same_of _ _ _ _ c.self.inside.seat c.self.invariant (c.multi.view_is ∙ (λ i. (c.self-inside.view_is i).multi.now)) (λ i. (c.self-inside.view_is i).seat.of) k.0 k.1 (engine_kept _ _ c.self-inside.inside.0.1.0.reader x c.self-inside.invariant.0 took _ y c.leave.ensures.gave) refl refl
    ∙ (λ i. (((λ i. (c.self-inside.view_is i).seat) ∙ c.self.view_is) i).of)

pub invariant_of-self-2 : goal.invariant_of-self-2
invariant_of-self-2 g c =
    let k : IsKeyOf c.multi.inside.lock c.leave.new.key = c.leave.ensures.kept in
    let took = c.in-Ok.ensures.entered.0 in
    let x = c.in-Ok.taken in
    let y = c.claim-claimed.new.self in
    same_of _ _ _ _ c.self.inside.seat c.self.invariant (c.multi.view_is ∙ (λ i. (c.self-inside.view_is i).multi.now)) (λ i. (c.self-inside.view_is i).seat.of) k.0 k.1 (engine_kept _ _ c.self-inside.inside.0.1.0.reader x c.self-inside.invariant.0 took _ y c.leave.ensures.gave) refl refl
    ∙ (λ i. (c.self-inside.view_is i).seat.of) ∙ c.self.invariant ∙ sym (λ i. (c.self-inside.view_is i).multi.now)
