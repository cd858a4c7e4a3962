use Rattle.std.proofs.Common.{subst, arith}
use Rattle.std.specs.List.{All}
use Rattle.std.proofs.lemmas.List.Elements.{All-more}
use Rattle.std.proofs.lemmas.List.{take_all}
use Rattle.mx_append_log.specs.Log.{AreOfOneList}
use Rattle.mx_multi.specs.Seats.{Finds, IsNoOlder, SeatView}
use Rattle.mx_multi.proofs.retire.all_find.Goals as goal

pub loop-seat-preserved : goal.loop-seat-preserved
loop-seat-preserved g c =
    let j = c.args.found.now.core.journal in
    let ties = c.args.found.now.ties.entries in
    let inv = c.loop-seat.invariant in (
      All-more (λ (s : SeatView g.row.Q.Denot g.row.O.Denot). Finds s j) c.args.seats.now c.loop-seat.seat-index c.seat-item.result c.loop-seat-test.true inv.0 (subst (λ (s : SeatView g.row.Q.Denot g.row.O.Denot). Finds s j) c.seat-item.is c.if-not-finds.ensures.finds),
      All-more (λ (s : SeatView g.row.Q.Denot g.row.O.Denot). AreOfOneList s.ties ties) c.args.seats.now c.loop-seat.seat-index c.seat-item.result c.loop-seat-test.true inv.1
          (subst (λ (s : SeatView g.row.Q.Denot g.row.O.Denot). AreOfOneList s.ties ties) c.seat-item.is c.if-not-finds.ensures.told),
    )

pub returns : goal.returns
returns g c =
    let j = c.args.found.now.core.journal in
    let ties = c.args.found.now.ties.entries in
    let inv = c.loop-seat.invariant in
    let whole = take_all c.loop-seat.seat-index c.args.seats.now (omega (arith, c.loop-seat-test.false)) in (
      subst (All (λ (s : SeatView g.row.Q.Denot g.row.O.Denot). Finds s j)) whole inv.0,
      subst (All (λ (s : SeatView g.row.Q.Denot g.row.O.Denot). AreOfOneList s.ties ties)) whole inv.1,
    )

pub returns-then-not-finds : goal.returns-then-not-finds
returns-then-not-finds g c =
    let j = c.args.found.now.core.journal in (
      c.loop-seat.seat-index,
      c.seat-item.result,
      c.loop-seat-test.true,
      subst (λ (s : SeatView g.row.Q.Denot g.row.O.Denot). IsNoOlder s j) c.seat-item.is c.if-not-finds.ensures.newer,
      subst (λ (s : SeatView g.row.Q.Denot g.row.O.Denot). Finds s j → ⊥) c.seat-item.is c.if-not-finds.ensures.finds,
    )
