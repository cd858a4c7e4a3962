use Rattle.std.proofs.Common.{◌≡◌, arith}
use Rattle.std.specs.Prelude.{Some}
use Rattle.std.proofs.lemmas.List.Elements.{All-pop}
use Rattle.mx_multi.specs.Seats.{SeatView}
use Rattle.mx_crew.proofs.slot.fill.Goals as goal

pub loop-gate-preserved : goal.loop-gate-preserved
loop-gate-preserved g c =
    let was = c.loop-gate.invariant in
    let rest = All-pop (λ (s : SeatView _ _). s.of ≡ c.args.multi.now) _ _ (Some c.in-Some-pop.seat) c.in-Some-pop.ensures.items was.seats in
    record {
      seats = rest.0;
      seats_left = omega (arith, c.in-Some-pop.ensures.len, c.push_reserved.ensures.len, was.seats_left);
      gates_left = omega (arith, c.in-Some.ensures.len, c.push_reserved.ensures.len, was.gates_left);
      room = omega (arith, was.room, c.push_reserved.ensures.capacity);
    }
