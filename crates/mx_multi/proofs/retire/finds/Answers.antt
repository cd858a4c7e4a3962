use Rattle.std.proofs.Common.{ap, sym}
use Rattle.mx_multi.specs.Seats.{SeatView}
use Rattle.mx_multi.proofs.Kept.{finds_as}
use Rattle.mx_multi.proofs.Standing.{no_older}
use Rattle.mx_multi.proofs.retire.finds.Goals as goal

pub returns-clause-finds : goal.returns-clause-finds
returns-clause-finds g c =
    finds_as c.fits.result c.seat.inside.reader c.args.seat.now c.args.found.now.core.journal (sym (ap (λ (s : SeatView g.row.Q.Denot g.row.O.Denot). s.who) c.seat.view_is)) (sym (ap (λ (s : SeatView g.row.Q.Denot g.row.O.Denot). s.seen) c.seat.view_is)) c.fits.ensures.ahead

pub returns-clause-newer : goal.returns-clause-newer
returns-clause-newer g c =
    no_older c.seat.inside.reader c.args.seat.now c.args.found.now.core.journal (sym (ap (λ (s : SeatView g.row.Q.Denot g.row.O.Denot). s.seen) c.seat.view_is)) (sym (ap (λ (s : SeatView g.row.Q.Denot g.row.O.Denot). s.confirmed) c.seat.view_is))
    c.seat.invariant.0.but_last.0 c.fits.ensures.newer
