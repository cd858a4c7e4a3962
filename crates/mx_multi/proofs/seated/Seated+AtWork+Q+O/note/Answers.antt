use Rattle.std.proofs.Common.{◌≡◌, ◌∙◌, ap}
use Rattle.crossbeam_channel.specs.Claims.{view}
use Rattle.mx_board.specs.Progress.{NoteState}
use Rattle.mx_lock.specs.Lock.{engine_of}
use Rattle.mx_multi.specs.Seats.{SeatView}
use Rattle.mx_multi.specs.Progress.{noted_by}
use Rattle.mx_multi.proofs.Standing.{seat_of}
use Rattle.mx_multi.proofs.seated.Seated+AtWork+Q+O.note.Goals as goal

pub returns : goal.returns
returns g c =
    let key = c.self-inside.inside.0.1.0.key in
    let noted : noted_by c.args.self.now c.slot.result c.ticket.result c.args.count ≡ noted_by c.args.self.now c.args.claim.now.slot c.args.claim.now.ticket c.args.count = λ i. noted_by c.args.self.now (c.slot.ensures i) (c.ticket.ensures i) c.args.count in
    ap (λ (n : NoteState). seat_of {Q = g.row.Q.Denot} {O = g.row.O.Denot} (record { table = key.table_id; keys = key.me.0.of; engine = engine_of (view key); words = n.of; limits = c.self-inside.inside.0.1.0.limits }) (view key) c.self-inside.inside.0.1.0.reader c.self-inside.inside.0.1.0.polled n c.self-inside.inside.0.1.0.ties.entries c.self-inside.inside.0.1.0.mine c.self-inside.inside.0.1.0.given) c.note.ensures
    ∙ ap (λ (s : SeatView g.row.Q.Denot g.row.O.Denot). noted_by s c.slot.result c.ticket.result c.args.count) ((λ i. (c.self-inside.view_is i).seat) ∙ c.self.view_is)
    ∙ noted
