use Rattle.std.proofs.Common.{rules, ◌≡◌, ap, List}
use Rattle.std.specs.Mem.{manually_drop_value}
use Rattle.mx_types.specs.declared.event.Event.{Event}
use Rattle.mx_board.specs.Board.{BoardState}
use Rattle.mx_board.proofs.Keeping.{follows}
use Rattle.mx_board.proofs.writer.BoardWriter.published.Goals as goal

pub returns : goal.returns
returns g c =
    let i = c.self.invariant in
    let journal = c.self.inside.journal.entries in
    let legal = rw (← c.self.view_is) at c.requires in
    let all = follows _ _ journal i.sound (i.waits c.if-self.false) legal i.few in
    let published : (manually_drop_value c.hold.result).desk.shown.value.1.entries ≡ journal =
    rw (c.hold.ensures, c.publish_all-writer.ensures.shown, c.into_inner.ensures) all.whole in
    let state : List Event → BoardState = λ l. record { events = journal; published = l; book = c.self.inside.journal.book } in
    rw (← c.self.view_is) (ap state published)

pub returns-then-self : goal.returns-then-self
returns-then-self g c = search rules
