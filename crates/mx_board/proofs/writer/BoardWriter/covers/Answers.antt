use Rattle.mx_board.proofs.Reading.{confirmed_begins}
use Rattle.mx_board.proofs.writer.BoardWriter.covers.Goals as goal

pub returns : goal.returns
returns g c = rw (← c.reader.view_is) (confirmed_begins c.reader.inside.mark.entries c.args.self.now.events c.reader.inside.unconfirmed c.covers_mark.ensures)
