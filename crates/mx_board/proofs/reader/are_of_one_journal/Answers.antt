use Rattle.mx_board.proofs.Reading.{one_journal, one_begins_other}
use Rattle.mx_board.proofs.reader.are_of_one_journal.Goals as goal

pub returns-clause-seen : goal.returns-clause-seen
returns-clause-seen c =
    rw (← c.one.view_is, ← c.two.view_is) (one_journal c.one.inside.mark.entries c.two.inside.mark.entries c.one.inside.unconfirmed c.two.inside.unconfirmed c.reaches.result c.reaches.ensures.begins)

pub returns-clause-confirmed : goal.returns-clause-confirmed
returns-clause-confirmed c =
    rw (← c.one.view_is, ← c.two.view_is) (one_begins_other c.one.inside.mark.entries c.two.inside.mark.entries c.one.inside.unconfirmed c.two.inside.unconfirmed c.reaches.result c.reaches.ensures.begins)
