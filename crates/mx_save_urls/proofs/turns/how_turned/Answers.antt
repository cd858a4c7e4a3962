use Rattle.mx_save_urls.proofs.Asked.{none_asked}
use Rattle.mx_save_urls.proofs.turns.how_turned.Goals as goal

pub returns-then-is_done : goal.returns-then-is_done
returns-then-is_done g c =
    let book = c.args.work.now.book in
    let done = c.is_done.ensures c.if-is_done.true in
    (none_asked book.asking book.slots (g.K.Requests.asked c.args.desk.now) (c.standing-standing.ensures.empty c.if-standing.true) c.requires.all, done.0, done.1)

pub returns-then-standing-2 : goal.returns-then-standing-2
returns-then-standing-2 g c =
    let book = c.args.work.now.book in
    none_asked book.asking book.slots (g.K.Requests.asked c.args.desk.now) (c.standing-standing.ensures.empty c.if-standing.true) c.requires.all
