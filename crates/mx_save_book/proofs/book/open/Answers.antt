use Rattle.std.specs.Prelude.{None}
use Rattle.mx_save_book.proofs.Calls.{calls_told}
use Rattle.mx_save_book.proofs.book.open.Goals as goal

pub returns-in-Err-clause-calls : goal.returns-in-Err-clause-calls
returns-in-Err-clause-calls g c =
    calls_told c.args.ledger.now c.make_part.new.self c.in-Err.unsaved.error c.in-Err.unsaved.part None c.know.ensures.since.later c.make_part.ensures.start c.make_part.ensures.later
    c.in-Err.ensures.refused_by
