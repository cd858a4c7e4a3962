use Rattle.std.proofs.KnownBytes.{Appends-kept}
use Rattle.mx_run_io.specs.Ends.{writer_of}
use Rattle.mx_save_book.specs.Lines.{line_of}
use Rattle.mx_save_book.proofs.lines.print_flushed.Goals as goal

pub returns-in-Ok-clause-bytes : goal.returns-in-Ok-clause-bytes
returns-in-Ok-clause-bytes g c =
    let contents = g.W.Write.contents in
    Appends-kept (contents (writer_of c.args.output.now)) (contents (writer_of c.print_end.new.output)) (contents (writer_of c.flush.new.self)) (line_of c.args.json c.args.end.now)
    c.in_ok-print_end.ensures.bytes c.in-Ok.ensures.bytes
