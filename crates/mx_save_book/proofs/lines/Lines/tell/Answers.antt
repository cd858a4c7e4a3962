use Rattle.std.proofs.Common.{◌∙◌, ap, sym, ◌++◌, ◌∷◌, []}
use Rattle.mx_run_io.specs.Ends.{has_failed_write}
use Rattle.mx_save_rules.specs.Codes.{save_number}
use Rattle.mx_save_rules.specs.Status.{after_note, first_of}
use Rattle.mx_save_book.proofs.Telling.{told_on}
use Rattle.mx_save_book.proofs.lines.Lines.tell.Goals as goal

pub invariant_of-self-2 : goal.invariant_of-self-2
invariant_of-self-2 g c =
    told_on g.W.Write.contents _ c.print_flushed.new.output (record { place = c.args.place; end = c.args.end }) c.note.new.self c.note-2.new.self c.with-self-inside.result
    (record { written = c.self.invariant.written; flushed = c.self.invariant.flushed; status = c.self.invariant.status; tally = c.self.invariant.tally; last = c.self.invariant.last })
    (λ e. c.in_ok-ready.ensures.well (ap (λ l. has_failed_write l.output) (sym c.self.view_is) ∙ e))
    c.in_ok-print_flushed.ensures.bytes c.in_ok-print_flushed.ensures.flushed
    (c.note.ensures ∙ ap (λ x. after_note (first_of c.self.inside.status) (record { place = c.args.place; number = save_number x })) c.code.ensures)
    (c.note-2.ensures ∙ ap (λ e. c.self.inside.told ++ record { place = c.args.place; end = e } ∷ []) c.of.ensures)
    c.with-self-inside.ensures
