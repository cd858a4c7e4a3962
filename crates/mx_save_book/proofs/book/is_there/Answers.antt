use Rattle.std.proofs.Common.{◌≡◌, ◌∙◌, ap, sym, true, false}
use Rattle.std.specs.Prelude.{Ok}
use Rattle.mx_save_book.proofs.BookSteps.{found_by_look, kind_same, look_later, looks_in_vain, no_kind}
use Rattle.mx_save_book.proofs.book.is_there.Goals as goal

pub returns-in-Ok-clause-found : goal.returns-in-Ok-clause-found
returns-in-Ok-clause-found g c = λ e.
    found_by_look c.args.slots.now c.args.at c.in-Some.job.now c.args.ledger.now c.look.new.self c.look.result c.in-Some.ensures.job c.in-Some.ensures.waits c.know.ensures.since.later c.look.ensures
    (c.in-Ok.is ∙ ap Ok (c.is_file.ensures.0 e))

pub returns-in-Ok-clause-vain : goal.returns-in-Ok-clause-vain
returns-in-Ok-clause-vain g c = λ e.
    looks_in_vain c.args.slots.now c.args.at c.in-Some.job.now c.look.result c.args.ledger.now c.look.new.self c.in-Some.ensures.waits c.look.ensures
    (λ file. let bad : false ≡ true = sym e ∙ c.is_file.ensures.1 (kind_same c.in-Ok.kind (sym c.in-Ok.is ∙ file)) in cc)

pub returns-in-Ok-clause-run : goal.returns-in-Ok-clause-run
returns-in-Ok-clause-run g c = look_later c.args.ledger.now c.look.new.self _ c.look.ensures

pub returns-in-Err-clause-vain : goal.returns-in-Err-clause-vain
returns-in-Err-clause-vain g c = λ e.
    looks_in_vain c.args.slots.now c.args.at c.in-Some.job.now c.look.result c.args.ledger.now c.look.new.self c.in-Some.ensures.waits c.look.ensures
    (λ file. no_kind _ (sym c.in-Err.is ∙ file))

pub returns-in-Err-clause-run : goal.returns-in-Err-clause-run
returns-in-Err-clause-run g c = look_later c.args.ledger.now c.look.new.self _ c.look.ensures
