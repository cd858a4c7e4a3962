use Rattle.std.proofs.Common.{◌≡◌, ◌∙◌, subst, sym}
use Rattle.std.specs.Prelude.{Some}
use Rattle.mx_save.specs.Words.{unsaved_text}
use Rattle.mx_save.specs.declared.error.SaveError.TheVariants as unsaved
use Rattle.mx_save_rules.specs.Ends.{failed_end}
use Rattle.mx_save_end.specs.Heard.{HeardValue}
use Rattle.mx_save_end.specs.Said.{unsaved_code}
use Rattle.mx_save_book.proofs.Books.{refusals_later}
use Rattle.mx_save_book.proofs.Calls.{calls_refused}
use Rattle.mx_save_book.proofs.Holds.{unsaved_by, unsaved_for}
use Rattle.mx_save_book.proofs.finish.give_up.Goals as goal

pub returns-clause-ending : goal.returns-clause-ending
returns-clause-ending g c =
    let h = c.know-2.ensures in
    let u = c.give_up-unsaved in
    let old = c.args.ledger.now in
    unsaved_by c.args.asking.now c.args.job old u.new.self c.args.heard.outcome c.args.heard.told u.result.error u.result.part c.args.part.part.name u.result.left c.in_ok-unsaved_end.field-0
    h.end (λ e. let bad : unsaved.Write c.args.error ≡ unsaved.OutOfMemory = sym u.ensures.error ∙ e in cc) u.ensures.part (unsaved_for c.args.asking.now c.args.heard u.result.error c.args.error h c.know_body.ensures c.requires.heard.decided c.requires.needed c.requires.sound u.ensures.error) u.ensures.entries c.requires.heard.asked h.told c.requires.heard.once
    (refusals_later old.start old.steps c.know.ensures.since.later) u.ensures.start u.ensures.cause
    (calls_refused old u.new.self u.result.error c.args.part.part.name u.result.left c.know.ensures.since.later u.ensures.start u.ensures.later u.ensures.refused) u.ensures.left
    (subst (λ (x : HeardValue). c.in_ok-unsaved_end.field-0 ≡ failed_end c.args.job.url.items (unsaved_code u.result.error) x.told
    (Some (unsaved_text u.result.error u.result.part u.result.left))) c.heard.view_is c.in_ok-unsaved_end.ensures)
