use Rattle.std.proofs.Common.{inr, subst}
use Rattle.std.specs.Prelude.{codes}
use Rattle.mx_save_rules.specs.declared.code.SaveCode.TheVariants as save
use Rattle.mx_save_end.specs.Said.{IsFailedWith}
use Rattle.mx_save_end.specs.Heard.{HeardValue}
use Rattle.mx_save_book.proofs.Calls.{removal_refused}
use Rattle.mx_save_book.proofs.Holds.{left}
use Rattle.mx_save_book.proofs.finish.again.Goals as goal

pub returns-in_ok-left_end-in-Some-clause-ending : goal.returns-in_ok-left_end-in-Some-clause-ending
returns-in_ok-left_end-in-Some-clause-ending g c =
    let h = c.know-2.ensures in
    let d = c.discard-discarded in
    left c.args.asking.now c.args.job c.args.ledger.now d.new.self c.args.heard.outcome c.args.heard.told c.args.heard.report.code c.args.heard.report.reason c.args.part.part.name
    d.result.left c.in-Some.field-0 c.in_ok-left_end-in-Some.field-0 h.end (inr c.requires.retried) d.ensures.entries c.requires.heard.asked h.told c.requires.heard.once h.code h.reason c.in-Some.is (removal_refused c.args.ledger.now d.new.self c.args.part.part.name d.result.left _ c.know.ensures.since.later d.ensures.start d.ensures.removed) d.ensures.left
    (subst (λ p. IsFailedWith (codes "its body isn't saved") c.args.job.url.items save.WriteError c.args.heard.told c.args.heard.report.code c.args.heard.report.reason p d.result.left
    c.in_ok-left_end-in-Some.field-0) d.ensures.part
    (subst (λ (x : HeardValue). IsFailedWith (codes "its body isn't saved") c.args.job.url.items save.WriteError x.told x.report.code x.report.reason d.result.part d.result.left
    c.in_ok-left_end-in-Some.field-0) c.heard.view_is c.in_ok-left_end-in-Some.ensures))
