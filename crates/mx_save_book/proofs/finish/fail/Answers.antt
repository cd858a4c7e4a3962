use Rattle.std.proofs.Common.{subst}
use Rattle.std.specs.Prelude.{codes}
use Rattle.mx_save_rules.specs.Decisions.{IsDecision}
use Rattle.mx_save_end.specs.Said.{IsFailedWith}
use Rattle.mx_save_end.specs.Heard.{HeardValue}
use Rattle.mx_save_book.proofs.Fails.{fail_code}
use Rattle.mx_save_book.proofs.Calls.{removal_refused}
use Rattle.mx_save_book.proofs.Holds.{failed}
use Rattle.mx_save_book.proofs.finish.fail.Goals as goal

pub failed_end-requires : goal.failed_end-requires
failed_end-requires g c =
    let o = c.args.heard.outcome in
    fail_code o.code o.last.request.method o.status c.args.asking.now.content_on_error c.args.code
    (subst (IsDecision o.code o.last.request.method o.status c.args.asking.now.content_on_error) c.requires.failed c.requires.heard.decided)

pub returns-clause-ending : goal.returns-clause-ending
returns-clause-ending g c =
    let h = c.know-2.ensures in
    let d = c.discard-discarded in
    let o = c.args.heard.outcome in
    failed c.args.asking.now c.args.job c.args.ledger.now d.new.self o c.args.heard.told c.args.code c.args.heard.report.code c.args.heard.report.reason c.args.part.part.name
    d.result.left c.in_ok-failed_end.field-0 h.end d.ensures.entries c.requires.heard.asked
    (subst (IsDecision o.code o.last.request.method o.status c.args.asking.now.content_on_error) c.requires.failed c.requires.heard.decided) h.told c.requires.heard.once h.code h.reason (removal_refused c.args.ledger.now d.new.self c.args.part.part.name d.result.left _ c.know.ensures.since.later d.ensures.start d.ensures.removed) d.ensures.left
    (subst (λ p. IsFailedWith (codes "the status of the response isn't 2xx") c.args.job.url.items c.args.code c.args.heard.told c.args.heard.report.code c.args.heard.report.reason p d.result.left
    c.in_ok-failed_end.field-0) d.ensures.part
    (subst (λ (x : HeardValue). IsFailedWith (codes "the status of the response isn't 2xx") c.args.job.url.items c.args.code x.told x.report.code x.report.reason d.result.part d.result.left
    c.in_ok-failed_end.field-0) c.heard.view_is c.in_ok-failed_end.ensures))
