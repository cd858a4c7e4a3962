use Rattle.std.proofs.Common.{◌≡◌, ◌∙◌, ◌++◌, ap, inl, subst}
use Rattle.std.specs.Prelude.{codes}
use Rattle.mx_save.specs.Bodies.{left_of}
use Rattle.mx_save_rules.specs.Decisions.{IsDecision}
use Rattle.mx_save_rules.specs.declared.code.SaveCode.TheVariants as save
use Rattle.mx_save_end.specs.Said.{IsFailedWith}
use Rattle.mx_save_end.specs.Heard.{HeardValue}
use Rattle.mx_save_rules.specs.Ends.{done_end}
use Rattle.mx_save_book.proofs.Calls.{removal_refused}
use Rattle.mx_save_book.proofs.Holds.{done, left}
use Rattle.mx_save_book.proofs.finish.done.Goals as goal

pub returns-in-None-clause-ending : goal.returns-in-None-clause-ending
returns-in-None-clause-ending g c =
    let h = c.know-2.ensures in
    let o = c.args.heard.outcome in
    done c.args.asking.now c.args.job c.args.ledger.now c.discard-discarded.new.self o c.args.heard.told c.done.result h.end c.discard-discarded.ensures.entries c.requires.heard.asked
    (subst (IsDecision o.code o.last.request.method o.status c.args.asking.now.content_on_error) c.requires.done c.requires.heard.decided) h.told c.requires.heard.once
    (c.discard-discarded.ensures.left ∙ ap (λ x. left_of c.args.part.part.name x ++ c.args.ledger.now.left) c.in-None.is)
    (subst (λ (x : HeardValue). c.done.result ≡ done_end c.args.job.url.items x.told) c.heard.view_is c.done.ensures)

pub returns-clause-ending : goal.returns-clause-ending
returns-clause-ending g c =
    let h = c.know-2.ensures in
    let d = c.discard-discarded in
    let o = c.args.heard.outcome in
    left c.args.asking.now c.args.job c.args.ledger.now d.new.self c.args.heard.outcome c.args.heard.told c.args.heard.report.code c.args.heard.report.reason c.args.part.part.name
    d.result.left c.in-Some.field-0 c.in_ok-left_end-in-Some.field-0 h.end
    (inl (subst (IsDecision o.code o.last.request.method o.status c.args.asking.now.content_on_error) c.requires.done c.requires.heard.decided)) d.ensures.entries c.requires.heard.asked h.told c.requires.heard.once h.code h.reason c.in-Some.is (removal_refused c.args.ledger.now d.new.self c.args.part.part.name d.result.left _ c.know.ensures.since.later d.ensures.start d.ensures.removed) d.ensures.left
    (subst (λ p. IsFailedWith (codes "its body isn't saved") c.args.job.url.items save.WriteError c.args.heard.told c.args.heard.report.code c.args.heard.report.reason p d.result.left
    c.in_ok-left_end-in-Some.field-0) d.ensures.part
    (subst (λ (x : HeardValue). IsFailedWith (codes "its body isn't saved") c.args.job.url.items save.WriteError x.told x.report.code x.report.reason d.result.part d.result.left
    c.in_ok-left_end-in-Some.field-0) c.heard.view_is c.in_ok-left_end-in-Some.ensures))
