use Rattle.std.proofs.Common.{◌≡◌, ◌∙◌, ap, subst, sym, inl, refl, ◌∷◌}
use Rattle.std.specs.Prelude.{Some, string_bytes}
use Rattle.mx_save_end.specs.Bodies.{IsWholeBody}
use Rattle.mx_save_rules.specs.Decisions.{IsDecision}
use Rattle.mx_save.specs.Words.{unsaved_text}
use Rattle.mx_save_rules.specs.Ends.{failed_end, saved_end}
use Rattle.mx_save_end.specs.Heard.{HeardValue}
use Rattle.mx_save_end.specs.Said.{unsaved_code}
use Rattle.mx_save_book.proofs.Calls.{calls_refused}
use Rattle.mx_save_book.proofs.Books.{refusals_later}
use Rattle.mx_save_book.proofs.Holds.{body_is, saved, unsaved_by}
use Rattle.mx_save_book.proofs.finish.save.Goals as goal

pub returns-in-Ok-keep-clause-ending : goal.returns-in-Ok-keep-clause-ending
returns-in-Ok-keep-clause-ending g c =
    let h = c.know-2.ensures in
    let o = c.args.heard.outcome in
    let same = body_is c.args.heard.body c.in-Some.body o (ap (λ (x : HeardValue). x.body) (sym c.heard.view_is) ∙ c.in-Some.is) h.body in
    saved c.args.asking.now c.args.job c.args.ledger.now c.keep.new.self o c.args.heard.told (string_bytes c.in-Ok.file) c.saved.result
    (c.in-Ok-keep.ensures.saved ∙ ap (λ x. (c.args.job.name, x) ∷ c.args.ledger.now.entries) (c.of.ensures ∙ same)) (c.in-Ok.ensures.ok ∙ c.as_str.ensures)
    (subst IsWholeBody same c.know-3.ensures) c.requires.heard.asked
    (subst (IsDecision o.code o.last.request.method o.status c.args.asking.now.content_on_error) c.requires.save c.requires.heard.decided) h.told c.requires.heard.once c.in-Ok-keep.ensures.none_left
    (subst (λ (x : HeardValue). c.saved.result ≡ saved_end c.args.job.url.items (string_bytes c.in-Ok.file) x.told) c.heard.view_is c.saved.ensures)

pub returns-clause-ending : goal.returns-clause-ending
returns-clause-ending g c =
    let h = c.know-2.ensures in
    let o = c.args.heard.outcome in
    let old = c.args.ledger.now in
    let u = c.in-Err.unsaved in
    let same = body_is c.args.heard.body c.in-Some.body o (ap (λ (x : HeardValue). x.body) (sym c.heard.view_is) ∙ c.in-Some.is) h.body in
    let decided = subst (IsDecision o.code o.last.request.method o.status c.args.asking.now.content_on_error) c.requires.save c.requires.heard.decided in
    unsaved_by c.args.asking.now c.args.job old c.keep.new.self o c.args.heard.told u.error u.part c.args.part.part.name u.left c.in_ok-unsaved_end-in-Err.field-0
    h.end c.in-Err.ensures.known c.in-Err.ensures.part (inl (subst IsWholeBody same c.know-3.ensures, decided)) c.in-Err.ensures.kept c.requires.heard.asked h.told c.requires.heard.once
    (refusals_later old.start old.steps c.know.ensures.since.later) c.keep.ensures.start (c.in-Err.ensures.cause refl)
    (calls_refused old c.keep.new.self u.error c.args.part.part.name u.left c.know.ensures.since.later c.keep.ensures.start c.keep.ensures.later c.in-Err.ensures.refused) c.in-Err.ensures.left
    (subst (λ (x : HeardValue). c.in_ok-unsaved_end-in-Err.field-0 ≡ failed_end c.args.job.url.items (unsaved_code u.error) x.told (Some (unsaved_text u.error u.part u.left))) c.heard.view_is
    c.in_ok-unsaved_end-in-Err.ensures)
