use Rattle.std.proofs.Common.{◌≡◌, true, false, ◌+◌, sym, ap, subst, ◌∙◌}
use Rattle.mx_head.specs.Reading.{IsStepOn}
use Rattle.mx_body.specs.Response.{IsInterimStatus}
use Rattle.mx_body.proofs.MeetsLemmas.{tail_from, final_next, passed_next}
use Rattle.mx_reason.proofs.walk.step_by.Goals as goal

pub returns-then-not-is_interim : goal.returns-then-not-is_interim
returns-then-not-is_interim c =
    let s = subst (IsStepOn (tail_from c.args.start c.args.text.now)) c.in-Head.is c.requires.read in
    final_next c.args.text.now c.args.start c.args.passed c.in-Head.head (c.args.start + c.len.result) s.0 s.1 c.requires.behind s.2.0 s.2.1
    (λ interim. let yes : c.is_interim.result ≡ true = c.is_interim.ensures.1 (subst IsInterimStatus (sym (c.status-status.ensures ∙ s.3.status)) interim) in
    let both : false ≡ true = sym c.if-not-is_interim.true ∙ yes in cc)
    s.3 (ap (λ n. c.args.start + n) (c.len.ensures.bytes ∙ s.3.len))

pub returns : goal.returns
returns c =
    let s = subst (IsStepOn (tail_from c.args.start c.args.text.now)) c.in-Head.is c.requires.read in
    let status = c.status-status.ensures ∙ s.3.status in
    let interim = subst IsInterimStatus status (c.is_interim.ensures.0 c.if-not-is_interim.false) in
    passed_next c.args.text.now c.args.start c.args.passed (c.args.start + c.len.result) s.0 s.1 c.requires.behind s.2.0 s.2.1 interim
    (λ leaves. c.if-status-eq-SWITCHING_PROTOCOLS.false (status ∙ leaves)) c.if-passed-eq-MOST_INTERIM.false (ap (λ n. c.args.start + n) (c.len.ensures.bytes ∙ s.3.len))
