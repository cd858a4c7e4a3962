use Rattle.std.proofs.Common.{◌≡◌, true, false, inl, inr, ◌+◌, sym, ap, subst, refl, ◌∙◌}
use Rattle.mx_head.specs.Reading.{IsStepOn}
use Rattle.mx_head.proofs.SummaryLemmas.{framing_agrees}
use Rattle.mx_body.specs.Response.{IsInterimStatus}
use Rattle.mx_body.proofs.MeetsLemmas.{tail_from, fault_next, more_next, refused_next, final_next, passed_next}
use Rattle.mx_save_end.specs.Framings.{word_of}
use Rattle.mx_save_end.proofs.framing.step_by.Goals.{then-status-eq-SWITCHING_PROTOCOLS-via-then-status-eq-SWITCHING_PROTOCOLS, then-status-eq-SWITCHING_PROTOCOLS-via-else-status-eq-SWITCHING_PROTOCOLS+then-passed-eq-MOST_INTERIM}
use Rattle.mx_save_end.proofs.framing.step_by.Goals as goal

pub returns-then-status-eq-SWITCHING_PROTOCOLS : goal.returns-then-status-eq-SWITCHING_PROTOCOLS
returns-then-status-eq-SWITCHING_PROTOCOLS c =
    let s = subst (IsStepOn (tail_from c.args.start c.args.wire.now)) c.in-Head.is c.requires.read in
    let status = c.status-status.ensures ∙ s.3.status in
    let interim = subst IsInterimStatus status (c.is_interim.ensures.0 c.if-not-is_interim.false) in
    inr (
      (refused_next c.args.wire.now c.args.start c.args.passed s.0 s.1 c.requires.behind s.2.0 s.2.1 interim
          (elim c.then-status-eq-SWITCHING_PROTOCOLS.branch [
            | then-status-eq-SWITCHING_PROTOCOLS-via-then-status-eq-SWITCHING_PROTOCOLS w ↦ inl (sym status ∙ w.if-status-eq-SWITCHING_PROTOCOLS.true)
            | then-status-eq-SWITCHING_PROTOCOLS-via-else-status-eq-SWITCHING_PROTOCOLS+then-passed-eq-MOST_INTERIM w ↦ inr w.if-passed-eq-MOST_INTERIM.true
          ])).0,
      refl,
    )

pub returns-in-Fault : goal.returns-in-Fault
returns-in-Fault c = inr (
  (fault_next c.args.wire.now c.args.start c.args.passed c.in-Fault.field-0 c.requires.behind
      (subst (IsStepOn (tail_from c.args.start c.args.wire.now)) c.in-Fault.is c.requires.read)).0,
  refl,
)

pub returns-in-More : goal.returns-in-More
returns-in-More c = inr (
  (more_next c.args.wire.now c.args.start c.args.passed c.requires.behind
      (subst (IsStepOn (tail_from c.args.start c.args.wire.now)) c.in-More.is c.requires.read)).0,
  refl,
)

pub returns-else-passed-eq-MOST_INTERIM : goal.returns-else-passed-eq-MOST_INTERIM
returns-else-passed-eq-MOST_INTERIM c =
    let s = subst (IsStepOn (tail_from c.args.start c.args.wire.now)) c.in-Head.is c.requires.read in
    let status = c.status-status.ensures ∙ s.3.status in
    let interim = subst IsInterimStatus status (c.is_interim.ensures.0 c.if-not-is_interim.false) in
    passed_next c.args.wire.now c.args.start c.args.passed (c.args.start + c.len.result) s.0 s.1 c.requires.behind s.2.0 s.2.1 interim
    (λ leaves. c.if-status-eq-SWITCHING_PROTOCOLS.false (status ∙ leaves)) c.if-passed-eq-MOST_INTERIM.false (ap (λ n. c.args.start + n) (c.len.ensures.bytes ∙ s.3.len))

pub returns-then-not-is_interim : goal.returns-then-not-is_interim
returns-then-not-is_interim c =
    let s = subst (IsStepOn (tail_from c.args.start c.args.wire.now)) c.in-Head.is c.requires.read in
    let at = final_next c.args.wire.now c.args.start c.args.passed c.in-Head.head _ s.0 s.1 c.requires.behind s.2.0 s.2.1
    (λ interim. let yes : c.is_interim.result ≡ true = c.is_interim.ensures.1 (subst IsInterimStatus (sym (c.status-status.ensures ∙ s.3.status)) interim) in
    let both : false ≡ true = sym c.if-not-is_interim.true ∙ yes in cc)
    s.3 refl in
    inl (at.interim, at.head, at.rest, at.stands, c.word.ensures ∙ ap word_of (c.framing.ensures ∙ framing_agrees c.args.method c.in-Head.head at.head at.describes))
