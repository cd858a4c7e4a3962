-- Bodies that are saved.
use Rattle.std.proofs.Common.{◌≡◌, ◌∙◌, ap, subst, sym, ℕ, [], ◌++◌, if◌then◌else◌}
use Rattle.std.specs.Prelude.{Some}
use Rattle.mx_types.specs.declared.code.Code.TheVariants as code
use Rattle.mx_body.specs.Parts.{joined}
use Rattle.mx_exchange.specs.Exchanges.{HopValue}
use Rattle.mx_exchange.specs.Hops.{HasBody, IsWhole}
use Rattle.mx_reader.specs.Judgements.{Judges}
use Rattle.mx_chain.specs.Hops.{is_ok}
use Rattle.mx_chain.specs.Outcomes.{OutcomeValue, IsEnd}
use Rattle.mx_chain.proofs.HopLemmas.{settled_ok}
use Rattle.mx_save_end.specs.Bodies.{IsWholeBody, body_of}

-- with code 0 the parts are the last hop's
parts_of_last : (o : OutcomeValue) → IsEnd o → o.code ≡ code.Ok → joined o.wire o.parts ≡ joined o.last.wire o.last.parts
parts_of_last o is ok =
    let e = is.end in
    let end_ok = (settled_ok is.ends.failure e.code is.ends.sinks (sym (ap (λ x. x.code) is.ends.is) ∙ ok)).0 in
    let last : o.last ≡ e.last = ap (λ x. x.last) is.ends.is in
    let parts : o.parts ≡ e.last.parts = ap (λ x. x.parts) is.ends.is ∙ ap (λ x. x.parts) is.chain.value ∙ ap (λ c. if is_ok c then e.last.parts else []) end_ok in
    let wire : o.wire ≡ e.last.wire = ap (λ x. x.wire) is.ends.is ∙ ap (λ x. x.wire) is.chain.value in
    ap (λ w. joined w o.parts) wire ∙ ap (joined e.last.wire) parts ∙ ap (λ h. joined h.wire h.parts) (sym last)

pub whole : (o : OutcomeValue) → IsEnd o → o.code ≡ code.Ok → HasBody o.last → o.content ≡ o.last.content → IsWholeBody o
whole o is ok body content = record {
  end = is;
  code = ok;
  body = body;
  same = ap (λ x. x ++ o.content) (parts_of_last o is ok) ∙ ap (λ x. joined o.last.wire o.last.parts ++ x) content;
}

-- a whole response that is handed on has no parts
partless : (o : HopValue) (limit : ℕ) → IsWhole o → o.limit ≡ Some limit → o.parts ≡ []
partless o limit w is = w.parts ∙ (subst (λ l. Judges l o.request.method o.wire w.ended w.judgement) is w.decided).0

pub handed : (o : OutcomeValue) (limit : ℕ) → IsEnd o → o.code ≡ code.Ok → IsWhole o.last → o.last.limit ≡ Some limit → body_of o ≡ o.content
handed o limit is ok w flows = ap (λ x. x ++ o.content) (parts_of_last o is ok ∙ ap (joined o.last.wire) (partless o.last limit w flows))
