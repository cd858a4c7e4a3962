use Rattle.std.proofs.Common.{ap, sym, ◌∙◌}
use Rattle.mx_types.specs.Code.{code_number}
use Rattle.mx_text.proofs.Steps.{first_at, none_at, place}
use Rattle.mx_text.proofs.run.exit_status.Goals as goal

pub returns-then-number-ne0-clause-value : goal.returns-then-number-ne0-clause-value
returns-then-number-ne0-clause-value c =
    let same = c.number-number.ensures ∙ ap code_number c.code.ensures in
    same ∙ first_at c.args.fetched.now c.loop-one.one-index c.one-item.result (place _ _ _ c.loop-one-test.true c.one-item.is)
    c.loop-one.invariant (λ is. c.if-number-ne0.true (same ∙ is))

pub loop-one-preserved : goal.loop-one-preserved
loop-one-preserved c =
    let same = c.number-number.ensures ∙ ap code_number c.code.ensures in
    none_at c.args.fetched.now c.loop-one.one-index c.one-item.result (place _ _ _ c.loop-one-test.true c.one-item.is)
    c.loop-one.invariant (sym same ∙ c.if-number-ne0.false)
