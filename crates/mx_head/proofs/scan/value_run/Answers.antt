use Rattle.std.proofs.Common.{◌≡◌, true, sym, ◌∙◌, arith}
use Rattle.std.proofs.lemmas.List.Elements.{All-more}
use Rattle.httparse.specs.Grammar.{is_value_byte}
use Rattle.mx_head.proofs.scan.value_run.Goals as goal

pub loop-n-preserved : goal.loop-n-preserved
loop-n-preserved c = (
  omega (arith, c.loop-n-test.true),
  All-more (λ x. is_value_byte x ≡ true) c.args.text.now c.loop-n.n 0 c.loop-n-test.true c.loop-n.invariant.1 (sym c.is_header_value_token.ensures ∙ c.if-is_header_value_token.true),
)
