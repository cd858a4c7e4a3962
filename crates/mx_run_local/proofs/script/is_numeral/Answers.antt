use Rattle.mx_run_local.proofs.Words.{numeral_is}
use Rattle.std.proofs.Common.{◌∙◌, sym, ap, length}
use Rattle.std.specs.Prelude.{◌&&◌, nat_lt, nat_le}
use Rattle.mx_run_local.proofs.script.is_numeral.Goals as goal

pub returns-then-word-le10 : goal.returns-then-word-le10
returns-then-word-le10 c =
    let t = c.if-word-le10.true in
    let n = length c.args.word.now in
    numeral_is n c.all_digits.result (sym c.is_empty.ensures ∙ t.0) t.1 ∙ ap (λ b. nat_lt 0 n && nat_le n 10 && b) c.all_digits.ensures
