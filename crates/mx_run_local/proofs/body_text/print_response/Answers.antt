use Rattle.std.proofs.Common.{◌≡◌, List, ℕ, subst, ◌++◌, ◌-◌, ◌^◌, length, replicate, [], false, ap, arith, sym, append-nil}
use Rattle.std.specs.Fmt.{padded_integral, char_count, format_spec, styled_decimal, decimal}
use Rattle.mx_run_local.specs.BodyTexts.{response_line, three_digits}
use Rattle.mx_run_local.proofs.body_text.print_response.Goals as goal

-- `{:03}` fills with zeros in front
padded_three : (n : List ℕ)
    → padded_integral (format_spec 32 0 4 3 (2 ^ 64 - 1)) false [] n ≡ replicate (3 - length n) 48 ++ n
unfolding padded_integral char_count
padded_three n =
    let whole : 3 - length n - 0 - 0 ≡ 3 - length n = omega arith in
    rw whole (ap (λ x. replicate (3 - length n) 48 ++ x) (append-nil n))

pub returns-clause-bytes : goal.returns-clause-bytes
unfolding response_line
returns-clause-bytes g c =
    let status = c.args.status in
    let styled : styled_decimal c.laid_out.result status ≡ three_digits status =
    subst (λ spec. styled_decimal spec status ≡ three_digits status) (sym c.laid_out.ensures)
    (padded_three (decimal status)) in
    rw (← c.yes_or_no-keep.ensures, ← styled) c.print.ensures.bytes
