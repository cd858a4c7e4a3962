use Rattle.std.proofs.Common.{◌≡◌, sym, ◌∙◌}
use Rattle.mx_types.specs.declared.code.Code.TheVariants as code
use Rattle.mx_text.proofs.Steps.{body_printed}
use Rattle.mx_text.proofs.text.print_outcome.Goals as goal

pub returns-in_ok-print_line-in-Ok-clause-bytes : goal.returns-in_ok-print_line-in-Ok-clause-bytes
returns-in_ok-print_line-in-Ok-clause-bytes g c =
    let is : c.args.outcome.now.code ≡ code.Ok = sym c.code-code.ensures.code ∙ c.in-Ok.is in
    let status = c.status.ensures.status in
    let len = c.body_len.ensures in
    rw (is, ← status, ← len) (body_printed c.print_parts.result _ _ _ _ _ (c.in_ok-print_line-in-Ok.ensures.bytes) c.print_parts.ensures.bytes)
