use Rattle.std.proofs.Common.{◌∙◌, ◌∷◌, ◌++◌, [], ap, refl, rules}
use Rattle.std.specs.Prelude.{◌==◌, if◌then◌else◌}
use Rattle.mx_types.specs.Code.{code_number}
use Rattle.mx_run_get.proofs.Prints.{printed_more}
use Rattle.mx_run_get.proofs.printer.Printer.print.Goals as goal

pub invariant_of-self-2 : goal.invariant_of-self-2
invariant_of-self-2 g c =
    let s = c.self.inside in
    printed_more g.W.Write.contents _ _ c.args.fetched.now c.len-handle.result c.print_transfer.ensures.stays (search rules)
    c.in-Ok.ensures.bytes refl
    (c.push_reserved.ensures.items ∙ ap (λ l. l ++ c.of.result ∷ []) c.reserve.ensures.items ∙ ap (λ e. s.printed.items ++ e ∷ []) c.of.ensures)
    (c.status_with-self-inside.ensures.value ∙ ap (λ k. if s.status == 0 then code_number k else s.status) c.code.ensures)
    c.status_with-self-inside.ensures.small c.self.invariant
