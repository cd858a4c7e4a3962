use Rattle.std.proofs.Common.{◌∙◌, ap, sym, subst, arith}
use Rattle.mx_folder.specs.Safe.{IsSafeName}
use Rattle.mx_folder.specs.Names.{numbered}
use Rattle.mx_folder.proofs.Bytes.{safe}
use Rattle.mx_folder.proofs.names.named.Goals as goal

pub invariant_of-result : goal.invariant_of-result
invariant_of-result c =
    let given = c.requires in
    subst IsSafeName (sym (c.in_ok-numbered.ensures ∙ ap (λ base. numbered base c.args.number) given.1)) (safe given.0 c.args.number (omega arith))
