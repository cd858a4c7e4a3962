use Rattle.std.proofs.Common.{◌∙◌, sym, arith}
use Rattle.std.proofs.lemmas.Bool.{ltb-false}
use Rattle.mx_journal.proofs.control.Control.retire.Goals as goal

pub returns-clause-retired : goal.returns-clause-retired
returns-clause-retired g c =
    let none = ltb-false 0 c.args.self.now.out (sym c.claim_out.ensures ∙ c.if-claim_out.false) in
    (omega (arith, none), c.retire_beside_claims.ensures.retired, c.retire_beside_claims.ensures.kept)
