use Rattle.std.proofs.Common.{subst}
use Rattle.mx_head.specs.Scan.{HasScanned}
use Rattle.mx_body.proofs.MeetsLemmas.{behind_reads}
use Rattle.mx_body.proofs.heads.next_head_on.Goals as goal

pub returns-clause-passed : goal.returns-clause-passed
returns-clause-passed c = record {
  behind = c.requires.behind;
  scanned = subst (λ t. HasScanned t c.read_head_on-step.new.scan) (behind_reads c.args.text.now _ _ c.requires.behind) c.read_head_on-step.ensures.scanned;
}
