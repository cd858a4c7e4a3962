use Rattle.std.proofs.Common.{◌≡◌, sym, subst, take, fold}
use Rattle.mx_head.specs.declared.scan.Spot.{Spot}
use Rattle.mx_head.specs.Scan.{after, reached}
use Rattle.mx_head.proofs.ScanRuns.{text_stays, name_stays}
use Rattle.mx_head.proofs.scan.Spot.run.Goals as goal

pub returns-in-Text-clause-stays : goal.returns-in-Text-clause-stays
returns-in-Text-clause-stays c n =
    subst (λ (s : Spot). fold after (reached s n) (take c.value_line.result c.args.text.now) ≡ reached s n) (sym c.in-Text.is)
    (text_stays n _ c.value_line.ensures.value)

pub returns-in-Name-clause-stays : goal.returns-in-Name-clause-stays
returns-in-Name-clause-stays c n =
    subst (λ (s : Spot). fold after (reached s n) (take c.name_run.result c.args.text.now) ≡ reached s n) (sym c.in-Name.is)
    (name_stays n _ c.name_run.ensures.name)
