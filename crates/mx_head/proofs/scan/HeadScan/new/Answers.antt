use Rattle.std.proofs.Common.{refl, arith}
use Rattle.mx_head.proofs.scan.HeadScan.new.Goals as goal

pub returns : goal.returns
returns c text = record { within = omega arith; there = refl }
