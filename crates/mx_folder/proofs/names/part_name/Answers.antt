use Rattle.std.proofs.Common.{subst, sym, arith}
use Rattle.mx_folder.specs.Names.{part_of}
use Rattle.mx_folder.specs.Safe.{IsPartName}
use Rattle.mx_folder.proofs.Bytes.{part_safe}
use Rattle.mx_folder.proofs.names.part_name.Goals as goal

pub returns : goal.returns
unfolding part_of
returns c = c.in_ok-format.ensures.ok

pub invariant_of-result : goal.invariant_of-result
unfolding part_of
invariant_of-result c = subst IsPartName (sym c.in_ok-format.ensures.ok) (part_safe c.args.process c.args.number (omega arith) (omega arith))
