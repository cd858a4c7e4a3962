use Rattle.mx_save_rules.proofs.Printed.{then_printed, object_parts}
use Rattle.mx_save_rules.proofs.object.print_object.Goals as goal

pub returns-clause-bytes : goal.returns-clause-bytes
returns-clause-bytes g c =
    then_printed c.print_back.result _ _ _ _ _ _ (object_parts _ _ _ _ _ _ _ _ _ _ _ _ _ c.requires.url c.requires.file c.requires.error)
    c.in_ok-print_front.ensures.bytes c.print_back.ensures.bytes
