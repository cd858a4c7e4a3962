use Rattle.std.proofs.Common.{◌≡◌}
use Rattle.std.specs.Fmt.{digits}
use Rattle.mx_save_rules.specs.Texts.{object_front, object_back}
use Rattle.mx_run_save.specs.Unbegun.{unbegun_line}
use Rattle.mx_run_save.proofs.unbegun.print_unbegun.Goals as goal

pub returns-clause-bytes : goal.returns-clause-bytes
unfolding object_front object_back digits
returns-clause-bytes g c =
    let same : c.as_bytes.result.now ≡ unbegun_line = c.as_bytes.ensures.value in
    rw same at c.write_all.ensures.bytes
