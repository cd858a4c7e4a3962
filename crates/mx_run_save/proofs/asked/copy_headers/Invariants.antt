use Rattle.std.proofs.Common.{◌≡◌, take, map}
use Rattle.mx_types.specs.Settings.{field_of}
use Rattle.mx_run_save.specs.Asked.{field_given}
use Rattle.mx_run_save.proofs.asked.copy_headers.Given as goal

abbrev pub invariant-loop-header : goal.invariant-loop-header
invariant-loop-header l = map field_of l.fields.items ≡ map field_given (take l.header-index l.headers)
