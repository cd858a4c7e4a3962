use Rattle.std.proofs.Common.{◌≡◌, take, map}
use Rattle.mx_types.specs.Settings.{field_of}
use Rattle.mx_save_rules.proofs.asking.copy_fields.Given as goal

abbrev pub invariant-loop-field : goal.invariant-loop-field
invariant-loop-field l = map field_of l.copy.items ≡ map field_of (take l.field-index l.fields)
