use Rattle.std.proofs.Common.{◌≡◌, ◌++◌, take, map}
use Rattle.mx_types.specs.Settings.{field_of}
use Rattle.mx_request.specs.RequestBytes as spec
use Rattle.mx_request.proofs.wire.put_fields.Given as goal

abbrev pub invariant-loop-field : goal.invariant-loop-field
invariant-loop-field l =
    l.out.items ≡ l.initial.out.items ++ spec.field_lines (spec.told_fields l.is_first (map field_of (take l.field-index l.fields)))
