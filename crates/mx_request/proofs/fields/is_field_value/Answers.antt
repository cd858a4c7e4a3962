use Rattle.std.proofs.Common.{rules}
use Rattle.mx_request.specs.Fields.{is_field_value}
use Rattle.mx_request.proofs.fields.is_field_value.Goals as goal

pub returns-then-not-is_some_blank : goal.returns-then-not-is_some_blank
unfolding is_field_value
returns-then-not-is_some_blank c = search rules

pub returns-else-not-is_some_blank : goal.returns-else-not-is_some_blank
unfolding is_field_value
returns-else-not-is_some_blank c = search rules
