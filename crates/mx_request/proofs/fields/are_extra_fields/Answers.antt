use Rattle.std.proofs.Common.{rules}
use Rattle.mx_request.proofs.fields.are_extra_fields.Goals as goal

pub returns-then-fields-le-MOST_FIELDS : goal.returns-then-fields-le-MOST_FIELDS
returns-then-fields-le-MOST_FIELDS c = search rules

pub returns-else-fields-le-MOST_FIELDS : goal.returns-else-fields-le-MOST_FIELDS
returns-else-fields-le-MOST_FIELDS c = search rules
