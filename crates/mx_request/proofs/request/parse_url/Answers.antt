use Rattle.std.proofs.Common.{rules}
use Rattle.mx_request.proofs.request.parse_url.Goals as goal

pub returns-then-text-gt-MOST_TEXT-clause-answer : goal.returns-then-text-gt-MOST_TEXT-clause-answer
returns-then-text-gt-MOST_TEXT-clause-answer c = search rules

pub returns-in-Ok-clause-answer : goal.returns-in-Ok-clause-answer
returns-in-Ok-clause-answer c = search rules

pub returns-in-Ok-clause-too_long : goal.returns-in-Ok-clause-too_long
returns-in-Ok-clause-too_long c = search rules

pub returns-in-Err-OutOfMemory-clause-too_long : goal.returns-in-Err-OutOfMemory-clause-too_long
returns-in-Err-OutOfMemory-clause-too_long c = search rules
