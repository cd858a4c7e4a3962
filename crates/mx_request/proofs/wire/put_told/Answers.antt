use Rattle.std.proofs.Common.{sym, ◌∙◌, append-nil}
use Rattle.mx_request.proofs.ToldLemmas.{told_one, told_none}
use Rattle.mx_request.proofs.wire.put_told.Goals as goal

pub returns-then-is_told : goal.returns-then-is_told
returns-then-is_told c = rw (told_one c.args.is_first (record { name = c.args.name.now; value = c.args.value.now }) (sym c.is_told.ensures ∙ c.if-is_told.true)) c.put_field.ensures

pub returns : goal.returns
returns c = rw (told_none c.args.is_first (record { name = c.args.name.now; value = c.args.value.now }) (sym c.is_told.ensures ∙ c.if-is_told.false)) (sym (append-nil _))
