use Rattle.std.proofs.Common.{sym, append-nil}
use Rattle.mx_request.specs.RequestBytes.{told_fields}
use Rattle.mx_request.proofs.ToldLemmas.{fields_more}
use Rattle.mx_request.proofs.wire.put_fields.Goals as goal

pub loop-field-init : goal.loop-field-init
unfolding told_fields
loop-field-init c = sym (append-nil _)

pub loop-field-preserved : goal.loop-field-preserved
loop-field-preserved c =
    let told = rw (c.as_str.ensures.value, c.as_str-in-loop-field.ensures.value) at c.in_ok-put_told.ensures in
    fields_more c.args.is_first c.args.fields.now c.loop-field.field-index c.field-item.result c.args.out.now.items c.loop-field.out.items c.put_told.new.out.items c.loop-field-test.true c.field-item.is c.loop-field.invariant told
