use Rattle.std.proofs.Common.{◌∙◌, sym, ap, subst, Ok}
use Rattle.mx_reason.specs.Steps.{IsWalked}
use Rattle.mx_reason.proofs.Cutting.{none_refused, none_framed, none_empty, cut_counted, cut_chunked, cut_close}
use Rattle.mx_reason.proofs.cut.cut_of.Goals as goal

pub unreachable-requires : goal.unreachable-requires
unreachable-requires c = none_refused c.args.method c.args.wire.now c.in-Refused.end c.requires (subst (IsWalked c.args.wire.now) c.in-Refused.is c.walk.ensures)

pub returns-in-Ok-Counted : goal.returns-in-Ok-Counted
returns-in-Ok-Counted c =
    cut_counted c.args.method c.args.wire.now c.in-Final.head c.in-Final.end c.in-Ok-Counted.of c.requires (subst (IsWalked c.args.wire.now) c.in-Final.is c.walk.ensures)
    (sym c.framing.ensures ∙ c.in-Ok-Counted.is ∙ ap Ok c.in-Ok-Counted.field-0-is)

pub returns-in-Ok-Chunked : goal.returns-in-Ok-Chunked
returns-in-Ok-Chunked c =
    cut_chunked c.args.method c.args.wire.now c.in-Final.head c.in-Final.end (subst (IsWalked c.args.wire.now) c.in-Final.is c.walk.ensures)
    (sym c.framing.ensures ∙ c.in-Ok-Chunked.is ∙ ap Ok c.in-Ok-Chunked.field-0-is)

pub returns-in-Ok-Close : goal.returns-in-Ok-Close
returns-in-Ok-Close c =
    cut_close c.args.method c.args.wire.now c.in-Final.head c.in-Final.end (subst (IsWalked c.args.wire.now) c.in-Final.is c.walk.ensures)
    (sym c.framing.ensures ∙ c.in-Ok-Close.is ∙ ap Ok c.in-Ok-Close.field-0-is)

pub unreachable-requires-in-Ok-Empty : goal.unreachable-requires-in-Ok-Empty
unreachable-requires-in-Ok-Empty c =
    none_empty c.args.method c.args.wire.now c.in-Final.head c.in-Final.end c.requires (subst (IsWalked c.args.wire.now) c.in-Final.is c.walk.ensures)
    (sym c.framing.ensures ∙ c.in-Ok-Empty.is ∙ ap Ok c.in-Ok-Empty.field-0-is)

pub unreachable-requires-in-Err : goal.unreachable-requires-in-Err
unreachable-requires-in-Err c =
    none_framed c.args.method c.args.wire.now c.in-Final.head c.in-Final.end c.in-Err.field-0 c.requires (subst (IsWalked c.args.wire.now) c.in-Final.is c.walk.ensures)
    (sym c.framing.ensures ∙ c.in-Err.is)
