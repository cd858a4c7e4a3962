use Rattle.std.proofs.Common.{◌≡◌, map, drop}
use Rattle.std.specs.Prelude.{codes}
use Rattle.httparse.specs.Spans.{header_bytes}
use Rattle.mx_head.specs.Fields.{first_value}
use Rattle.mx_head.proofs.fields.location.Given as goal

abbrev pub invariant-loop-header : goal.invariant-loop-header
invariant-loop-header l =
    first_value (codes "location") (map (header_bytes l.buf) (drop l.header-index l.headers))
    ≡ first_value (codes "location") (map (header_bytes l.buf) l.headers)
