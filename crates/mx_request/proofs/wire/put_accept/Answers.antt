use Rattle.std.proofs.Common.{sym, append-nil}
use Rattle.mx_request.proofs.LineLemmas.{list_any-map}
use Rattle.mx_types.specs.Settings.{field_of}
use Rattle.mx_request.specs.RequestBytes as spec
use Rattle.mx_request.proofs.wire.put_accept.Goals as goal

pub returns-then-says_accept : goal.returns-then-says_accept
returns-then-says_accept c =
    rw (list_any-map spec.is_accept field_of c.args.fields.now, ← c.says_accept.ensures, c.if-says_accept.true) (sym (append-nil _))

pub returns : goal.returns
returns c =
    rw (list_any-map spec.is_accept field_of c.args.fields.now, ← c.says_accept.ensures, c.if-says_accept.false) c.put_field.ensures
