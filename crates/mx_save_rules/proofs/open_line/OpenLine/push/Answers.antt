use Rattle.std.proofs.Common.{◌≡◌, length, arith}
use Rattle.mx_save_rules.proofs.OpenLines.{one_dropped}
use Rattle.mx_save_rules.proofs.open_line.OpenLine.push.Goals as goal

pub returns-else-len-le-MOST_LINE-clause-pushed : goal.returns-else-len-le-MOST_LINE-clause-pushed
returns-else-len-le-MOST_LINE-clause-pushed c = λ rest.
    let s = c.args.self.now in
    let long : length s.bytes.items ≡ 65537 = omega (arith, s.short, c.len.ensures, c.if-len-le-MOST_LINE.false, s.bytes.ok.0) in
    one_dropped s.is_first s.bytes.items c.args.byte rest s.unended c.requires long
