use Rattle.mx_reason.proofs.Fronts.{bracket_new}
use Rattle.mx_reason.proofs.bracket.Bracket.new.Goals as goal

pub returns : goal.returns
returns c = bracket_new c.args.method c.args.wire.now c.args.code c.requires
