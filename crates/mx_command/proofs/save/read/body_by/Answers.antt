use Rattle.std.proofs.Common.{refl, lit<, None}
use Rattle.std.proofs.lemmas.Str.Pattern.{strip_prefix_char}
use Rattle.mx_command.proofs.save.read.body_by.Goals as goal

pub returns-in-None : goal.returns-in-None
returns-in-None c = (refl, strip_prefix_char 64 c.args.text.now None c.in-None.ensures.cases (lit< tt))
