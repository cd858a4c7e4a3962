use Rattle.mx_run_local.proofs.Words.{line_silent, line_other}
use Rattle.std.proofs.Common.{◌∙◌, sym, ap}
use Rattle.mx_run_local.specs.Script.{call_or, retire_or_bad}
use Rattle.mx_run_local.proofs.script.read_line.Goals as goal

pub returns-then-is_silent : goal.returns-then-is_silent
returns-then-is_silent c = line_silent _ c.requires (sym c.is_silent.ensures ∙ c.if-is_silent.true)

pub returns-in-Some : goal.returns-in-Some
returns-in-Some c = ap (call_or (retire_or_bad c.args.line.now)) (sym c.in-Some.is) ∙ line_other _ _ c.requires (sym c.is_silent.ensures ∙ c.if-is_silent.false) c.call_of.ensures

pub returns-in-None : goal.returns-in-None
returns-in-None c = c.retire_or_bad.ensures ∙ ap (call_or (retire_or_bad c.args.line.now)) (sym c.in-None.is) ∙ line_other _ _ c.requires (sym c.is_silent.ensures ∙ c.if-is_silent.false) c.call_of.ensures
