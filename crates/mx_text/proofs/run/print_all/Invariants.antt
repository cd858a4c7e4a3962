use Rattle.std.proofs.Common.{take}
use Rattle.mx_run_io.specs.Ends.{Wrote}
use Rattle.mx_text.specs.Texts.{texts_from}
use Rattle.mx_text.proofs.run.print_all.Given as goal

abbrev pub invariant-loop-handle : goal.invariant-loop-handle
invariant-loop-handle g l = Wrote g.W.Write.contents l.initial.output l.output (texts_from 0 (take l.handle l.fetched))
