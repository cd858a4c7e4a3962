use Rattle.mx_line.proofs.Serves.{reads_none}
use Rattle.mx_line.proofs.lines.Line.ask_next.Goals as goal

pub returns-then-not-stands-clause-handed : goal.returns-then-not-stands-clause-handed
returns-then-not-stands-clause-handed g c = reads_none _ _

pub returns-then-not-is_sent-clause-handed : goal.returns-then-not-is_sent-clause-handed
returns-then-not-is_sent-clause-handed g c = reads_none _ _
