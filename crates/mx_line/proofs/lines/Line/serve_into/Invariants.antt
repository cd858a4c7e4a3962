use Rattle.std.proofs.Common.{◌≡◌, ◌<◌, length}
use Rattle.mx_line.specs.Order.{most_read}
use Rattle.mx_line.specs.Lines.{ReadsOn}
use Rattle.mx_line.proofs.Serves.{Serves}
use Rattle.mx_line.proofs.lines.Line.serve_into.Given as goal

abbrev pub invariant-loop-turn : goal.invariant-loop-turn
invariant-loop-turn g l = record {
  room : length l.buffer ≡ most_read;
  reads : l.reads < l.most_reads;
  writes : l.writes < 64;
  serves : Serves l.initial.self l.self l.turn l.reads l.writes l.reader;
  handed : ReadsOn l.initial.reader l.reader l.initial.out.items l.out.items;
}
