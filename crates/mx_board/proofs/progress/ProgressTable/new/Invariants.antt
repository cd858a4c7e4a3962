use Rattle.std.proofs.Common.{◌≡◌, ◌+◌, length, []}
use Rattle.std.specs.List.{All}
use Rattle.mx_board.specs.Progress.{NoteState, new_seat}
use Rattle.mx_board.proofs.progress.ProgressTable.new.Given as goal

-- so many seats were split off
abbrev pub invariant-loop-made : goal.invariant-loop-made
invariant-loop-made l = record {
  of : l.first.of ≡ l.progress-inside.table.shared.table_id;
  seats : l.first.seats ≡ l.fn.seats;
  joined : l.first.joined + l.made ≡ l.fn.seats + 1;
  noted : l.first.noted ≡ [];
  read : l.first.read ≡ [];
  count : length l.all.items + 1 ≡ l.made;
  all : All (λ (s : NoteState). s ≡ new_seat (record { id = l.progress-inside.table.shared.table_id; seats = l.fn.seats })) l.all.items;
}
