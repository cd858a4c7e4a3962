-- What a progress word says of a ticket.
use Rattle.std.specs.Prelude.{ℕ, ◌==◌, nat_lt, if◌then◌else◌}
use Rattle.mx_types.specs.declared.names.Ticket.{Ticket}
use Rattle.mx_board.specs.declared.answer.Progress.{Progress}
use Rattle.mx_board.specs.declared.answer.Progress.TheVariants as progress

-- rule multi-progress: A transfer's progress is the count of its slot's word, 0 where that is of an older ticket.
--
-- what a word of the ticket u and the count n says of the ticket t: its count; 0, where the word is of an older ticket; or that a newer one
-- has the slot
abbrev pub progress_of : Ticket → Ticket → ℕ → Progress
progress_of t u n = if u.0 == t.0 then progress.Bytes t n else if nat_lt u.0 t.0 then progress.Bytes t 0 else progress.Replaced
