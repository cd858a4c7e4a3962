use Rattle.std.proofs.Common.{◌≡◌, take}
use Rattle.mx_board.proofs.writer.fill.Given as goal

-- the first events are appended and published
abbrev pub invariant-loop-event : goal.invariant-loop-event
invariant-loop-event g l = (l.board.events ≡ take l.event-index l.events) × (l.board.published ≡ take l.event-index l.events)
