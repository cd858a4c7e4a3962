use Rattle.std.proofs.Common.{◌≡◌, take}
use Rattle.mx_history.specs.History.{last_is_pause}
use Rattle.mx_history.proofs.definitions.is_last_paused.Given as goal

abbrev pub invariant-loop-event : goal.invariant-loop-event
invariant-loop-event l = l.paused ≡ last_is_pause l.ticket (take l.event-index l.events)
