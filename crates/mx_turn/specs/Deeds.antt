-- What the note of an operation says.
use Rattle.std.specs.Prelude.{ℕ, option_map}
use Rattle.mx_types.specs.declared.names.Ticket.{Ticket}
use Rattle.mx_turn.specs.Workers.{Deed, claims, looks, notes, finishes, gives_back, recorded, stale, lacking, unseated, returned, ended_before, unreturned}
use Rattle.mx_turn.specs.Engines.{HeldView, EndView}
use Rattle.mx_turn.specs.declared.deeds.Note.{Note}
use Rattle.mx_turn.specs.declared.deeds.Note.TheVariants as note

abbrev pub done_by : {L C : Type 0} → (C → Ticket) → (C → ℕ) → Note (HeldView L) EndView C → Deed L
done_by ticket slot (note.Claims h) = claims (option_map (λ x. x.held) h.value)
done_by ticket slot (note.Looks t seen) = looks t seen
done_by ticket slot (note.Notes right count) = notes (ticket right.value) (slot right.value) count
done_by ticket slot (note.Recorded e) = finishes e.value.end.ticket e.value.end.outcome recorded
done_by ticket slot (note.Stale e) = finishes e.value.end.ticket e.value.end.outcome stale
done_by ticket slot (note.Lacking e) = finishes e.value.end.ticket e.value.end.outcome lacking
done_by ticket slot (note.Unseated e) = finishes e.value.end.ticket e.value.end.outcome unseated
done_by ticket slot (note.Returned h) = gives_back h.value.held returned
done_by ticket slot (note.EndedBefore h) = gives_back h.value.held ended_before
done_by ticket slot (note.Unreturned h) = gives_back h.value.held unreturned
