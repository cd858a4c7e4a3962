-- The slots of additions: each takes the lowest of 0 to 255 that no added handle has, and keeps it until it is removed.
use Rattle.std.specs.Prelude.{ℕ, ◌==◌, Bool, not, List, [], ◌∷◌, ◌++◌, Option}
use Rattle.std.specs.List.{filter, list_any, find, range_with_len}
use Rattle.std.specs.Option.{option_map, unwrap_or}
use Rattle.mx_types.specs.Limits.{most_handles}
use Rattle.mx_types.specs.declared.names.Ticket.{Ticket}
use Rattle.mx_types.specs.declared.event.What.{What}
use Rattle.mx_types.specs.declared.event.What.TheVariants as what
use Rattle.mx_types.specs.declared.event.Event.{Event}
use Rattle.mx_history.specs.History.{same_ticket}

-- one of the tickets has the slot
abbrev pub has_slot : ℕ → List (Ticket × ℕ) → Bool
has_slot n slots = list_any (λ s. s.1 == n) slots

-- the first of the n numbers from `start` on that is no ticket's slot
unfoldable pub free_from : ℕ → ℕ → List (Ticket × ℕ) → Option ℕ
free_from start n slots = find (λ k. not (has_slot k slots)) (range_with_len start n)

-- rule core-slots: An addition takes the least slot of 0 to 255 that no added handle has.
--
-- the lowest free slot; where fewer than 256 tickets have slots, there is one
unfoldable pub lowest_free : List (Ticket × ℕ) → ℕ
lowest_free slots = unwrap_or (free_from 0 most_handles slots) 255

abbrev pub slots_after : List (Ticket × ℕ) → What → List (Ticket × ℕ)
slots_after slots (what.Added h t) = slots ++ (t, lowest_free slots) ∷ []
slots_after slots (what.Removed h t) = filter (λ s. not (same_ticket s.0 t)) slots
slots_after slots _ = slots

abbrev pub slots_from : List (Ticket × ℕ) → List Event → List (Ticket × ℕ)
slots_from slots [] = slots
slots_from slots (e ∷ j) = slots_from (slots_after slots e.what) j

-- the added tickets with their slots, in order
abbrev pub slots : List Event → List (Ticket × ℕ)
slots j = slots_from [] j

-- the slot of an added ticket
abbrev pub slot_of : Ticket → List Event → Option ℕ
slot_of t j = option_map (λ s. s.1) (find (λ s. same_ticket t s.0) (slots j))
