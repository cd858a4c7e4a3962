-- A set of deadlines: of each ticket at most one, kept as a list by moment, then by ticket.
use Rattle.std.specs.Prelude.{◌≡◌, ℕ, ◌==◌, nat_lt, nat_le, not, ◌&&◌, ◌||◌, Bool, true, false, List, [], ◌∷◌, ◌++◌}
use Rattle.std.specs.List.{AllByRecursion, filter}
use Rattle.mx_types.specs.declared.names.Ticket.{Ticket}
use Rattle.mx_turn.specs.declared.deadlines.Deadline.{Deadline}

-- an earlier moment comes first, and of one moment the lower ticket
abbrev pub is_before : Deadline → Deadline → Bool
is_before d e = nat_lt d.moment e.moment || (d.moment == e.moment && nat_lt d.ticket.0 e.ticket.0)

-- another ticket's deadline, and a later one
pub record Precedes (d e : Deadline) : Type 0 where
  pub before : is_before d e ≡ true
  pub other : (d.ticket.0 == e.ticket.0) ≡ false

-- each deadline precedes all that follow it
abbrev pub IsInOrder : List Deadline → Type 0
IsInOrder [] = Unit {0}
IsInOrder (d ∷ ds) = AllByRecursion (Precedes d) ds × IsInOrder ds

-- it is not this ticket's
abbrev pub is_other : Ticket → Deadline → Bool
is_other ticket d = not (d.ticket.0 == ticket.0)

-- the deadlines of the other tickets
abbrev pub others : Ticket → List Deadline → List Deadline
others ticket ds = filter (is_other ticket) ds

-- the other tickets' deadlines as they were, and among them this one
pub record Sets (old new : List Deadline) (d : Deadline) : Type 0 where
  pub earlier : List Deadline
  pub later : List Deadline
  pub kept : others d.ticket old ≡ earlier ++ later
  pub is : new ≡ earlier ++ d ∷ later

-- its moment isn't after this one
abbrev pub is_due : ℕ → Deadline → Bool
is_due now d = nat_le d.moment now

-- rule deadline-due: `due(now)` gives the tickets whose moment isn't after `now`, by moment and then by ticket.
--
-- the deadlines that are due
abbrev pub due_at : List Deadline → ℕ → List Deadline
due_at ds now = filter (is_due now) ds

-- those that are not
abbrev pub not_due_at : List Deadline → ℕ → List Deadline
not_due_at ds now = filter (λ d. not (is_due now d)) ds
