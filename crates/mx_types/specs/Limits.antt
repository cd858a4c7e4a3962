-- The limits of a multi handle, in one place. libcurl has none of them; they are the engine's own.
use Rattle.std.specs.Prelude.{ℕ, ◌≤◌, nat_le, Bool, ◌&&◌}

-- the handles that are added at one time, and so the slots
abbrev pub most_handles : ℕ
most_handles = 256

-- the events that a history has room for: one addition needs four
abbrev pub least_history : ℕ
least_history = 4

abbrev pub most_history : ℕ
most_history = 1048576

-- the seats of a kind: of application threads, and of workers
abbrev pub most_seats : ℕ
most_seats = 16

-- rule deadline-count: At most 64 tickets have a deadline at once.
--
-- the transfers that a worker holds at one time
abbrev pub most_transfers : ℕ
most_transfers = 64

-- the greatest ticket: one more still is a number of 32 bits
abbrev pub greatest_ticket : ℕ
greatest_ticket = 4294967294

-- rule play-history: `play`'s history has room for 4 to 1,048,576 events.
--
-- a history may have room for so many events
abbrev pub IsHistory : ℕ → Type 0
IsHistory history = (least_history ≤ history) × (history ≤ most_history)

-- the same, as a test
abbrev pub is_history : ℕ → Bool
is_history history = nat_le least_history history && nat_le history most_history
