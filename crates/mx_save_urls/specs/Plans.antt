-- How a run may fetch.
use Rattle.std.specs.Prelude.{◌≡◌, ℕ, ◌+◌, ◌*◌, nat_lt, Bool, true, Option, Some, None}
use Rattle.mx_types.specs.Limits.{IsHistory}
use Rattle.mx_run_io.specs.Options.{are_within}
use Rattle.mx_fetch.specs.declared.first.Room.{Room}
use Rattle.mx_save_urls.specs.declared.plan.Plan.{Plan}

-- each number is within its limits
pub record IsPlan (p : Plan) : Type 0 where
  pub options : are_within p.options ≡ true
  pub history : IsHistory p.history

-- multi handles are opened as the plan has it: with room for its events, for its number of workers, and with its number of idle connections
-- for each worker; and as many requests are added at a time as it says
pub record IsRoomOf (p : Plan) (r : Room) : Type 0 where
  pub limits : r.limits ≡ record { seats = 1; workers = p.options.workers; history = p.history; max_connects = p.options.max_connects }
  pub width : r.width ≡ p.options.at_once

-- a history may be full before all URLs have ended: where it isn't known how many there are, and where it has no room for the four events of
-- each try
abbrev pub may_fill : ℕ → Option ℕ → ℕ → Bool
may_fill history None retries = true
may_fill history (Some urls) retries = nat_lt history (urls * (4 * (1 + retries)))
