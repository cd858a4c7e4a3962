-- What a worker has claimed.
use Rattle.std.specs.Prelude.{◌≡◌}
use Rattle.logbook.specs.Pages.{Book}
use Rattle.mx_types.specs.Origin.{no_request}
use Rattle.mx_lock.specs.Ties.{TiedClaimed}

-- a claim of this list of ties, of work without a request
abbrev pub IsOf : Book → TiedClaimed → Type 0
IsOf book claim = (claim.of ≡ book) × (claim.origin ≡ no_request)
