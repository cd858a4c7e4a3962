-- What follows of a paced gate.
use Rattle.std.specs.Prelude.{◌≡◌, List, true}
use Rattle.mx_request.specs.Endpoint.{HostAndPort}
use Rattle.mx_gate.specs.Said.{Said}
use Rattle.mx_named_gate.specs.Pace.{IsPaced, allows, burst_of, pace_by}

-- where the table allows one more link to an endpoint, it is within the pace by the links that were opened to it
abbrev pub AllowsPaced : Type 0
AllowsPaced = (e : HostAndPort) (said : List Said) → allows e (pace_by said) ≡ true → IsPaced (burst_of e said)
