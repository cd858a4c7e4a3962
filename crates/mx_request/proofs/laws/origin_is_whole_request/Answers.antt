use Rattle.std.proofs.Common.{ap}
use Rattle.mx_types.specs.declared.origin.Origin.{Origin}
use Rattle.mx_request.specs.Endpoint.{HostAndPort}
use Rattle.mx_request.proofs.SameLemmas.{same_request}
use Rattle.mx_request.proofs.laws.origin_is_whole_request.Goals as goal

first_of : Origin → HostAndPort
first_of o = record { host = o.first_host; port = o.first_port }

pub returns : goal.returns
unfolding first_of
returns c request other is other_is same =
    same_request request other is other_is (ap (λ (o : Origin). o.method) same) (ap (λ (o : Origin). o.url) same) (ap (λ (o : Origin). o.settings) same) (ap first_of same)
