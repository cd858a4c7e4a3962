use Rattle.std.proofs.Common.{rules}
use Rattle.mx_request.proofs.endpoint.EndpointPartialEq.eq.Goals as goal

pub returns-then-self-other-clause-value : goal.returns-then-self-other-clause-value
returns-then-self-other-clause-value c = search rules

pub returns-then-self-other-clause-same : goal.returns-then-self-other-clause-same
returns-then-self-other-clause-same c = search rules
