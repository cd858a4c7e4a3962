-- Bodies that are saved.
use Rattle.std.specs.Prelude.{◌≡◌, ℕ, List, ◌++◌}
use Rattle.mx_types.specs.declared.code.Code.TheVariants as code
use Rattle.mx_body.specs.Parts.{joined}
use Rattle.mx_exchange.specs.Hops.{HasBody}
use Rattle.mx_chain.specs.Outcomes.{OutcomeValue, IsEnd}

-- the body: the bytes of the parts, joined, of a response that is held, and what was handed on of one that isn't; one of the two is empty
abbrev pub body_of : OutcomeValue → List ℕ
body_of o = joined o.wire o.parts ++ o.content

-- The outcome is one, of code 0: the first bytes of its last hop are a response to the last request of its chain by RFC 9112, whose content
-- is its body.
pub record IsWholeBody (o : OutcomeValue) : Type 0 where
  pub end : IsEnd o
  pub code : o.code ≡ code.Ok
  pub body : HasBody o.last
  pub same : body_of o ≡ joined o.last.wire o.last.parts ++ o.last.content
