-- How a transfer goes on from a hop that has ended.
use Rattle.std.specs.Prelude.{◌≡◌, ℕ, ◌<◌, true, Result, Ok, Err}
use Rattle.mx_types.specs.declared.code.Code.{Code}
use Rattle.mx_request.specs.Request.{RequestValue}
use Rattle.mx_exchange.specs.Exchanges.{HopValue}
use Rattle.mx_chain.specs.Hops.{is_redirect, next_of, EndsWith}
use Rattle.mx_chain.specs.Outcomes.{IsChainEnd}
use Rattle.mx_chain.specs.Chains.{ChainState}
use Rattle.mx_chain.specs.Steps.{GoesOn, IfEnded, how_of}
use Rattle.mx_chain.specs.declared.chains.Stepped.{Stepped}

-- the hop, before which so many were followed, is followed by this request
abbrev pub IsFollowed : ℕ → ℕ → HopValue → RequestValue → Type 0
IsFollowed most followed hop next = (is_redirect most hop ≡ true) × (followed < most) × (next_of hop ≡ Ok next)

-- it is followed by a request, or the transfer ends with a code
abbrev pub Decides : ℕ → ℕ → HopValue → Result RequestValue Code → Type 0
Decides most followed hop (Ok next) = IsFollowed most followed hop next
Decides most followed hop (Err code) = EndsWith most followed hop code

-- what the transfer is once it went on from this hop, with this result of the turn
pub record GoesOnTo {L : Type 0} (t : ChainState L) (o : HopValue) (new : ChainState L) (result : Stepped) : Type 0 where
  pub goes : GoesOn t t.now o new (how_of result)
  pub outcome : IfEnded result IsChainEnd
  pub value : IfEnded result (λ x. x.request ≡ t.request)
