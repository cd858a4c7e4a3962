-- What becomes of the content of a transfer.
use Rattle.std.specs.Prelude.{◌≡◌, ◌≢◌, ℕ, Bool, true, false, List, [], ◌++◌, Option, Some, None}
use Rattle.mx_types.specs.declared.code.Code.{Code}
use Rattle.mx_request.specs.Request.{RequestValue}
use Rattle.mx_flow.specs.Streams.{limit_of}
use Rattle.mx_line.specs.Endings.{is_given_code}
use Rattle.mx_chain.specs.Chains.{ChainState, begun_with_heads, begun_flowing}
use Rattle.mx_chain.specs.Outcomes.{limit_by}

-- a transfer of the request, at its beginning
abbrev pub begun_for : {L : Type 0} → Option (Option ℕ) → RequestValue → ChainState L
begun_for None request = begun_with_heads request
begun_for (Some most_bytes) request = begun_flowing (limit_of most_bytes) request

-- What was handed on, of a response with that limit of its content: what the delivery was handed, and then the rest, which came since it last
-- had room. Where the response is held there is none.
abbrev pub IsHandedTo : {D : Type 0} → (D → Option (Option ℕ)) → (D → List ℕ) → Option ℕ → List ℕ → Option D → List ℕ → Type 0
IsHandedTo flows handed limit content None rest = ⊥
IsHandedTo flows handed limit content (Some d) rest =
    (limit ≡ limit_by (flows d)) × (content ≡ handed d ++ rest) × (flows d ≡ None → rest ≡ [])

-- as long as the transfer goes on its delivery is there
abbrev pub IsDelivering : {L D : Type 0} → (D → Option (Option ℕ)) → (D → List ℕ) → ChainState L → Option D → List ℕ → Type 0
IsDelivering flows handed chain delivery rest = chain.code ≡ None → IsHandedTo flows handed chain.now.limit chain.content delivery rest

-- What a delivery says before a poll of its transfer: whether it takes content now.
pub data MakesRoom {L : Type 0} (t new : ChainState L) : Bool → Type 0 where
  -- it does, as it always does where the response is held
  takes : new ≡ t → MakesRoom t new true
  -- it has no room
  has_none : t.now.limit ≢ None → new ≡ t → MakesRoom t new false
  -- it has failed, and the transfer is given the code that it ends with
  has_failed : (c : Code) → t.now.limit ≢ None → is_given_code c t.now.limit ≡ true
      → new ≡ record t { now = record t.now { failure = Some c } } → MakesRoom t new false
