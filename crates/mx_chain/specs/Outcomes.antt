-- What a transfer ends with.
use Rattle.std.specs.Prelude.{◌≡◌, ℕ, ◌≤◌, ◌-◌, ◌^◌, min, nat_lt, ◌||◌, ◌&&◌, Bool, true, false, List, [], ◌∷◌, ◌++◌, length, slice_get, Option, Some, None, IfSome, option_map, if◌then◌else◌}
use Rattle.mx_types.specs.declared.code.Code.{Code}
use Rattle.mx_types.specs.declared.code.Code.TheVariants as code
use Rattle.mx_request.specs.Request.{RequestValue, IsRequest}
use Rattle.mx_body.specs.Decision.{HasHeads}
use Rattle.mx_body.specs.Parts.{joined}
use Rattle.mx_body.specs.declared.part.Part.{Part}
use Rattle.mx_flow.specs.Streams.{limit_of}
use Rattle.mx_sink.specs.Sinks.{is_sink_code}
use Rattle.mx_exchange.specs.Hops as hop
use Rattle.mx_exchange.specs.Exchanges.{HopValue}
use Rattle.mx_chain.specs.Hops.{is_ok, sends_on, LeadTo, EndsWith}

-- The first hop's request, the hops that were followed, of which memory has the heads alone where `heads_alone` is true, and the last one.
-- The bytes, the status and the parts are those of the last hop, and there are parts with code 0 alone. `content` is what was handed on.
pub record OutcomeValue : Type 0 where
  pub request : RequestValue
  pub earlier : List HopValue
  pub heads_alone : Bool
  pub last : HopValue
  pub wire : List ℕ
  pub code : Code
  pub status : ℕ
  pub parts : List Part
  pub content : List ℕ

-- all its hops, in their order
abbrev pub hops_of : OutcomeValue → List HopValue
hops_of o = o.earlier ++ o.last ∷ []

-- rule redirect-heads: A hop that was followed keeps its heads alone, where its transfer was made so; the last hop keeps all of its bytes.
--
-- the bytes of the response of a hop, counted from 0, where memory has all of them
abbrev pub wire_at : OutcomeValue → ℕ → Option (List ℕ)
wire_at o i =
    if o.heads_alone && nat_lt i (length o.earlier) then None
    else option_map (λ h. h.wire) (slice_get (hops_of o) i)

-- they are the heads of the response of that hop
abbrev pub AreHeadsAt : OutcomeValue → ℕ → List ℕ → Type 0
AreHeadsAt o i heads = IfSome (slice_get (hops_of o) i) (λ h. HasHeads h.wire heads)

-- the request of the first hop
abbrev pub first_of : List HopValue → HopValue → RequestValue
first_of [] last = last.request
first_of (o ∷ hops) last = o.request

-- rule redirect-content: Where the content is handed on, none is of a response whose final head sends its request on.
--
-- what was handed on of the content of the last hop, where at most so many redirects are followed
abbrev pub passed_on : ℕ → HopValue → List ℕ
passed_on most o = if sends_on most o then [] else o.content

-- rule redirect-outcome: Body, status and code are the last hop's.
--
-- the outcome that these hops make, with this code
abbrev pub outcome_of : Bool → List HopValue → HopValue → Code → OutcomeValue
outcome_of heads_alone earlier last code = record {
  request = first_of earlier last;
  earlier = earlier;
  heads_alone = heads_alone;
  last = last;
  wire = last.wire;
  code = code;
  status = last.status;
  parts = if is_ok code then last.parts else [];
  content = passed_on (first_of earlier last).settings.max_redirects last;
}

-- the code of a transfer, by the failure of its delivery and the code of its chain: the failure counts where that code is 0
abbrev pub settled_code : Option Code → Code → Code
settled_code None c = c
settled_code (Some failure) code.Ok = failure
settled_code (Some failure) c = c

-- the end of a chain, with the failure of its delivery
abbrev pub settled : Option Code → OutcomeValue → OutcomeValue
settled failure o = record o { code = settled_code failure o.code }

-- what a transfer ended with, by the end of its chain and the failure of its delivery, if that has failed
pub record EndsAs (end o : OutcomeValue) : Type 0 where
  pub failure : Option Code
  pub sinks : IfSome failure (λ c. is_sink_code c ≡ true)
  pub held : end.last.limit ≡ None → failure ≡ None
  pub is : o ≡ settled failure end

-- the limit of the content that is handed on, where it is: of at most so many bytes, if it has a limit
abbrev pub limit_by : Option (Option ℕ) → Option ℕ
limit_by None = None
limit_by (Some most_bytes) = Some (limit_of most_bytes)

-- what a delivery was handed of the content that was handed on: all but the rest, for which it had no room
abbrev pub IsHanded : {D : Type 0} → (D → List ℕ) → D → List ℕ → List ℕ → Type 0
IsHanded handed d content rest = content ≡ handed d ++ rest

-- the length of the body in a message: of one that was handed on, held at the greatest number of 32 bits
abbrev pub size_by : Option ℕ → ℕ → ℕ → ℕ
size_by None held handed = held
size_by (Some limit) held handed = min handed (2 ^ 32 - 1)

abbrev pub size_of : OutcomeValue → ℕ
size_of o = size_by o.last.limit (length (joined o.wire o.parts)) (length o.content)

-- the codes that say why a redirect was not followed: as many were followed as may be, the next request is refused, or a growth was
abbrev pub is_unfollowed_code : Code → Bool
is_unfollowed_code code.TooManyRedirects = true
is_unfollowed_code code.UrlMalformat = true
is_unfollowed_code code.UnsupportedProtocol = true
is_unfollowed_code code.OutOfMemory = true
is_unfollowed_code _ = false

-- the codes that a transfer ends with: these, and those of a hop
abbrev pub is_outcome_code : Code → Option ℕ → Bool
is_outcome_code c limit = hop.is_hop_code c limit || is_unfollowed_code c

-- The hops are a chain: each later request is the next request of the hop before, and at most as many were followed as the first request
-- allows. The code is the last hop's, or says why no other followed it.
pub record IsChainEnd (o : OutcomeValue) : Type 0 where
  pub value : o ≡ outcome_of o.heads_alone o.earlier o.last o.code
  pub request : IsRequest o.request
  pub leads : LeadTo o.request.settings.max_redirects o.request o.earlier o.last.request
  pub few : length o.earlier ≤ o.request.settings.max_redirects
  pub last : hop.IsHop o.last
  pub ends : EndsWith o.request.settings.max_redirects (length o.earlier) o.last o.code
  -- where memory has all bytes of the hops that were followed the responses are held
  pub kept : o.heads_alone ≡ false → o.last.limit ≡ None

-- what a transfer ended with, whatever became of its content: the end of a chain, with the failure of its delivery, if that has failed
pub record IsEnd (o : OutcomeValue) : Type 0 where
  pub end : OutcomeValue
  pub chain : IsChainEnd end
  pub ends : EndsAs end o

-- the same, of a transfer whose responses are held
pub record IsOutcome (o : OutcomeValue) : Type 0 where
  pub value : o ≡ outcome_of o.heads_alone o.earlier o.last o.code
  pub request : IsRequest o.request
  pub leads : LeadTo o.request.settings.max_redirects o.request o.earlier o.last.request
  pub few : length o.earlier ≤ o.request.settings.max_redirects
  pub last : hop.IsHop o.last
  pub held : o.last.limit ≡ None
  pub ends : EndsWith o.request.settings.max_redirects (length o.earlier) o.last o.code
