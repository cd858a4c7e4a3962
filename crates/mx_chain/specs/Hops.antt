-- Hops: one exchange each, and the request that follows it.
use Rattle.std.specs.Prelude.{◌≡◌, ℕ, ◌<◌, ◌==◌, Bool, true, false, not, ◌&&◌, List, [], ◌∷◌, is_some, unwrap_or, Result, Ok, Err}
use Rattle.mx_types.specs.declared.code.Code.{Code}
use Rattle.mx_types.specs.declared.code.Code.TheVariants as code
use Rattle.mx_request.specs.Redirects.{is_redirect_status, next_request}
use Rattle.mx_request.specs.Request.{RequestValue}
use Rattle.mx_request.specs.RequestError.{refusal_code}
use Rattle.mx_request.specs.declared.error.RequestError.{RequestError}
use Rattle.mx_exchange.specs.Hops as hop
use Rattle.mx_exchange.specs.Exchanges.{HopValue}

abbrev pub is_ok : Code → Bool
is_ok code.Ok = true
is_ok _ = false

-- rule redirect-condition: A whole response is a redirect where redirects are followed at all, its status is 301, 302, 303, 307 or 308, and
-- the first Location line of its final head has a value that isn't empty.
--
-- a whole response that sends its request on, where at most so many redirects are followed
abbrev pub is_redirect : ℕ → HopValue → Bool
is_redirect most hop = not (most == 0) && is_ok hop.code && is_redirect_status hop.status && is_some hop.location

-- whether the final head of the hop sends its request on, whatever its code is
abbrev pub sends_on : ℕ → HopValue → Bool
sends_on most hop = not (most == 0) && (is_redirect_status hop.status && is_some hop.location)

-- the request that follows the hop, or why none does
abbrev pub next_of : HopValue → Result RequestValue RequestError
next_of hop = next_request hop.request hop.status (unwrap_or hop.location [])

-- From the first request on each of the hops led to the next request, and the last of them to this one. All are hops that end as their
-- links answered.
abbrev pub LeadTo : ℕ → RequestValue → List HopValue → RequestValue → Type 0
LeadTo most first [] last = first ≡ last
LeadTo most first (o ∷ hops) last =
    (o.request ≡ first) × (is_redirect most o ≡ true) × hop.IsHop o
    × ((next : RequestValue) × (next_of o ≡ Ok next) × LeadTo most next hops last)

-- rule redirect-limit: Where as many were followed as may be, a redirect ends the transfer with 47.
--
-- Why a chain ends with this hop, where so many before it were followed, and with which code: the hop is no redirect that is followed;
-- as many were followed as may be; the next request is refused; or a growth was.
pub data EndsWith (most followed : ℕ) (hop : HopValue) : Code → Type 0 where
  stays : is_redirect most hop ≡ false → EndsWith most followed hop hop.code
  too_many : is_redirect most hop ≡ true → followed ≡ most → EndsWith most followed hop code.TooManyRedirects
  refused : (refusal : RequestError) → is_redirect most hop ≡ true → followed < most → next_of hop ≡ Err refusal
      → EndsWith most followed hop (refusal_code refusal)
  memory : is_redirect most hop ≡ true → followed < most → EndsWith most followed hop code.OutOfMemory
