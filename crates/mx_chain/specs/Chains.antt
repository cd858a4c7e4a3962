-- What contracts see of a transfer with its hops.
use Rattle.std.specs.Prelude.{◌≡◌, ℕ, ◌≤◌, ◌+◌, ◌-◌, ◌^◌, ◌==◌, ◌⊎◌, not, ◌&&◌, min, Bool, true, false, List, [], ◌∷◌, ◌++◌, length, Option, Some, None, ◌↔◌, option_map, slice_get, if◌then◌else◌}
use Rattle.std.specs.List.{sum_by}
use Rattle.std.specs.Option.{option_or}
use Rattle.mx_types.specs.declared.code.Code.{Code}
use Rattle.mx_request.specs.Endpoint.{HostAndPort}
use Rattle.mx_request.specs.Request.{RequestValue}
use Rattle.mx_link.specs.Answers.{given}
use Rattle.mx_exchange.specs.Exchanges as exchange
use Rattle.mx_exchange.specs.Exchanges.{HopValue, ExchangeState, TellsSending, renewed}
use Rattle.mx_chain.specs.Hops.{LeadTo}

-- A transfer. `request` is the first hop's. `hops` were followed, of which memory has the heads alone where `heads_alone` is true, and
-- `earlier` counts the bytes of their responses; once the transfer has
-- ended they are in its outcome, and here are none. `now` is the exchange of the hop that is under way, or was the last, and `linked` says
-- whether a link was attached in it. `link` is what `take_link` hands out: a link that served a hop which has ended, and may serve again.
-- `home` is where it goes, once the transfer has ended. `content` is what was handed on of the hop that is under way.
pub record ChainState (L : Type 0) : Type 0 where
  pub request : RequestValue
  pub hops : List HopValue
  pub heads_alone : Bool
  pub now : ExchangeState L
  pub linked : Bool
  pub earlier : ℕ
  pub code : Option Code
  pub link : Option L
  pub home : Option HostAndPort
  pub content : List ℕ

-- a transfer of the request, at its beginning
abbrev pub begun : {L : Type 0} → RequestValue → ChainState L
begun request = record {
  request = request;
  hops = [];
  heads_alone = false;
  now = exchange.begun None request;
  linked = false;
  earlier = 0;
  code = None;
  link = None;
  home = None;
  content = [];
}

-- the same, of which memory will have the heads alone of each hop that is followed
abbrev pub begun_with_heads : {L : Type 0} → RequestValue → ChainState L
begun_with_heads request = record (begun request) { heads_alone = true }

-- the same, whose content is handed on, at most so many bytes of it
abbrev pub begun_flowing : {L : Type 0} → ℕ → RequestValue → ChainState L
begun_flowing limit request = record (begun_with_heads request) { now = exchange.begun (Some limit) request }

-- so many bytes more, held at the greatest number of 32 bits
abbrev pub counted : ℕ → ℕ → ℕ
counted earlier more = min (earlier + more) (2 ^ 32 - 1)

-- the bytes of the responses of these hops, so held
abbrev pub bytes_in : List HopValue → ℕ
bytes_in hops = counted 0 (sum_by (λ o. length o.wire) hops)

-- the bytes that came in all hops, so held
abbrev pub received_of : {L : Type 0} → ChainState L → ℕ
received_of t = counted t.earlier t.now.received

-- where the hop before goes, if there is one
abbrev pub last_home : List HopValue → Option HostAndPort
last_home hops = option_map (λ o. o.request.endpoint) (slice_get hops (length hops - 1))

-- where the link goes that was attached last
abbrev pub home_by : Option Code → Bool → RequestValue → List HopValue → Option HostAndPort → Option HostAndPort
home_by None true now hops home = Some now.endpoint
home_by None false now hops home = last_home hops
home_by (Some code) linked now hops home = home

-- rule redirect-idle-link: The link of a hop that has ended, and may serve again, goes into its worker's cache under the endpoint of that
-- hop.
abbrev pub home_of : {L : Type 0} → ChainState L → Option HostAndPort
home_of t = home_by t.code t.linked t.now.request t.hops t.home

-- the exchange, once its link was taken where it may serve again
abbrev pub released : {L : Type 0} → ExchangeState L → ExchangeState L
released now =
    if now.is_kept
    then record now { link = None; attached = None; answers = []; is_reused = false; needs_probe = false; is_kept = false }
    else now

-- the link that is left once a hop has ended: its own, where that may serve again, else one from before that was not taken
abbrev pub left_of : {L : Type 0} → Option L → ExchangeState L → Option L
left_of before now = option_or (if now.is_kept then now.link else None) before

-- the transfer, once its hop has ended
abbrev pub halted : {L : Type 0} → ChainState L → ExchangeState L → HopValue → ChainState L
halted t mid hop = record t { now = mid; code = Some hop.code; content = [] }

-- the transfer, once its hop, which ended so, is followed by a request
abbrev pub onward : {L : Type 0} → ChainState L → ExchangeState L → HopValue → RequestValue → ChainState L
onward t mid hop next = record t {
  hops = t.hops ++ hop ∷ [];
  now = renewed mid next;
  linked = false;
  earlier = counted t.earlier mid.received;
  code = None;
  link = left_of t.link mid;
  content = [];
}

-- the transfer, once it has ended with this hop
abbrev pub over : {L : Type 0} → ChainState L → ExchangeState L → Code → Option L → Option HostAndPort → ChainState L
over t mid code link home = record t {
  hops = [];
  now = released mid;
  code = Some code;
  link = link;
  home = home;
}

-- what was handed on of this content among the bytes of a hop: nothing where their final head sends the request on, else all of it
abbrev pub IsPassedOn : ℕ → List ℕ → List ℕ → List ℕ → Type 0
IsPassedOn most wire content handed =
    ((content ≡ []) × (handed ≡ []))
    ⊎ ((sends : Bool) × TellsSending wire sends × (handed ≡ (if not (most == 0) && sends then [] else content)))

-- What holds of every transfer: as long as it goes on, its hops are a chain that leads to the request under way, and the bytes of their
-- responses are counted.
pub record IsChain {L : Type 0} (t : ChainState L) : Type 0 where
  pub going : (t.code ≡ None) ↔ (t.now.code ≡ None)
  pub leads : t.code ≡ None → LeadTo t.request.settings.max_redirects t.request t.hops t.now.request
  pub few : length t.hops ≤ t.request.settings.max_redirects
  pub bytes : t.code ≡ None → t.earlier ≡ bytes_in t.hops
  -- where memory has all bytes of the hops that were followed the responses are held
  pub kept : t.heads_alone ≡ false → t.now.limit ≡ None
  pub handed : t.code ≡ None → IsPassedOn t.request.settings.max_redirects (given t.now.answers) t.now.content t.content
