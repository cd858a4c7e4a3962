-- The request that follows a redirect (RFC 9110, sections 10.2.2 and 15.4).
use Rattle.std.specs.Prelude.{◌≡◌, ◌≢◌, ℕ, ◌==◌, nat_lt, Bool, true, false, not, ◌&&◌, ◌||◌, List, ◌++◌, length, codes, Some, None, Result, Ok, Err, if◌then◌else◌}
use Rattle.std.specs.Str.{is_utf8, str_eq_ignore_ascii_case}
use Rattle.mx_types.specs.Method.{is_head}
use Rattle.mx_types.specs.Settings.{SettingsValue}
use Rattle.mx_types.specs.declared.method.Method.{Method}
use Rattle.mx_types.specs.declared.method.Method.TheVariants as method
use Rattle.mx_request.specs.Laws.{IsClean, EndsOnce}
use Rattle.mx_request.specs.Limits.{most_text}
use Rattle.mx_request.specs.Request.{RequestValue, IsRequest, checked_url, chained}
use Rattle.mx_request.specs.RequestBytes.{crlf, is_private_name, request_head, told}
use Rattle.mx_request.specs.declared.error.RequestError.{RequestError}
use Rattle.mx_request.specs.declared.error.RequestError.TheVariants as refusal
use Rattle.url.specs.Parts.{Parts, serialize, IsValid}
use Rattle.url.specs.Parser.{Parsed, parse_url}

-- the statuses that send a request on
abbrev pub is_redirect_status : ℕ → Bool
is_redirect_status status = status == 301 || status == 302 || status == 303 || status == 307 || status == 308

-- 301 and 302, at which POST becomes GET
abbrev pub is_moved : ℕ → Bool
is_moved status = status == 301 || status == 302

abbrev pub is_post : Method → Bool
is_post method.Post = true
is_post _ = false

-- rule redirect-method: 303 makes each method but HEAD a GET without a body, 301 and 302 make POST one; all else keeps method and body.
abbrev pub becomes_get : ℕ → Method → Bool
becomes_get status m = (status == 303 && not (is_head m)) || (is_moved status && is_post m)

abbrev pub next_method : ℕ → Method → Method
next_method status m = if becomes_get status m then method.Get else m

abbrev pub next_settings : ℕ → Method → SettingsValue → SettingsValue
next_settings status m settings = record settings {
  body = if becomes_get status m then None else settings.body;
}

-- a URL that was joined, of at most 65,536 bytes, or why it is refused
abbrev pub short_url : Parsed Parts → Result Parts RequestError
short_url (Err e) = Err refusal.Malformed
short_url (Ok url) =
    if nat_lt most_text (length (serialize url)) then Err refusal.Malformed else checked_url (Ok url)

-- rule redirect-next-url: The next URL is the join of the Location with the request's own as its base (URL Standard, section 4.4), of at
-- most 65,536 bytes; it is refused as Malformed, for its scheme, or for a user name or a password, in this order, and the transfer then
-- ends with 3, 1 or 3.
abbrev pub joined_url : Parts → List ℕ → Result Parts RequestError
joined_url base location =
    if not (is_utf8 location) then Err refusal.Malformed else short_url (parse_url (Some base) location)

-- the request to that URL, of the same chain
abbrev pub next_to : Result Parts RequestError → RequestValue → ℕ → Result RequestValue RequestError
next_to (Err refused) request status = Err refused
next_to (Ok url) request status =
    Ok (chained request.first (next_method status request.method) url (next_settings status request.method request.settings))

-- The request that follows this one where its response has the status and the Location, or the first refusal in the order Malformed,
-- Scheme, UserInfo.
unfoldable pub next_request : RequestValue → ℕ → List ℕ → Result RequestValue RequestError
next_request request status location = next_to (joined_url request.url location) request status

-- ---- what holds of every request

-- a head has a line of the field of this name, in any letter case
pub record HasFieldLine (name head : List ℕ) : Type 0 where
  pub before : List ℕ
  pub sent : List ℕ
  pub after : List ℕ
  pub is : head ≡ before ++ (crlf ++ (sent ++ (codes ":" ++ after)))
  pub named : str_eq_ignore_ascii_case sent name ≡ true

-- the head of a request, which its body follows
abbrev pub head_of : RequestValue → List ℕ
head_of r = request_head r.method r.url (told r.first r.url r.settings)

-- no line of Authorization or Cookie is in the head of a request to another endpoint than the first of its chain
abbrev pub PrivateStaysHome : Type 0
PrivateStaysHome =
    (r : RequestValue) → IsRequest r → r.endpoint ≢ r.first → (name : List ℕ)
    → is_private_name name ≡ true → ¬ (HasFieldLine name (head_of r))

-- the head of every request has only clean bytes, and CR LF CR LF only at its end
abbrev pub EveryHeadIsClean : Type 0
EveryHeadIsClean =
    (r : RequestValue) → IsRequest r → IsClean r.method r.url (told r.first r.url r.settings) × EndsOnce (head_of r)

-- what follows keeps the first endpoint of its chain, how long it may take, and how many redirects are followed
abbrev pub ChainKeeps : Type 0
ChainKeeps =
    (r next : RequestValue) (status : ℕ) (location : List ℕ) → next_request r status location ≡ Ok next
    → (next.first ≡ r.first) × (next.timeout_ms ≡ r.settings.timeout_ms)
    × (next.settings.max_redirects ≡ r.settings.max_redirects)

-- what follows a request is a request as any other
abbrev pub NextIsRequest : Type 0
NextIsRequest =
    (r next : RequestValue) (status : ℕ) (location : List ℕ) → IsRequest r → IsValid next.url
    → next_request r status location ≡ Ok next → IsRequest next
