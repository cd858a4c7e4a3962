-- Which requests are built, which follow a redirect, and which are refused.
use Rattle.std.specs.Prelude.{◌≡◌, ℕ, nat_lt, Bool, false, not, List, length, codes, bytes_eq, Option, Some, None, Result, Ok, Err, if◌then◌else◌}
use Rattle.std.specs.Option.{option_map_or}
use Rattle.mx_types.specs.Settings.{SettingsValue}
use Rattle.mx_types.specs.declared.method.Method.{Method}
use Rattle.mx_types.specs.declared.origin.Origin.{Origin}
use Rattle.mx_request.specs.Endpoint.{HostAndPort}
use Rattle.mx_request.specs.Fields.{are_fields}
use Rattle.mx_request.specs.Limits.{most_text, most_body}
use Rattle.mx_request.specs.RequestBytes.{endpoint_of, request_bytes, told}
use Rattle.mx_request.specs.declared.error.RequestError.{RequestError}
use Rattle.mx_request.specs.declared.error.RequestError.TheVariants as refusal
use Rattle.url.specs.Parts.{Parts, has_credentials, serialize, IsValid}
use Rattle.url.specs.Parser.{Parsed, parse_url}

-- What contracts see of a `Request`. `first` is the endpoint of the first request of its chain, its own where it follows none.
pub record RequestValue : Type 0 where
  pub method : Method
  pub url : Parts
  pub settings : SettingsValue
  pub first : HostAndPort
  pub endpoint : HostAndPort
  pub bytes : List ℕ
  pub timeout_ms : ℕ

-- the request as the origin of an addition or of an outcome: all that it was built from
abbrev pub request_origin : RequestValue → Origin
request_origin request = record {
  method = request.method;
  url = serialize request.url;
  settings = request.settings;
  first_host = request.first.host;
  first_port = request.first.port;
}

-- a URL that the URL Standard's parser took, or why it is refused all the same
abbrev pub checked_url : Parsed Parts → Result Parts RequestError
checked_url (Err e) = Err refusal.Malformed
checked_url (Ok url) =
    if not (bytes_eq url.scheme (codes "http")) then Err refusal.Scheme
    else (if has_credentials url then Err refusal.UserInfo
    else Ok url)

-- rule request-url-size: A URL's text has at most 65,536 bytes.
--
-- the URL of a text of at most 65,536 bytes, or why it is refused
abbrev pub url_of : List ℕ → Result Parts RequestError
url_of text =
    if nat_lt most_text (length text) then Err refusal.Malformed
    else checked_url (parse_url None text)

-- rule request-body-size: A body has at most 1,048,576 bytes.
abbrev pub is_body_too_large : Option (List ℕ) → Bool
is_body_too_large body = option_map_or (λ bytes. nat_lt most_body (length bytes)) body false

-- the request with these parts
abbrev pub request_to : Method → Parts → SettingsValue → RequestValue
request_to method url settings = record {
  method = method;
  url = url;
  settings = settings;
  first = endpoint_of url;
  endpoint = endpoint_of url;
  bytes = request_bytes method url settings;
  timeout_ms = settings.timeout_ms;
}

-- why the settings are refused, if they are
abbrev pub refusal_of : SettingsValue → Option RequestError
refusal_of settings =
    if not (are_fields settings) then Some refusal.BadField
    else (if is_body_too_large settings.body then Some refusal.BodyTooLarge
    else None)

-- the request to the URL, unless the settings are refused
abbrev pub request_unless : Option RequestError → RequestValue → Result RequestValue RequestError
request_unless None request = Ok request
request_unless (Some refused) request = Err refused

-- the request to the URL that a text gives, unless that or the settings are refused
abbrev pub request_by : Method → Result Parts RequestError → SettingsValue → Result RequestValue RequestError
request_by method (Err refused) settings = Err refused
request_by method (Ok url) settings =
    request_unless (refusal_of settings) (request_to method url settings)

-- rule request-refusals: A request is built of a method, a text and settings, or refused with the first that applies of: Malformed (3),
-- Scheme (1), UserInfo (3), BadField (3), BodyTooLarge (63). In brackets are the codes that a transfer would end with.
abbrev pub request_of : Method → List ℕ → SettingsValue → Result RequestValue RequestError
request_of method text settings = request_by method (url_of text) settings

-- the request, and the URL that it was built from
pub record IsBuiltFrom (method : Method) (text : List ℕ) (settings : SettingsValue) (request : RequestValue) : Type 0 where
  pub url : Parts
  pub parsed : url_of text ≡ Ok url
  pub valid : IsValid url
  pub allowed : refusal_of settings ≡ None
  pub value : request ≡ request_to method url settings

-- the request with these parts, in a chain whose first request went to `first`
abbrev pub chained : HostAndPort → Method → Parts → SettingsValue → RequestValue
chained first method url settings = record {
  method = method;
  url = url;
  settings = settings;
  first = first;
  endpoint = endpoint_of url;
  bytes = request_bytes method url (told first url settings);
  timeout_ms = settings.timeout_ms;
}

-- what holds of every request, built or following another
pub record IsRequest (r : RequestValue) : Type 0 where
  pub valid : IsValid r.url
  pub checked : checked_url (Ok r.url) ≡ Ok r.url
  pub allowed : refusal_of r.settings ≡ None
  pub value : r ≡ chained r.first r.method r.url r.settings
