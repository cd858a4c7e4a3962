-- The bytes of a request (RFC 9112, sections 2.1, 3 and 5).
use Rattle.std.specs.Prelude.{ℕ, ◌==◌, Bool, not, ◌||◌, filter, List, [], ◌∷◌, ◌++◌, length, map, flat_map, codes, decimal, Option, Some, None, unwrap_or, option_map, if◌then◌else◌}
use Rattle.std.specs.List.{list_any}
use Rattle.std.specs.Str.{str_eq_ignore_ascii_case}
use Rattle.mx_types.specs.Method.{method_name}
use Rattle.mx_types.specs.Settings.{Field, SettingsValue}
use Rattle.mx_types.specs.declared.method.Method.{Method}
use Rattle.mx_request.specs.Endpoint.{HostAndPort, is_same_endpoint}
use Rattle.url.specs.Parts.{Parts, nonempty_host}
use Rattle.url.specs.Host.{host_text}

-- the end of a line: CR LF
abbrev pub crlf : List ℕ
crlf = 13 ∷ 10 ∷ []

-- a line and its end
abbrev pub ended : List ℕ → List ℕ
ended line = line ++ crlf

-- `?` and the query, where the URL has one, an empty one too
abbrev pub query_text : Option (List ℕ) → List ℕ
query_text None = []
query_text (Some query) = codes "?" ++ query

-- RFC 9112, section 3.2.1: the path and the query; the fragment is not sent
abbrev pub target : Parts → List ℕ
target url = url.path ++ query_text url.query

-- section 3: the method, SP, the target, SP, the version
abbrev pub request_line : Method → Parts → List ℕ
request_line method url = method_name method ++ (codes " " ++ (target url ++ codes " HTTP/1.1"))

-- where the request goes: the host as the URL writes it, and the port, 80 where the URL gives none
abbrev pub endpoint_of : Parts → HostAndPort
endpoint_of url = record {
  host = unwrap_or (option_map host_text (nonempty_host url)) [];
  port = unwrap_or url.port 80;
}

-- `:` and the port, where it is not 80
abbrev pub port_text : ℕ → List ℕ
port_text port = if port == 80 then [] else codes ":" ++ decimal port

-- rule request-host: The host line names the port unless it is 80 (RFC 9110, section 7.2); an empty query stays, a fragment doesn't.
abbrev pub host_field : HostAndPort → Field
host_field endpoint = record {
  name = codes "Host";
  value = endpoint.host ++ port_text endpoint.port;
}

-- RFC 9110, section 10.1.5: where a user agent is set
abbrev pub user_agent_fields : Option (List ℕ) → List Field
user_agent_fields None = []
user_agent_fields (Some agent) = record { name = codes "User-Agent"; value = agent } ∷ []

-- the field is named Accept, in any letter case
abbrev pub is_accept : Field → Bool
is_accept field = str_eq_ignore_ascii_case field.name (codes "Accept")

-- rule request-accept: `Accept: */*` is sent first, unless the caller has an Accept field (RFC 9110, section 12.5.1).
abbrev pub accept_fields : List Field → List Field
accept_fields fields =
    if list_any is_accept fields then []
    else record { name = codes "Accept"; value = codes "*/*" } ∷ []

-- rule request-body-length: A body's length is sent wherever a body was given, also an empty one (RFC 9110, section 8.6).
abbrev pub length_fields : Option (List ℕ) → List Field
length_fields None = []
length_fields (Some body) =
    record { name = codes "Content-Length"; value = decimal (length body) } ∷ []

-- the fields that the settings add, in order
abbrev pub settings_fields : SettingsValue → List Field
settings_fields settings =
    user_agent_fields settings.user_agent ++ (accept_fields settings.fields ++ (settings.fields
    ++ length_fields settings.body))

-- credentials (RFC 9110, section 11.6.2) and cookies (RFC 6265, section 4.2), by their name in any letter case
abbrev pub is_private_name : List ℕ → Bool
is_private_name name =
    str_eq_ignore_ascii_case name (codes "Authorization") || str_eq_ignore_ascii_case name (codes "Cookie")

-- a field of such a name
abbrev pub is_private : Field → Bool
is_private field = is_private_name field.name

-- rule redirect-private-fields: Authorization and Cookie go to the endpoint of the chain's first request alone.
--
-- the caller's fields that an endpoint is sent: all, where it is the first of its chain, and else those that aren't private
unfoldable pub told_fields : Bool → List Field → List Field
told_fields is_first fields = filter (λ field. is_first || not (is_private field)) fields

-- what the endpoint of the URL is sent of the settings, in a chain whose first request went to `first`
abbrev pub told : HostAndPort → Parts → SettingsValue → SettingsValue
told first url settings = record settings {
  fields = told_fields (is_same_endpoint (endpoint_of url) first) settings.fields;
}

-- the fields as they are sent, in order
abbrev pub sent_fields : Parts → SettingsValue → List Field
sent_fields url settings = host_field (endpoint_of url) ∷ settings_fields settings

-- RFC 9112, section 5: the name, `:`, SP, the value
abbrev pub field_line : Field → List ℕ
field_line field = field.name ++ (codes ": " ++ field.value)

-- the lines of fields, each with its end
abbrev pub field_lines : List Field → List ℕ
field_lines fields = flat_map ended (map field_line fields)

-- the lines before the empty one
abbrev pub head_lines : Method → Parts → SettingsValue → List (List ℕ)
head_lines method url settings =
    request_line method url ∷ map field_line (sent_fields url settings)

-- each line with its end, and then the empty line
unfoldable pub request_head : Method → Parts → SettingsValue → List ℕ
request_head method url settings = flat_map ended (head_lines method url settings) ++ crlf

-- the body as it is sent
abbrev pub body_bytes : SettingsValue → List ℕ
body_bytes settings = unwrap_or settings.body []

-- the head and the body, with nothing after it
unfoldable pub request_bytes : Method → Parts → SettingsValue → List ℕ
request_bytes method url settings = request_head method url settings ++ body_bytes settings
