-- What holds of the bytes of every request that is built.
use Rattle.std.specs.Prelude.{◌≡◌, ℕ, ◌==◌, ◌↔◌, nat_le, Bool, not, ◌&&◌, List, [], ◌∷◌, ◌++◌, flat_map, All}
use Rattle.std.specs.List.{AllPass}
use Rattle.mx_types.specs.Settings.{SettingsValue}
use Rattle.mx_types.specs.declared.method.Method.{Method}
use Rattle.mx_request.specs.Fields.{is_value_byte}
use Rattle.mx_request.specs.Request.{RequestValue, IsBuiltFrom, IsRequest, request_origin}
use Rattle.mx_request.specs.RequestBytes.{crlf, ended, target, request_line, endpoint_of, host_field, sent_fields, head_lines, body_bytes, request_head}
use Rattle.url.specs.Parts.{Parts}

-- no control and not DEL
abbrev pub is_printable : ℕ → Bool
is_printable b = nat_le 32 b && not (b == 127)

-- no byte below 32 and no 127 in the request line and the names, and in the values none but HTAB
pub record IsClean (method : Method) (url : Parts) (settings : SettingsValue) : Type 0 where
  pub request_line : AllPass is_printable (request_line method url)
  pub names : All (λ field. AllPass is_printable field.name) (sent_fields url settings)
  pub values : All (λ field. AllPass is_value_byte field.value) (sent_fields url settings)

-- between the CR LF of its lines a head has none but clean bytes
abbrev pub HeadIsClean : Type 0
HeadIsClean =
    (method : Method) (text : List ℕ) (settings : SettingsValue) (request : RequestValue)
    (built : IsBuiltFrom method text settings request) → IsClean method built.url settings

-- CR LF CR LF ends the head, and is nowhere before its end
pub record EndsOnce (head : List ℕ) : Type 0 where
  pub ends : (before : List ℕ) × (head ≡ before ++ (crlf ++ crlf))
  pub once : (before after : List ℕ) → head ≡ before ++ (crlf ++ (crlf ++ after)) → after ≡ []

abbrev pub EmptyLineEndsHead : Type 0
EmptyLineEndsHead =
    (method : Method) (text : List ℕ) (settings : SettingsValue) (request : RequestValue)
    (built : IsBuiltFrom method text settings request)
    → EndsOnce (request_head method built.url settings)

-- no CR LF in the line
abbrev pub IsOneLine : List ℕ → Type 0
IsOneLine line = (before after : List ℕ) → line ≡ before ++ (crlf ++ after) → ⊥

-- the bytes are these lines, each ended by CR LF
abbrev pub SplitsInto : List ℕ → List (List ℕ) → Type 0
SplitsInto bytes lines = All IsOneLine lines × (flat_map ended lines ≡ bytes)

-- split at CR LF, a head is its request line, its fields in order and the empty line, and nothing else
abbrev pub HeadSplitsIntoLines : Type 0
HeadSplitsIntoLines =
    (method : Method) (text : List ℕ) (settings : SettingsValue) (request : RequestValue)
    (built : IsBuiltFrom method text settings request) (lines : List (List ℕ))
    → SplitsInto (request_head method built.url settings) lines
    ↔ (lines ≡ head_lines method built.url settings ++ [] ∷ [])

-- two requests say the same on the wire: of methods m and n, to URLs u and v, by settings s and t
pub record IsSentAlike (m n : Method) (u v : Parts) (s t : SettingsValue) : Type 0 where
  pub method : m ≡ n
  pub same_target : target u ≡ target v
  pub host : host_field (endpoint_of u) ≡ host_field (endpoint_of v)
  pub fields : sent_fields u s ≡ sent_fields v t
  pub body : body_bytes s ≡ body_bytes t

-- equal bytes come only from what says the same
abbrev pub EqualBytesAreSentAlike : Type 0
EqualBytesAreSentAlike =
    (method other_method : Method) (text other_text : List ℕ)
    (settings other_settings : SettingsValue) (request other : RequestValue)
    (built : IsBuiltFrom method text settings request)
    (other_built : IsBuiltFrom other_method other_text other_settings other)
    → request.bytes ≡ other.bytes
    → IsSentAlike method other_method built.url other_built.url settings other_settings

-- RFC 9112, section 3.2.1: the target begins with `/`
abbrev pub TargetBeginsWithSlash : Type 0
TargetBeginsWithSlash =
    (method : Method) (text : List ℕ) (settings : SettingsValue) (request : RequestValue)
    (built : IsBuiltFrom method text settings request)
    → (rest : List ℕ) × (target built.url ≡ 47 ∷ rest)

-- requests of one origin are the same, and so are those that follow them
abbrev pub OriginIsWholeRequest : Type 0
OriginIsWholeRequest =
    (request other : RequestValue) → IsRequest request → IsRequest other → request_origin request ≡ request_origin other → request ≡ other

-- what is built is a request as any other
abbrev pub BuiltIsRequest : Type 0
BuiltIsRequest =
    (method : Method) (text : List ℕ) (settings : SettingsValue) (request : RequestValue)
    → IsBuiltFrom method text settings request → IsRequest request
