-- What a request's bytes mean: its header fields in lines, its body, and its numbers.
use Rattle.std.specs.Prelude.{IsUtf8, ◌≡◌, ◌≢◌, ◌<◌, ◌==◌, ◌⊎◌, ◌++◌, ℕ, Bool, true, false, List, [], ◌∷◌, Option, Some, None, Err, bytes_eq, codes, length, map, min}
use Rattle.std.specs.List.{Contains, after_first, before_first, position_or_len, slice_split}
use Rattle.std.specs.Str.{IsTrimAscii}
use Rattle.std.specs.Char.{to_ascii_lowercase}
use Rattle.mx_types.specs.Method.{method_name}
use Rattle.mx_types.specs.Settings.{Field, SettingsValue, no_settings}
use Rattle.mx_types.specs.declared.code.Code.{Code}
use Rattle.mx_types.specs.declared.code.Code.TheVariants as code
use Rattle.mx_types.specs.declared.method.Method.{Method}
use Rattle.mx_request.specs.Request.{RequestValue, IsBuiltFrom, request_of}
use Rattle.mx_request.specs.RequestError.{refusal_code}
use Rattle.mx_request.specs.declared.error.RequestError.{RequestError}

-- a line feed, which ends a line, and a colon
abbrev pub is_line_feed : ℕ → Bool
is_line_feed b = b == 10

abbrev pub is_colon : ℕ → Bool
is_colon b = b == 58

-- the lines of a text; the last one may be empty
abbrev pub lines_of : List ℕ → List (List ℕ)
lines_of text = slice_split is_line_feed text

-- The header field of a line (RFC 9112, section 5): its name is what stands before the first colon, and its value what follows that,
-- without white space around it.
pub record IsFieldOf (line : List ℕ) (field : Field) : Type 0 where
  pub colon : position_or_len is_colon line < length line
  pub name : field.name ≡ before_first is_colon line
  pub value : IsTrimAscii (after_first is_colon line) field.value

-- the name is that of the user agent, in any case
abbrev pub names_user_agent : List ℕ → Bool
names_user_agent name = bytes_eq (map to_ascii_lowercase name) (codes "user-agent")

-- the settings with a field more; the user agent has a place of its own
abbrev pub with_field : Field → Bool → SettingsValue → SettingsValue
with_field field true settings = record settings { user_agent = Some field.value }
with_field field false settings = record settings { fields = settings.fields ++ field ∷ [] }

-- the line is empty but for white space, and nothing is put in; or its field is
abbrev pub IsPut : List ℕ → SettingsValue → SettingsValue → Type 0
IsPut line before after =
    (IsTrimAscii line [] × (after ≡ before))
    ⊎ ((field : Field) × IsFieldOf line field × (after ≡ with_field field (names_user_agent field.name) before))

-- so is each of the lines, one after another
abbrev pub ArePut : List (List ℕ) → SettingsValue → SettingsValue → Type 0
ArePut [] before after = after ≡ before
ArePut (line ∷ lines) before after = (mid : SettingsValue) × IsPut line before mid × ArePut lines mid after

-- What the settings are: the fields of the lines, and no others; the body; the longest time; and how many redirects are followed, of which
-- there are 255 at most.
pub record AreSettings (lines : List ℕ) (body : Option (List ℕ)) (timeout_ms max_redirects : ℕ) (settings : SettingsValue) : Type 0 where
  pub of_fields : SettingsValue
  pub put : ArePut (lines_of lines) no_settings of_fields
  pub value : settings ≡ record of_fields { body = body; timeout_ms = timeout_ms; max_redirects = min max_redirects 255 }

-- The request is built from these words: the method's name, the URL's text, the lines of the fields, the body, the longest time, and how many
-- redirects are followed.
pub record IsRequestOf (name text lines : List ℕ) (body : Option (List ℕ)) (timeout_ms max_redirects : ℕ) (request : RequestValue) : Type 0 where
  pub method : Method
  pub settings : SettingsValue
  pub named : name ≡ method_name method
  pub set : AreSettings lines body timeout_ms max_redirects settings
  pub built : IsBuiltFrom method text settings request

-- the line has something but white space, and no colon
pub record HasNoField (line : List ℕ) : Type 0 where
  pub trimmed : List ℕ
  pub trims : IsTrimAscii line trimmed
  pub filled : trimmed ≢ []
  pub no_colon : position_or_len is_colon line ≡ length line

-- The lines are no fields: they aren't UTF-8, or one has no colon.
abbrev pub AreNoFields : List ℕ → Type 0
AreNoFields lines = (¬ (IsUtf8 lines)) ⊎ ((line : List ℕ) × Contains (lines_of lines) line × HasNoField line)

-- no request can be built of what the words mean; the code is that of the refusal
pub record CantBeBuilt (name text lines : List ℕ) (body : Option (List ℕ)) (timeout_ms max_redirects : ℕ) (c : Code) : Type 0 where
  pub method : Method
  pub settings : SettingsValue
  pub why : RequestError
  pub named : name ≡ method_name method
  pub set : AreSettings lines body timeout_ms max_redirects settings
  pub refused : request_of method text settings ≡ Err why
  pub told : c ≡ refusal_code why

-- no method has that name (the six names are ASCII)
abbrev pub NamesNone : List ℕ → Type 0
NamesNone name = (¬ (IsUtf8 name)) ⊎ ((m : Method) → name ≢ method_name m)

-- Why words are refused, and the code that says so: 27 where memory is refused; 1 where no method has that name; 3 where the URL isn't UTF-8 or
-- the lines are no fields; else that of what no request can be built of.
abbrev pub RefusesWords : List ℕ → List ℕ → List ℕ → Option (List ℕ) → ℕ → ℕ → Code → Type 0
RefusesWords name text lines body timeout_ms max_redirects c =
    (c ≡ code.OutOfMemory) ⊎ (((c ≡ code.UnsupportedProtocol) × NamesNone name) ⊎ (((c ≡ code.UrlMalformat) × ((¬ (IsUtf8 text)) ⊎ AreNoFields lines))
    ⊎ CantBeBuilt name text lines body timeout_ms max_redirects c))
