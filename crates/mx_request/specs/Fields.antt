-- Which header fields a caller may add to a request (RFC 9110, sections 5.1, 5.5 and 5.6). The limits of
-- length and number are this engine's own.
use Rattle.std.specs.Prelude.{ℕ, ◌-◌, ◌==◌, nat_lt, nat_le, Bool, true, false, not, ◌&&◌, ◌||◌, List, [], ◌∷◌, length, codes, slice_get}
use Rattle.std.specs.Char.{is_ascii_alphanumeric}
use Rattle.std.specs.List.{list_all, list_any}
use Rattle.std.specs.Option.{option_map_or}
use Rattle.std.specs.Str.{str_eq_ignore_ascii_case}
use Rattle.mx_types.specs.Settings.{Field, SettingsValue}
use Rattle.mx_request.specs.Limits.{most_value, most_fields}

-- section 5.6.2, tchar: a letter, a digit or one of these marks
abbrev pub is_token_byte : ℕ → Bool
is_token_byte b =
    is_ascii_alphanumeric b || list_any (λ mark. mark == b) (codes "!#$%&'*+-.^_`|~")

-- sections 5.1 and 5.6.2: a name is a token
abbrev pub is_token : List ℕ → Bool
is_token name = nat_lt 0 (length name) && list_all is_token_byte name

-- the names of the fields that the engine sets itself, or that speak of the connection, which is the engine's
abbrev pub reserved_names : List (List ℕ)
reserved_names =
    codes "Host" ∷ codes "User-Agent" ∷ codes "Content-Length" ∷ codes "Transfer-Encoding"
    ∷ codes "Connection" ∷ codes "Expect" ∷ codes "Upgrade" ∷ codes "TE" ∷ codes "Trailer" ∷ []

-- one of these, in any letter case
abbrev pub is_reserved : List ℕ → Bool
is_reserved name = list_any (λ reserved. str_eq_ignore_ascii_case name reserved) reserved_names

-- rule request-field-names: A field's name is a token, and in no letter case one of the nine that the engine sends itself or that are about
-- the connection.
--
-- a caller may add a field of this name
unfoldable pub is_field_name : List ℕ → Bool
is_field_name name = is_token name && not (is_reserved name)

-- section 5.5: HTAB, or a byte that is no control
abbrev pub is_value_byte : ℕ → Bool
is_value_byte b = b == 9 || (nat_le 32 b && not (b == 127))

-- section 5.6.3: SP or HTAB
abbrev pub is_blank : ℕ → Bool
is_blank b = b == 32 || b == 9

-- the byte at the place, where there is one, is SP or HTAB
abbrev pub is_blank_at : List ℕ → ℕ → Bool
is_blank_at value place = option_map_or is_blank (slice_get value place) false

-- rule request-field-values: A field's value, the user agent's too, has at most 8,192 bytes, no control but HTAB, and neither SP nor HTAB
-- at an end (RFC 9110, section 5.5).
unfoldable pub is_field_value : List ℕ → Bool
is_field_value value =
    nat_le (length value) most_value && list_all is_value_byte value && not (is_blank_at value 0)
    && not (is_blank_at value (length value - 1))

-- a caller may add this field
unfoldable pub is_field : Field → Bool
is_field field = is_field_name field.name && is_field_value field.value

-- rule request-field-count: At most 64 fields are added, each of which may be, and a user agent that is a field's value.
unfoldable pub are_fields : SettingsValue → Bool
are_fields settings =
    nat_le (length settings.fields) most_fields && list_all is_field settings.fields
    && option_map_or is_field_value settings.user_agent true
