-- What a caller sets for a request.
use Rattle.std.specs.Prelude.{ℕ, List, [], Option, None, String, string_bytes}

-- a header field: its name and its value (RFC 9110, section 5)
pub record Field : Type 0 where
  pub name : List ℕ
  pub value : List ℕ

-- the field that a pair of texts is
abbrev pub field_of : {A : Type 0} → String A × String A → Field
field_of pair = record { name = string_bytes pair.0; value = string_bytes pair.1 }

-- what contracts see of `Settings`
pub record SettingsValue : Type 0 where
  pub user_agent : Option (List ℕ)
  pub fields : List Field
  pub body : Option (List ℕ)
  pub timeout_ms : ℕ
  pub max_redirects : ℕ

-- nothing is set
abbrev pub no_settings : SettingsValue
no_settings = record { user_agent = None; fields = []; body = None; timeout_ms = 0; max_redirects = 0 }
