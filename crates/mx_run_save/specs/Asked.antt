-- What is asked of each URL, by what `save` is asked for.
use Rattle.std.specs.Prelude.{◌≡◌, ◌≢◌, ⊤, ℕ, ◌<◌, true, false, not, List, length, map, codes, Option, Some, None, option_map, if◌then◌else◌}
use Rattle.mx_types.specs.Settings.{Field, SettingsValue}
use Rattle.mx_request.specs.Fields.{are_fields}
use Rattle.mx_request.specs.Request.{is_body_too_large, refusal_of}
use Rattle.mx_request.specs.declared.error.RequestError.{RequestError}
use Rattle.mx_request.specs.declared.error.RequestError.TheVariants as refusal
use Rattle.mx_command.specs.declared.save.BodySource.{BodySource}
use Rattle.mx_command.specs.declared.save.BodySource.TheVariants.{Text, File}
use Rattle.mx_command.specs.declared.save.Header.{Header}
use Rattle.mx_command.specs.declared.save.Save.{Save}
use Rattle.mx_save_rules.specs.declared.asking.Asking.{Asking}

-- a header field
abbrev pub field_given : Header → Field
field_given header = record { name = header.name.now; value = header.value.now }

-- the settings of each request, with that body
abbrev pub settings_given : Save → Option (List ℕ) → SettingsValue
settings_given save body = record {
  user_agent = option_map (λ t. t.now) save.user_agent;
  fields = map field_given save.headers.items;
  body = body;
  timeout_ms = save.numbers.options.timeout_ms;
  max_redirects = save.numbers.options.max_redirects;
}

-- a text is the body itself; of a file it isn't known which bytes it has
abbrev pub IsBodyOf : Option BodySource → Option (List ℕ) → Type 0
IsBodyOf None body = body ≡ None
IsBodyOf (Some (Text text)) body = body ≡ Some text.now
IsBodyOf (Some (File path)) body = (bytes : List ℕ) × (body ≡ Some bytes)

-- the body is that of a file
abbrev pub IsBodyFile : Option BodySource → Type 0
IsBodyFile (Some (File path)) = ⊤
IsBodyFile _ = ⊥

-- no request may have what is asked for, whatever its URL
abbrev pub IsRefusedAlways : Save → Type 0
IsRefusedAlways save = (body : Option (List ℕ)) × IsBodyOf save.body body × (refusal_of (settings_given save body) ≢ None)

-- rule save-settings: Header fields, a user agent and a body that no request may have are refused once, before anything is fetched, with 120
-- and the option that gave them.
--
-- the option that gave what no request may have
abbrev pub refused_option : SettingsValue → Option (List ℕ)
refused_option settings =
    if not (are_fields (record settings { user_agent = None })) then Some (codes "-H")
    else (if not (are_fields settings) then Some (codes "--user-agent")
    else (if is_body_too_large settings.body then Some (codes "--data")
    else None))

-- its name, by why the settings are refused, and why they are without the user agent
abbrev pub option_name : RequestError → Option RequestError → List ℕ
option_name refusal.BodyTooLarge without_agent = codes "--data"
option_name why (Some refusal.BadField) = codes "-H"
option_name why without_agent = codes "--user-agent"

-- a body of so many bytes is too large for a request, and a shorter one isn't
pub record IsOneTooMany (n : ℕ) : Type 0 where
  pub too_many : (bytes : List ℕ) → length bytes ≡ n → is_body_too_large (Some bytes) ≡ true
  pub fits : (bytes : List ℕ) → length bytes < n → is_body_too_large (Some bytes) ≡ false

-- rule save-limit
-- each request has what is asked for, and so has what is done with what comes of it; no request is refused for what it is to have
pub record IsAskedBy (save : Save) (asking : Asking) : Type 0 where
  pub method : asking.method ≡ save.method
  pub body : IsBodyOf save.body asking.settings.body
  pub settings : asking.settings ≡ settings_given save asking.settings.body
  pub allowed : refusal_of asking.settings ≡ None
  pub retries : asking.retries ≡ save.numbers.retries
  pub most_bytes : asking.most_bytes ≡ save.numbers.most_bytes
  pub skip_existing : asking.skip_existing ≡ save.flags.skip_existing
  pub content_on_error : asking.content_on_error ≡ save.flags.content_on_error
