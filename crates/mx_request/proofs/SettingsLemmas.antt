-- What the settings' own texts say of what contracts see.
use Rattle.std.proofs.Common.{◌≡◌, ◌&&◌, true, nat_le, List, length, map, option_map, string_bytes}
use Rattle.std.specs.Prelude.{Bool, Option, String}
use Rattle.std.specs.List.{list_all}
use Rattle.std.specs.Option.{option_map_or}
use Rattle.std.proofs.lemmas.List.{length-map}
use Rattle.std.proofs.lemmas.List.Folds.{list_all-map}
use Rattle.mx_types.specs.Settings.{SettingsValue, field_of}
use Rattle.mx_request.specs.Fields.{is_field, is_field_value, are_fields}

-- the test of the settings is that of the pairs and that of the user agent
pub are_fields-pairs : {A : Type 0} (s : SettingsValue) (pairs : List (String A × String A)) (agent : Option (String A)) (extra : Bool) → s.fields ≡ map field_of pairs → s.user_agent ≡ option_map string_bytes agent → extra ≡ (nat_le (length pairs) 64 && list_all (λ pair. is_field (field_of pair)) pairs) → are_fields s ≡ (extra && option_map_or is_field_value (option_map string_bytes agent) true)
unfolding are_fields
are_fields-pairs s pairs agent extra fields user_agent tested =
    rw (tested, fields, user_agent, length-map pairs field_of, list_all-map is_field field_of pairs)
