-- Which option gave what no request may have.
use Rattle.std.proofs.Common.{◌≡◌, ℕ, Bool, true, false, not, ◌&&◌, List, length, nat_le, Some, None, refl, ap}
use Rattle.std.specs.Prelude.{codes, Option, if◌then◌else◌}
use Rattle.std.proofs.lemmas.Bool.{and_parts, and_from}
use Rattle.std.specs.List.{list_all}
use Rattle.std.specs.Option.{option_map_or}
use Rattle.mx_types.specs.Settings.{SettingsValue}
use Rattle.mx_request.specs.Fields.{is_field, is_field_value, are_fields}
use Rattle.mx_request.specs.Request.{is_body_too_large, refusal_of}
use Rattle.mx_request.specs.declared.error.RequestError.{RequestError}
use Rattle.mx_request.specs.declared.error.RequestError.TheVariants as refusal
use Rattle.mx_run_save.specs.Asked.{option_name, refused_option}

-- by whether the fields may be sent without the user agent, and with it, and whether the body is too large

abbrev refusal_by : Bool → Bool → Option RequestError
refusal_by fields large = if not fields then Some refusal.BadField else (if large then Some refusal.BodyTooLarge else None)

abbrev option_by : Bool → Bool → Bool → Option (List ℕ)
option_by alone fields large =
    if not alone then Some (codes "-H")
    else (if not fields then Some (codes "--user-agent")
    else (if large then Some (codes "--data")
    else None))

without : (s : SettingsValue) → are_fields s ≡ true → are_fields (record s { user_agent = None }) ≡ true
unfolding are_fields
without s h =
    let parts = and_parts (nat_le (length s.fields) 64 && list_all is_field s.fields) (option_map_or is_field_value s.user_agent true) h in
    and_from _ _ parts.0 refl

named_by : (a f l : Bool) (why : RequestError) → (f ≡ true → a ≡ true) → refusal_by f l ≡ Some why → option_by a f l ≡ Some (option_name why (refusal_by a l))
named_by false false l why more e = let same : refusal.BadField ≡ why = cc in ap (λ w. Some (option_name w (Some refusal.BadField))) same
named_by true false true why more e = let same : refusal.BadField ≡ why = cc in ap (λ w. Some (option_name w (Some refusal.BodyTooLarge))) same
named_by true false false why more e = let same : refusal.BadField ≡ why = cc in ap (λ w. Some (option_name w None)) same
named_by true true true why more e = let same : refusal.BodyTooLarge ≡ why = cc in ap (λ w. Some (option_name w (Some refusal.BodyTooLarge))) same
named_by false true l why more e = let never = more refl in cc
named_by true true false why more e = cc

pub named : (s : SettingsValue) (why : RequestError) → refusal_of s ≡ Some why
    → refused_option s ≡ Some (option_name why (refusal_of (record s { user_agent = None })))
named s why e = named_by (are_fields (record s { user_agent = None })) (are_fields s) (is_body_too_large s.body) why (without s) e
