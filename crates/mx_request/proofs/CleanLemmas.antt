-- The bytes of a request's lines.
use Rattle.std.proofs.Common.{◌≡◌, ℕ, ◌^◌, ◌<◌, Bool, true, false, not, ◌&&◌, ◌||◌, ◌==◌, if◌then◌else◌, List, [], ◌∷◌, ◌++◌, length, Some, None, refl, ◌∙◌, subst, ⊎_elim, arith}
use Rattle.std.specs.Prelude.{Option, codes, decimal}
use Rattle.std.specs.List.{list_all, list_any}
use Rattle.std.specs.Option.{option_map_or}
use Rattle.std.proofs.lemmas.Bool.{and_parts, both_ways, cond_both, not-true, false≢true, cases_lt, cases_eq}
use Rattle.std.proofs.lemmas.Bool.Decides.{nat_tests}
use Rattle.std.proofs.lemmas.List.Folds.{list_all-append, list_all-map}
use Rattle.std.proofs.lemmas.List.Sums.{list_all-from_AllPass}
use Rattle.mx_types.specs.Method.{method_name}
use Rattle.mx_types.specs.Settings.{Field, SettingsValue}
use Rattle.mx_types.specs.declared.method.Method.{Method}
use Rattle.mx_types.specs.declared.method.Method.TheVariants as method
use Rattle.mx_request.specs.Fields.{is_token_byte, is_token, is_field_name, is_value_byte, is_field_value, is_field, are_fields}
use Rattle.mx_request.specs.Laws.{is_printable}
use Rattle.mx_request.specs.Request.{is_body_too_large, refusal_of}
use Rattle.mx_request.specs.RequestBytes.{target, request_line, endpoint_of, host_field, user_agent_fields, is_accept, accept_fields, length_fields, settings_fields, sent_fields, field_line, head_lines}
use Rattle.mx_request.specs.declared.error.RequestError.TheVariants as refusal
use Rattle.mx_request.proofs.SplitLemmas.{is_begun, is_line}
use Rattle.mx_request.proofs.UrlLemmas.{target_prints, host_field_prints, decimal_prints}
use Rattle.url.proofs.SetLemmas.{checked}
use Rattle.url.specs.Parts.{Parts, IsValid}

-- ---- tests of lists

pub weaker : {X : Type 0} (p q : X → Bool) → ((x : X) → p x ≡ true → q x ≡ true) → (xs : List X) → list_all p xs ≡ true → list_all q xs ≡ true
weaker p q more [] h = refl
weaker p q more (x ∷ xs) h =
    let parts = and_parts (p x) _ h in rw (more x parts.0, weaker p q more xs parts.1)

pub both : {X : Type 0} (p : X → Bool) (xs ys : List X) → list_all p xs ≡ true → list_all p ys ≡ true → list_all p (xs ++ ys) ≡ true
both p xs ys h k = rw (list_all-append p xs ys, h, k)

-- ---- bytes

-- a byte of a token is no control
pub token_prints : (b : ℕ) → is_token_byte b ≡ true → is_printable b ≡ true
token_prints b token =
    ⊎_elim
    (λ low. absurd (both_ways (is_token_byte b) (not-true _ (checked (λ x. not (is_token_byte x)) 32 refl b low)) token))
    (λ high. ⊎_elim
    (λ delete. absurd (both_ways (is_token_byte 127) refl (subst (λ x. is_token_byte x ≡ true) delete token)))
    (λ other. grind (arith, nat_tests))
    (cases_eq b 127))
    (cases_lt b 32)

-- a byte that prints may be in a value
pub prints_value : (b : ℕ) → is_printable b ≡ true → is_value_byte b ≡ true
prints_value b prints = elim (b == 9) as (λ t. (t || is_printable b) ≡ true) [ true ↦ refl | false ↦ prints ]

-- ---- fields

-- a name that is a token, and a value of bytes that a value may have
abbrev pub is_sent : Field → Bool
is_sent field = is_token field.name && list_all is_value_byte field.value

value_bytes : (value : List ℕ) → is_field_value value ≡ true → list_all is_value_byte value ≡ true
unfolding is_field_value
value_bytes value h = (and_parts _ _ (and_parts _ _ (and_parts _ _ h).0).0).1

field_sent : (field : Field) → is_field field ≡ true → is_sent field ≡ true
unfolding is_field is_field_name
field_sent field h =
    let parts = and_parts _ _ h in
    let named : is_token field.name ≡ true = (and_parts (is_token field.name) _ parts.0).0 in
    rw (named, value_bytes field.value parts.1)

pub allowed_parts : (a b : Bool) → (if not a then Some refusal.BadField else (if b then Some refusal.BodyTooLarge else None)) ≡ None → (a ≡ true) × (b ≡ false)
allowed_parts true true e = cc
allowed_parts true false e = (refl, refl)
allowed_parts false b e = cc

agent_sent : (agent : Option (List ℕ)) → option_map_or is_field_value agent true ≡ true → list_all is_sent (user_agent_fields agent) ≡ true
agent_sent None h = refl
agent_sent (Some agent) h = rw (value_bytes agent h)

accept_sent : (fields : List Field) → list_all is_sent (accept_fields fields) ≡ true
accept_sent fields =
    cond_both (list_any is_accept fields) [] (record { name = codes "Accept"; value = codes "*/*" } ∷ []) (λ fs. list_all is_sent fs ≡ true) (λ _. refl) (λ _. refl)

length_sent : (body : Option (List ℕ)) → is_body_too_large body ≡ false → list_all is_sent (length_fields body) ≡ true
length_sent None small = refl
length_sent (Some body) small =
    let few : length body < 2 ^ 64 = grind (arith, nat_tests) in
    rw (weaker is_printable is_value_byte prints_value (decimal (length body)) (list_all-from_AllPass is_printable (decimal (length body)) (decimal_prints (length body) few)))

settings_sent : (settings : SettingsValue) → are_fields settings ≡ true → is_body_too_large settings.body ≡ false → list_all is_sent (settings_fields settings) ≡ true
unfolding are_fields
settings_sent settings fields body =
    let parts = and_parts _ _ fields in
    let own = weaker is_field is_sent field_sent settings.fields (and_parts _ _ parts.0).1 in
    both is_sent (user_agent_fields settings.user_agent) _ (agent_sent settings.user_agent parts.1)
    (both is_sent (accept_fields settings.fields) _ (accept_sent settings.fields)
    (both is_sent settings.fields _ own (length_sent settings.body body)))

-- each field that goes out has a token for its name, and a value of bytes that a value may have
pub fields_sent : (url : Parts) (settings : SettingsValue) → IsValid url → refusal_of settings ≡ None → list_all is_sent (sent_fields url settings) ≡ true
fields_sent url settings valid allowed =
    let parts = allowed_parts (are_fields settings) (is_body_too_large settings.body) allowed in
    let host = weaker is_printable is_value_byte prints_value (host_field (endpoint_of url)).value (list_all-from_AllPass is_printable (host_field (endpoint_of url)).value (host_field_prints url valid)) in
    rw (host, settings_sent settings parts.0 parts.1)

-- ---- lines

pub method_token : (m : Method) → list_all is_token_byte (method_name m) ≡ true
method_token method.Get = refl
method_token method.Head = refl
method_token method.Post = refl
method_token method.Put = refl
method_token method.Delete = refl
method_token method.Options = refl

-- the request line prints
pub request_line_prints : (m : Method) (url : Parts) → IsValid url → url.scheme ≡ codes "http" → list_all is_printable (request_line m url) ≡ true
request_line_prints m url valid scheme =
    let named = weaker is_token_byte is_printable token_prints (method_name m) (method_token m) in
    let aimed = list_all-from_AllPass is_printable (target url) (target_prints url valid scheme) in
    both is_printable (method_name m) _ named (both is_printable (target url) (codes " HTTP/1.1") aimed refl)

request_line_begun : (m : Method) (rest : List ℕ) → is_begun (method_name m ++ rest) ≡ true
request_line_begun method.Get rest = refl
request_line_begun method.Head rest = refl
request_line_begun method.Post rest = refl
request_line_begun method.Put rest = refl
request_line_begun method.Delete rest = refl
request_line_begun method.Options rest = refl

name_begun : (name rest : List ℕ) → is_token name ≡ true → is_begun (name ++ rest) ≡ true
name_begun [] rest token = absurd (false≢true token)
name_begun (x ∷ name) rest token = refl

field_is_line : (field : Field) → is_sent field ≡ true → is_line (field_line field) ≡ true
field_is_line field sent =
    let parts = and_parts (is_token field.name) _ sent in
    let name = weaker is_token_byte is_value_byte (λ b token. prints_value b (token_prints b token)) field.name (and_parts _ _ parts.0).1 in
    rw (name_begun field.name (58 ∷ 32 ∷ field.value) parts.0, both is_value_byte field.name (58 ∷ 32 ∷ field.value) name parts.1)

-- each line of the head is a line
pub lines_are_lines : (m : Method) (url : Parts) (settings : SettingsValue) → IsValid url → url.scheme ≡ codes "http" → refusal_of settings ≡ None → list_all is_line (head_lines m url settings) ≡ true
lines_are_lines m url settings valid scheme allowed =
    let fields = list_all-map is_line field_line (sent_fields url settings) ∙ weaker is_sent (λ field. is_line (field_line field)) field_is_line (sent_fields url settings) (fields_sent url settings valid allowed) in
    let line = weaker is_printable is_value_byte prints_value (request_line m url) (request_line_prints m url valid scheme) in
    rw (request_line_begun m (32 ∷ (target url ++ codes " HTTP/1.1")), line, fields)
