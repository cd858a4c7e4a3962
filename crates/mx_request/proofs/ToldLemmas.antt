-- Which of the caller's fields an endpoint is sent.
use Rattle.std.proofs.Common.{◌≡◌, ℕ, ◌+◌, ◌<◌, ◌≤◌, get_or, take, map, append_assoc, Bool, true, false, not, ◌&&◌, ◌||◌, cond, List, [], ◌∷◌, ◌++◌, length, filter, nat_le, None, refl, sym, ap, ◌∙◌, arith}
use Rattle.std.specs.Prelude.{codes, bytes_eq, if◌then◌else◌, String}
use Rattle.std.proofs.lemmas.List.{map_more}
use Rattle.std.specs.List.{list_all, list_any}
use Rattle.std.specs.Option.{option_map_or}
use Rattle.std.specs.Str.{str_eq_ignore_ascii_case, str_to_ascii_lowercase}
use Rattle.std.proofs.lemmas.Bool.{and_parts, both_ways, cond_both, eq-eqb, or_right, and_from, not_from_false, false_from_ne_true}
use Rattle.std.proofs.lemmas.Bool.Decides.{nat_tests}
use Rattle.std.proofs.lemmas.Slice.Eq.{bytes_eq-Decides}
use Rattle.mx_types.specs.Settings.{Field, SettingsValue, field_of}
use Rattle.mx_types.specs.declared.method.Method.{Method}
use Rattle.mx_request.specs.Endpoint.{HostAndPort, is_same_endpoint}
use Rattle.mx_request.specs.Fields.{is_field, is_field_value, are_fields}
use Rattle.mx_request.specs.Redirects.{becomes_get, next_settings}
use Rattle.mx_request.specs.Request.{is_body_too_large, refusal_of, request_to, chained}
use Rattle.mx_request.specs.RequestBytes.{endpoint_of, is_accept, accept_fields, is_private_name, is_private, told_fields, told, request_bytes, request_head, body_bytes, crlf, ended, request_line, host_field, field_lines, user_agent_fields, length_fields}
use Rattle.mx_request.proofs.CleanLemmas.{allowed_parts}
use Rattle.mx_request.proofs.LineLemmas.{field_lines-append, request_head-written, request_bytes-written}
use Rattle.url.specs.Parts.{Parts}

-- ---- what passes a test

filter-append : {X : Type 0} (p : X → Bool) (xs ys : List X) → filter p (xs ++ ys) ≡ filter p xs ++ filter p ys
filter-append p [] ys = refl
filter-append p (x ∷ xs) ys =
    elim (p x) as (λ t. cond t (x ∷ filter p (xs ++ ys)) (filter p (xs ++ ys)) ≡ cond t (x ∷ filter p xs) (filter p xs) ++ filter p ys)
    [ true ↦ ap (λ l. x ∷ l) (filter-append p xs ys) | false ↦ filter-append p xs ys ]

any_filter : {X : Type 0} (p q : X → Bool) (more : (x : X) → p x ≡ true → q x ≡ true) (xs : List X) → list_any p (filter q xs) ≡ list_any p xs
any_filter p q more [] = refl
any_filter p q more (x ∷ xs) =
    elim (q x) as (λ t. q x ≡ t → list_any p (cond t (x ∷ filter q xs) (filter q xs)) ≡ (p x || list_any p xs)) [
      | true ↦ λ e. ap (λ b. p x || b) (any_filter p q more xs)
      | false ↦ λ e. any_filter p q more xs ∙ sym (ap (λ b. b || list_any p xs) (false_from_ne_true (p x) (λ t. both_ways (q x) e (more x t))))
    ] refl

all_filter : {X : Type 0} (p q : X → Bool) (xs : List X) → list_all p xs ≡ true → list_all p (filter q xs) ≡ true
all_filter p q [] h = refl
all_filter p q (x ∷ xs) h =
    let parts = and_parts (p x) _ h in
    let rest = all_filter p q xs parts.1 in
    elim (q x) as (λ t. list_all p (cond t (x ∷ filter q xs) (filter q xs)) ≡ true) [ true ↦ rw (parts.0, rest) | false ↦ rest ]

fewer_filter : {X : Type 0} (q : X → Bool) (xs : List X) → length (filter q xs) ≤ length xs
fewer_filter q [] = omega arith
fewer_filter q (x ∷ xs) =
    let rest = fewer_filter q xs in
    elim (q x) as (λ t. length (cond t (x ∷ filter q xs) (filter q xs)) ≤ length (x ∷ xs)) [ true ↦ omega (arith, rest) | false ↦ omega (arith, rest) ]

passes_filter : {X : Type 0} (q : X → Bool) (xs : List X) → list_all q (filter q xs) ≡ true
passes_filter q [] = refl
passes_filter q (x ∷ xs) =
    elim (q x) as (λ t. q x ≡ t → list_all q (cond t (x ∷ filter q xs) (filter q xs)) ≡ true) [
      | true ↦ λ e. rw (e, passes_filter q xs)
      | false ↦ λ e. passes_filter q xs
    ] refl

-- ---- fields that are sent

pub told_append : (b : Bool) (xs ys : List Field) → told_fields b (xs ++ ys) ≡ told_fields b xs ++ told_fields b ys
unfolding told_fields
told_append b xs ys = filter-append (λ field. b || not (is_private field)) xs ys

pub told-all : (fields : List Field) → told_fields true fields ≡ fields
unfolding told_fields
told-all [] = refl
told-all (f ∷ fs) = ap (λ l. f ∷ l) (told-all fs)

pub told_one : (b : Bool) (f : Field) → (b || not (is_private f)) ≡ true → told_fields b (f ∷ []) ≡ f ∷ []
unfolding told_fields
told_one b f told_it = rw told_it refl

pub told_none : (b : Bool) (f : Field) → (b || not (is_private f)) ≡ false → told_fields b (f ∷ []) ≡ []
unfolding told_fields
told_none b f untold = rw untold refl

pub told-public : (fields : List Field) → list_all (λ field. not (is_private field)) (told_fields false fields) ≡ true
unfolding told_fields
told-public fields = passes_filter (λ field. not (is_private field)) fields

-- a field named Accept isn't private
accept_public : (name : List ℕ) → str_eq_ignore_ascii_case name (codes "Accept") ≡ true → is_private_name name ≡ false
accept_public name e =
    let same = (bytes_eq-Decides (str_to_ascii_lowercase name) (str_to_ascii_lowercase (codes "Accept"))).0 e in
    ap (λ l. bytes_eq l (str_to_ascii_lowercase (codes "Authorization")) || bytes_eq l (str_to_ascii_lowercase (codes "Cookie"))) same

any_accept : (b : Bool) (fields : List Field) → list_any is_accept (told_fields b fields) ≡ list_any is_accept fields
unfolding told_fields
any_accept b fields =
    any_filter is_accept (λ field. b || not (is_private field)) (λ field a. or_right b _ (not_from_false _ (accept_public field.name a))) fields

-- whether anything is accepted doesn't depend on private fields
pub accept_told : (b : Bool) (fields : List Field) → accept_fields (told_fields b fields) ≡ accept_fields fields
accept_told b fields =
    ap (λ (t : Bool). if t then [] else record { name = codes "Accept"; value = codes "*/*" } ∷ []) (any_accept b fields)

-- ---- settings

are_fields_told : (b : Bool) (s : SettingsValue) → are_fields s ≡ true → are_fields (record s { fields = told_fields b s.fields }) ≡ true
unfolding are_fields told_fields
are_fields_told b s h =
    let q : Field → Bool = (λ field. b || not (is_private field)) in
    let parts = and_parts (nat_le (length s.fields) 64 && list_all is_field s.fields) (option_map_or is_field_value s.user_agent true) h in
    let inner = and_parts (nat_le (length s.fields) 64) (list_all is_field s.fields) parts.0 in
    and_from _ _ (and_from _ _ (less (length (filter q s.fields)) (length s.fields) (fewer_filter q s.fields) inner.0) (all_filter is_field q s.fields inner.1)) parts.1
  where
    less : (m n : ℕ) → m ≤ n → nat_le n 64 ≡ true → nat_le m 64 ≡ true
    less m n le h = grind (arith, nat_tests)

-- what is sent of settings that aren't refused isn't refused
pub told_allowed : (b : Bool) (s : SettingsValue) → refusal_of s ≡ None → refusal_of (record s { fields = told_fields b s.fields }) ≡ None
told_allowed b s h =
    let parts = allowed_parts (are_fields s) (is_body_too_large s.body) h in
    rw (are_fields_told b s parts.0, parts.1) refl

-- nor are the settings of the next request
pub next_allowed : (status : ℕ) (m : Method) (s : SettingsValue) → refusal_of s ≡ None → refusal_of (next_settings status m s) ≡ None
unfolding are_fields
next_allowed status m s h =
    let parts = allowed_parts (are_fields s) (is_body_too_large s.body) h in
    let small : is_body_too_large (if becomes_get status m then None else s.body) ≡ false =
    cond_both (becomes_get status m) None s.body (λ body. is_body_too_large body ≡ false) (λ _. refl) (λ _. parts.1) in
    rw (parts.0, small) refl

-- ---- the first endpoint

same_endpoint : (e : HostAndPort) → is_same_endpoint e e ≡ true
same_endpoint e = rw (eq-eqb e.port e.port refl, (bytes_eq-Decides e.host e.host).1 refl) refl

-- the first endpoint of a chain is sent all
pub told_first : (url : Parts) (s : SettingsValue) → told (endpoint_of url) url s ≡ s
told_first url s =
    ap (λ (b : Bool). record s { fields = told_fields b s.fields }) (same_endpoint (endpoint_of url))
    ∙ ap (λ (fields : List Field). record s { fields = fields }) (told-all s.fields)

-- a request that follows none
pub chained_first : (m : Method) (url : Parts) (s : SettingsValue) → chained (endpoint_of url) m url s ≡ request_to m url s
chained_first m url s =
    ap (λ (t : SettingsValue). record (request_to m url s) { bytes = request_bytes m url t }) (told_first url s)

-- ---- what is written

pub request_head-told : (method : Method) (url : Parts) (settings view : SettingsValue) (b : Bool) (endpoint : HostAndPort) (before line host fields all : List ℕ)
    → endpoint ≡ endpoint_of url → view ≡ settings → line ≡ before ++ ended (request_line method url) → host ≡ line ++ field_lines (host_field endpoint ∷ [])
    → fields ≡ host ++ field_lines (user_agent_fields view.user_agent ++ (accept_fields view.fields ++ (told_fields b view.fields ++ length_fields view.body)))
    → all ≡ fields ++ crlf → all ≡ before ++ request_head method url (record settings { fields = told_fields b settings.fields })
request_head-told method url settings view b endpoint before line host fields all to same first second third last =
    request_head-written method url (record settings { fields = told_fields b settings.fields }) (record view { fields = told_fields b view.fields }) endpoint before line host fields all to
    (ap (λ (s : SettingsValue). record s { fields = told_fields b s.fields }) same) first second
    (third ∙ ap (λ (a : List Field). host ++ field_lines (user_agent_fields view.user_agent ++ (a ++ (told_fields b view.fields ++ length_fields view.body)))) (sym (accept_told b view.fields)))
    last

pub request_bytes-told : (method : Method) (url : Parts) (settings view : SettingsValue) (b : Bool) (empty head all : List ℕ) → view ≡ settings → empty ≡ []
    → head ≡ empty ++ request_head method url (record settings { fields = told_fields b settings.fields }) → all ≡ head ++ body_bytes view
    → all ≡ request_bytes method url (record settings { fields = told_fields b settings.fields })
request_bytes-told method url settings view b empty head all same none first last =
    request_bytes-written method url (record settings { fields = told_fields b settings.fields }) (record view { fields = told_fields b view.fields }) empty head all
    (ap (λ (s : SettingsValue). record s { fields = told_fields b s.fields }) same) none first last

-- one field more
pub fields_more : {A : Type 0} (b : Bool) (pairs : List (String A × String A)) (i : ℕ) (x : String A × String A) (before out new : List ℕ) → i < length pairs → x ≡ get_or pairs i x
    → out ≡ before ++ field_lines (told_fields b (map field_of (take i pairs))) → new ≡ out ++ field_lines (told_fields b (field_of x ∷ []))
    → new ≡ before ++ field_lines (told_fields b (map field_of (take (i + 1) pairs)))
fields_more b pairs i x before out new less is was now =
    let more : map field_of (take (i + 1) pairs) ≡ map field_of (take i pairs) ++ field_of x ∷ [] =
    map_more field_of pairs i x less ∙ ap (λ y. map field_of (take i pairs) ++ field_of y ∷ []) (sym is) in
    now
    ∙ ap (λ (o : List ℕ). o ++ field_lines (told_fields b (field_of x ∷ []))) was
    ∙ append_assoc before (field_lines (told_fields b (map field_of (take i pairs)))) (field_lines (told_fields b (field_of x ∷ [])))
    ∙ ap (λ (l : List ℕ). before ++ l) (
    sym (field_lines-append (told_fields b (map field_of (take i pairs))) (told_fields b (field_of x ∷ [])))
    ∙ ap (λ (l : List Field). field_lines l) (sym (told_append b (map field_of (take i pairs)) (field_of x ∷ [])))
    ∙ ap (λ (l : List Field). field_lines (told_fields b l)) (sym more)
    )
