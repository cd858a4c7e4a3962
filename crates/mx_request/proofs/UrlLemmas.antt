-- What a URL of scheme `http` is made of.
use Rattle.std.proofs.Common.{◌≡◌, ℕ, ◌^◌, ◌<◌, Bool, true, false, not, ◌==◌, if◌then◌else◌, List, [], ◌∷◌, ◌++◌, length, Some, None, Ok, Err, All, refl, sym, ap, ◌∙◌, subst, arith, lit<}
use Rattle.std.specs.Prelude.{Option, MatchOption, codes, bytes_eq, decimal, option_map, unwrap_or, IfSome, Result}
use Rattle.std.specs.Int.{IsInRange}
use Rattle.std.proofs.lemmas.Bool.{cond_both}
use Rattle.std.proofs.lemmas.Bool.Decides.{nat_tests}
use Rattle.std.proofs.lemmas.List.Elements.{All-nil, All-cons, All-append, All-weaker}
use Rattle.std.proofs.lemmas.Slice.Eq.{bytes_eq-Decides}
use Rattle.mx_request.specs.Request.{checked_url, url_of}
use Rattle.mx_request.specs.RequestBytes.{query_text, target, endpoint_of, port_text, host_field}
use Rattle.mx_request.specs.Laws.{is_printable}
use Rattle.mx_request.specs.declared.error.RequestError.{RequestError}
use Rattle.mx_request.specs.declared.error.RequestError.TheVariants as refusal
use Rattle.percent_encoding.specs.declared.ascii_set.TheConstants.{CONTROLS}
use Rattle.percent_encoding.specs.Percent.{IsKept}
use Rattle.url.specs.declared.host.Host.{Host}
use Rattle.url.specs.declared.host.Host.TheVariants.{Domain}
use Rattle.url.specs.declared.scheme.SchemeType.{SchemeType}
use Rattle.url.specs.declared.scheme.SchemeType.TheVariants.{SpecialNotFile}
use Rattle.url.specs.declared.sets.TheConstants.{PATH, SPECIAL_QUERY, FORBIDDEN_DOMAIN}
use Rattle.url.specs.Host.{host_text, is_empty_host, IsHostOf}
use Rattle.url.specs.Parser.{Parsed, parse_url}
use Rattle.url.specs.Parts.{Parts, kind_of, has_credentials, query_set, serialize, IsPortOf, IsHierarchicalPath, IsValid, IsValidHead}
use Rattle.url.specs.Path.{join_segments}
use Rattle.url.specs.Scheme.{default_port, scheme_type, is_special}
use Rattle.url.proofs.HostLemmas.{All-host_text}
use Rattle.url.proofs.HostRoundTrip.{All-decimal}
use Rattle.url.proofs.SetLemmas.{passes_from_kept}
use Rattle.url.proofs.Theorems.{parse_url-serialize_special}
use Rattle.url.proofs.ValidLemmas.{segment_list_kept, special_has_authority, base_from_authority, hierarchical}

picked : (a c : Bool) (u url : Parts) → (if not a then Err refusal.Scheme else (if c then Err refusal.UserInfo else Ok u)) ≡ Ok url → (a ≡ true) × (u ≡ url)
picked true true u url e = cc
picked true false u url e = (refl, cc)
picked false c u url e = cc

taken : (r : Parsed Parts) (url : Parts) → checked_url r ≡ Ok url → bytes_eq url.scheme (codes "http") ≡ true
taken (Err x) url e = cc
taken (Ok u) url e =
    let parts = picked (bytes_eq u.scheme (codes "http")) (has_credentials u) u url e in
    subst (λ (v : Parts). bytes_eq v.scheme (codes "http") ≡ true) parts.1 parts.0

-- a URL that was checked is of that scheme
pub scheme_of : (url : Parts) → checked_url (Ok url) ≡ Ok url → url.scheme ≡ codes "http"
scheme_of url e = (bytes_eq-Decides url.scheme (codes "http")).0 (taken (Ok url) url e)

-- and is checked as it is
pub checked_again : (u url : Parts) → checked_url (Ok u) ≡ Ok url → checked_url (Ok url) ≡ Ok url
checked_again u url e =
    let parts = picked (bytes_eq u.scheme (codes "http")) (has_credentials u) u url e in
    subst (λ (v : Parts). checked_url (Ok v) ≡ Ok url) parts.1 e

limited : (b : Bool) (r : Result Parts RequestError) (url : Parts) → (if b then Err refusal.Malformed else r) ≡ Ok url → r ≡ Ok url
limited true r url e = cc
limited false r url e = e

-- a URL that a text gives was checked
pub parsed_checked : (text : List ℕ) (url : Parts) → url_of text ≡ Ok url → checked_url (Ok url) ≡ Ok url
parsed_checked text url e = again (parse_url None text) (limited _ _ url e)
  where
    again : (p : Parsed Parts) → checked_url p ≡ Ok url → checked_url (Ok url) ≡ Ok url
    again (Err x) e = cc
    again (Ok u) e = checked_again u url e

-- the scheme of a URL that is taken is `http`
pub http_scheme : (text : List ℕ) (url : Parts) → url_of text ≡ Ok url → url.scheme ≡ codes "http"
http_scheme text url e =
    (bytes_eq-Decides url.scheme (codes "http")).0 (taken (parse_url None text) url (limited _ _ url e))

http_kind : (url : Parts) → url.scheme ≡ codes "http" → kind_of url ≡ SpecialNotFile
unfolding scheme_type default_port
http_kind url scheme = ap scheme_type scheme

-- what such a URL is written as is parsed to it again
written : (url : Parts) → IsValid url → checked_url (Ok url) ≡ Ok url → parse_url None (serialize url) ≡ Ok url
written url valid checked = parse_url-serialize_special url None valid (http_kind url (scheme_of url checked))

-- two of them that are written alike are the same
pub same_url : (u v : Parts) → IsValid u → checked_url (Ok u) ≡ Ok u → IsValid v → checked_url (Ok v) ≡ Ok v → serialize u ≡ serialize v → u ≡ v
same_url u v valid checked other_valid other_checked same =
    let both = sym (written u valid checked) ∙ ap (parse_url None) same ∙ written v other_valid other_checked in
    cc

http_path : (url : Parts) → IsValid url → kind_of url ≡ SpecialNotFile → IsHierarchicalPath (kind_of url) url.path
http_path url valid kind =
    hierarchical url valid.path (base_from_authority url (special_has_authority url valid.head (ap is_special kind)))

-- the path begins with `/`
slash_first : (segments : List (List ℕ)) → 0 < length (join_segments segments) → (rest : List ℕ) × (join_segments segments ≡ 47 ∷ rest)
slash_first [] long = absurd (omega arith)
slash_first (s ∷ segments) long = (s ++ join_segments segments, refl)

pub target_slash : (url : Parts) → IsValid url → url.scheme ≡ codes "http" → (rest : List ℕ) × (target url ≡ 47 ∷ rest)
target_slash url valid scheme =
    let kind = http_kind url scheme in
    let path = http_path url valid kind in
    let first = slash_first path.0.segments (subst (λ p. 0 < length p) path.0.joined (path.1 (ap is_special kind))) in
    (first.0 ++ query_text url.query, ap (λ p. p ++ query_text url.query) (path.0.joined ∙ first.1))

-- ---- no control and no DEL

abbrev Prints : ℕ → Type 0
Prints b = is_printable b ≡ true

prints_query : (kind : SchemeType) (query : Option (List ℕ)) → kind ≡ SpecialNotFile → IfSome query (All (IsKept (query_set kind))) → All Prints (query_text query)
prints_query kind None is kept = All-nil Prints
prints_query kind (Some query) is kept =
    All-cons Prints 63 query refl (All-weaker (IsKept SPECIAL_QUERY) Prints (passes_from_kept SPECIAL_QUERY is_printable refl) query (subst (λ k. All (IsKept (query_set k)) query) is kept))

-- the target prints
pub target_prints : (url : Parts) → IsValid url → url.scheme ≡ codes "http" → All Prints (target url)
target_prints url valid scheme =
    let kind = http_kind url scheme in
    let path = http_path url valid kind in
    All-append Prints url.path (query_text url.query) (All-weaker (IsKept PATH) Prints (passes_from_kept PATH is_printable refl) url.path (segment_list_kept (kind_of url) url.path path.0)) (prints_query (kind_of url) url.query kind valid.query)

host_prints : (kind : SchemeType) (host : Host (List ℕ)) → IsHostOf kind host → All Prints (host_text host)
host_prints kind host valid =
    All-host_text Prints kind host (passes_from_kept FORBIDDEN_DOMAIN is_printable refl) (λ b allowed shown. passes_from_kept CONTROLS is_printable refl b shown) (λ b digit. grind (arith, nat_tests)) (λ b hex. grind (arith, nat_tests)) refl refl valid

abbrev shown_host : Option (Host (List ℕ)) → List ℕ
shown_host host = unwrap_or (option_map host_text host) []

host_cases : (kind : SchemeType) (host : Option (Host (List ℕ))) → MatchOption host (is_special kind ≡ false) (IsHostOf kind) → All Prints (shown_host (if not (is_empty_host (unwrap_or host (Domain []))) then host else None))
host_cases kind None valid = All-nil Prints
host_cases kind (Some host) valid =
    cond_both (not (is_empty_host host)) (Some host) None (λ o. All Prints (shown_host o)) (λ _. host_prints kind host valid) (λ _. All-nil Prints)

endpoint_prints : (url : Parts) → IsValidHead url → All Prints (endpoint_of url).host
endpoint_prints url valid =
    host_cases (kind_of url) url.host valid.host

-- a number prints
pub decimal_prints : (n : ℕ) → n < 2 ^ 64 → All Prints (decimal n)
decimal_prints n small = All-weaker (IsInRange 48 57) Prints (λ b digit. grind (arith, nat_tests)) (decimal n) (All-decimal n small)

port_prints : (port : ℕ) → port < 2 ^ 16 → All Prints (port_text port)
port_prints port small =
    cond_both (port == 80) [] (58 ∷ decimal port) (All Prints) (λ _. All-nil Prints) (λ _. All-cons Prints 58 (decimal port) refl (decimal_prints port (omega arith)))

port_small : (scheme : List ℕ) (port : Option ℕ) → IsPortOf scheme port → unwrap_or port 80 < 2 ^ 16
port_small scheme None valid = lit< tt
port_small scheme (Some port) valid = valid.0

-- the value of Host prints
pub host_field_prints : (url : Parts) → IsValid url → All Prints (host_field (endpoint_of url)).value
host_field_prints url valid =
    All-append Prints (endpoint_of url).host (port_text (endpoint_of url).port) (endpoint_prints url valid.head) (port_prints (endpoint_of url).port (port_small url.scheme url.port valid.head.port))
