-- The request that follows another.
use Rattle.std.proofs.Common.{◌≡◌, ℕ, Bool, true, false, not, List, length, nat_lt, Some, None, Ok, Err, sym, ap, ◌∙◌, inl, inr, ◌⊎◌}
use Rattle.std.specs.Prelude.{Result, MatchResult, IsUtf8, if◌then◌else◌}
use Rattle.std.specs.Str.{is_utf8}
use Rattle.std.proofs.lemmas.Bool.{false_from_ne_true}
use Rattle.std.proofs.lemmas.Str.{IsUtf8-from_is_utf8, is_utf8-from_IsUtf8}
use Rattle.mx_types.specs.Settings.{SettingsValue}
use Rattle.mx_types.specs.declared.method.Method.{Method}
use Rattle.mx_request.specs.Endpoint.{HostAndPort}
use Rattle.mx_request.specs.Redirects.{next_method, next_settings, short_url, joined_url, next_to, next_request, ChainKeeps}
use Rattle.mx_request.specs.Request.{RequestValue, checked_url, url_of, refusal_of, request_to, request_unless, request_by, request_of, chained}
use Rattle.mx_request.specs.RequestBytes.{endpoint_of}
use Rattle.mx_request.specs.declared.error.RequestError.{RequestError}
use Rattle.mx_request.specs.declared.error.RequestError.TheVariants as refusal
use Rattle.mx_request.proofs.ToldLemmas.{chained_first}
use Rattle.mx_request.proofs.UrlLemmas.{checked_again}
use Rattle.url.specs.Parser.{Parsed, parse_url}
use Rattle.url.specs.Parts.{Parts, serialize}

-- a Location that isn't UTF-8
pub joined_bad : (base : Parts) (location : List ℕ) → ¬ (IsUtf8 location) → joined_url base location ≡ Err refusal.Malformed
joined_bad base location bad =
    ap (λ (t : Bool). if not t then Err refusal.Malformed else short_url (parse_url (Some base) location))
    (false_from_ne_true (is_utf8 location) (λ t. bad (IsUtf8-from_is_utf8 location t)))

joined_good : (base : Parts) (location : List ℕ) → IsUtf8 location → joined_url base location ≡ short_url (parse_url (Some base) location)
joined_good base location text =
    ap (λ (t : Bool). if not t then Err refusal.Malformed else short_url (parse_url (Some base) location)) (is_utf8-from_IsUtf8 location text)

-- one that is, and was joined and tested
pub joined_by : (base : Parts) (location text : List ℕ) (url : Parts) (result : Result Parts RequestError) → text ≡ location → IsUtf8 location
    → parse_url (Some base) text ≡ Ok url → result ≡ short_url (Ok url)
    → MatchResult result (λ u. joined_url base location ≡ Ok u) (λ e. (joined_url base location ≡ Err e) ⊎ (e ≡ refusal.OutOfMemory))
joined_by base location text url result same utf8 parsed tested = cases result whole
  where
    whole : joined_url base location ≡ result
    whole = joined_good base location utf8 ∙ ap short_url (ap (parse_url (Some base)) (sym same) ∙ parsed) ∙ sym tested

    cases : (r : Result Parts RequestError) → joined_url base location ≡ r → MatchResult r (λ u. joined_url base location ≡ Ok u) (λ e. (joined_url base location ≡ Err e) ⊎ (e ≡ refusal.OutOfMemory))
    cases (Ok u) e = e
    cases (Err x) e = inl e

-- a URL that a Location leads to was checked
pub joined_checked : (base : Parts) (location : List ℕ) (url : Parts) → joined_url base location ≡ Ok url → checked_url (Ok url) ≡ Ok url
joined_checked base location url e =
    elim (is_utf8 location) as (λ t. (if not t then Err refusal.Malformed else short_url (parse_url (Some base) location)) ≡ Ok url → checked_url (Ok url) ≡ Ok url)
    [ true ↦ λ e. short (parse_url (Some base) location) e | false ↦ λ e. cc ] e
  where
    short : (p : Parsed Parts) → short_url p ≡ Ok url → checked_url (Ok url) ≡ Ok url
    short (Err x) e = cc
    short (Ok v) e =
        elim (nat_lt 65536 (length (serialize v))) as (λ t. (if t then Err refusal.Malformed else checked_url (Ok v)) ≡ Ok url → checked_url (Ok url) ≡ Ok url)
        [ true ↦ λ e. cc | false ↦ λ e. checked_again v url e ] e

-- a Location that is refused
pub next_err : (r : RequestValue) (status : ℕ) (location : List ℕ) (e : RequestError) → (joined_url r.url location ≡ Err e) ⊎ (e ≡ refusal.OutOfMemory)
    → (next_request r status location ≡ Err e) ⊎ (e ≡ refusal.OutOfMemory)
unfolding next_request
next_err r status location e (inl refused) = inl (ap (λ u. next_to u r status) refused)
next_err r status location e (inr none) = inr none

-- one that leads on
pub next_ok : (r : RequestValue) (status : ℕ) (location : List ℕ) (url : Parts) (first : HostAndPort) (m : Method) (s : SettingsValue) → joined_url r.url location ≡ Ok url
    → first ≡ r.first → m ≡ next_method status r.method → s ≡ next_settings status r.method r.settings → next_request r status location ≡ Ok (chained first m url s)
unfolding next_request
next_ok r status location url first m s joined home kind set =
    ap (λ u. next_to u r status) joined
    ∙ (λ i. Ok (chained (sym home i) (sym kind i) url (sym set i)))

-- a request that follows none
pub built_ok : (m : Method) (text : List ℕ) (s : SettingsValue) (url : Parts) (first : HostAndPort) → url_of text ≡ Ok url → refusal_of s ≡ None
    → first ≡ endpoint_of url → request_of m text s ≡ Ok (chained first m url s)
built_ok m text s url first parsed allowed home =
    ap (λ u. request_by m u s) parsed
    ∙ ap (λ f. request_unless f (request_to m url s)) allowed
    ∙ sym (ap Ok (chained_to m url s first home))
  where
    chained_to : (m : Method) (url : Parts) (s : SettingsValue) (first : HostAndPort) → first ≡ endpoint_of url → chained first m url s ≡ request_to m url s
    chained_to m url s first home = ap (λ (f : HostAndPort). chained f m url s) home ∙ chained_first m url s

pub chain_keeps : ChainKeeps
unfolding next_request
chain_keeps r next status location e = cases (joined_url r.url location) e
  where
    cases : (u : Result Parts RequestError) → next_to u r status ≡ Ok next → (next.first ≡ r.first) × (next.timeout_ms ≡ r.settings.timeout_ms) × (next.settings.max_redirects ≡ r.settings.max_redirects)
    cases (Err x) e = cc
    cases (Ok url) e =
        let same : next ≡ chained r.first (next_method status r.method) url (next_settings status r.method r.settings) = cc in
        (ap (λ (n : RequestValue). n.first) same, ap (λ (n : RequestValue). n.timeout_ms) same, ap (λ (n : RequestValue). n.settings.max_redirects) same)
