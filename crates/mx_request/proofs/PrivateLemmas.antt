-- No private field is in the head of a request to another endpoint than the first of its chain.
use Rattle.std.proofs.Common.{◌≡◌, ◌≢◌, ℕ, Bool, true, false, not, ◌&&◌, ◌||◌, ◌==◌, List, [], ◌∷◌, ◌++◌, map, Some, None, refl, sym, ap, ◌∙◌, subst, ⊎_elim, append_assoc, arith}
use Rattle.std.specs.Prelude.{Option, codes, bytes_eq, flat_map}
use Rattle.std.specs.Char.{to_ascii_lowercase}
use Rattle.std.specs.List.{list_all}
use Rattle.std.specs.Str.{str_eq_ignore_ascii_case, str_to_ascii_lowercase}
use Rattle.std.proofs.lemmas.Bool.{and_parts, both_ways, cond_both, false≢true, or_cases, false_from_ne_true, not-true, eqb-true, cases_eq}
use Rattle.std.proofs.lemmas.Bool.Decides.{nat_tests}
use Rattle.std.proofs.lemmas.Slice.Eq.{bytes_eq-Decides}
use Rattle.mx_types.specs.Settings.{Field}
use Rattle.mx_request.specs.Endpoint.{HostAndPort, is_same_endpoint}
use Rattle.mx_request.specs.Fields.{is_token_byte, is_token}
use Rattle.mx_request.specs.Redirects.{PrivateStaysHome}
use Rattle.mx_request.specs.Request.{RequestValue, IsRequest}
use Rattle.mx_request.specs.RequestBytes.{crlf, ended, request_line, endpoint_of, user_agent_fields, accept_fields, length_fields, field_line, sent_fields, is_private_name, is_private, told_fields, told, request_head}
use Rattle.mx_request.proofs.SplitLemmas.{is_begun, is_line, split_at, ended-append, after_line}
use Rattle.mx_request.proofs.CleanLemmas.{weaker, both, is_sent, fields_sent, lines_are_lines}
use Rattle.mx_request.proofs.ToldLemmas.{told-public, told_allowed}
use Rattle.mx_request.proofs.UrlLemmas.{scheme_of}

-- ---- letters in any case

-- no letter of any case is a colon or a CR
lower_keeps : (b : ℕ) → (not (to_ascii_lowercase b == 58) && not (to_ascii_lowercase b == 13)) ≡ (not (b == 58) && not (b == 13))
lower_keeps b = grind (arith, nat_tests)

abbrev is_within : ℕ → Bool
is_within b = not (b == 58) && not (b == 13)

lower_all : (bytes : List ℕ) → list_all is_within (str_to_ascii_lowercase bytes) ≡ list_all is_within bytes
lower_all [] = refl
lower_all (b ∷ bytes) = λ i. lower_keeps b i && lower_all bytes i

-- a private name in any letter case has neither
private_within : (name : List ℕ) → is_private_name name ≡ true → list_all is_within name ≡ true
private_within name private =
    sym (lower_all name)
    ∙ ⊎_elim
    (λ a. ap (list_all is_within) ((bytes_eq-Decides (str_to_ascii_lowercase name) (str_to_ascii_lowercase (codes "Authorization"))).0 a))
    (λ c. ap (list_all is_within) ((bytes_eq-Decides (str_to_ascii_lowercase name) (str_to_ascii_lowercase (codes "Cookie"))).0 c))
    (or_cases _ _ private)

-- a name that is the same in any letter case is as private
same_private : (sent name : List ℕ) → str_eq_ignore_ascii_case sent name ≡ true → is_private_name name ≡ true → is_private_name sent ≡ true
same_private sent name same private =
    ap (λ l. bytes_eq l (str_to_ascii_lowercase (codes "Authorization")) || bytes_eq l (str_to_ascii_lowercase (codes "Cookie"))) ((bytes_eq-Decides (str_to_ascii_lowercase sent) (str_to_ascii_lowercase name)).0 same)
    ∙ private

-- ---- fields that are sent

abbrev is_public : Field → Bool
is_public field = not (is_private field)

agent_public : (agent : Option (List ℕ)) → list_all is_public (user_agent_fields agent) ≡ true
agent_public None = refl
agent_public (Some agent) = refl

accept_public : (fields : List Field) → list_all is_public (accept_fields fields) ≡ true
accept_public fields =
    cond_both _ [] (record { name = codes "Accept"; value = codes "*/*" } ∷ []) (λ fs. list_all is_public fs ≡ true) (λ _. refl) (λ _. refl)

length_public : (body : Option (List ℕ)) → list_all is_public (length_fields body) ≡ true
length_public None = refl
length_public (Some body) = refl

-- all that is sent to another endpoint
pub sent_public : (r : RequestValue) → IsRequest r → r.endpoint ≢ r.first → list_all is_public (sent_fields r.url (told r.first r.url r.settings)) ≡ true
sent_public r is other =
    let s = told r.first r.url r.settings in
    let elsewhere : is_same_endpoint (endpoint_of r.url) r.first ≡ false =
    false_from_ne_true _ (λ t. other (ap (λ (v : RequestValue). v.endpoint) is.value ∙ same_from (endpoint_of r.url) r.first t)) in
    let own : list_all is_public s.fields ≡ true =
    subst (λ (b : Bool). list_all is_public (told_fields b r.settings.fields) ≡ true) (sym elsewhere) (told-public r.settings.fields) in
    both is_public (user_agent_fields s.user_agent) _ (agent_public s.user_agent)
    (both is_public (accept_fields s.fields) _ (accept_public s.fields)
    (both is_public s.fields _ own (length_public s.body)))
  where
    same_from : (a b : HostAndPort) → is_same_endpoint a b ≡ true → a ≡ b
    same_from a b t =
        let parts = and_parts (a.port == b.port) _ t in
        let host = (bytes_eq-Decides a.host b.host).0 parts.1 in
        let port : a.port ≡ b.port = eqb-true a.port b.port parts.0 in
        λ i. record { host = host i; port = port i }

-- ---- lines

module _ (sent after : List ℕ) (private : is_private_name sent ≡ true) where
  abbrev text : List ℕ
  text = sent ++ 58 ∷ after

  -- the text doesn't begin with such a name where it is fields and the empty line
  at_start : (fields : List Field) → list_all is_sent fields ≡ true → list_all is_public fields ≡ true → flat_map ended (map field_line fields) ++ crlf ≡ text → ⊥
  at_start [] sent_all public e = no_empty sent (private_within sent private) e
    where
      no_empty : (s : List ℕ) → list_all is_within s ≡ true → crlf ≡ s ++ 58 ∷ after → ⊥
      no_empty [] w e = cc
      no_empty (b ∷ s) w e =
          let same : 13 ≡ b = cc in
          false≢true (subst (λ x. is_within x ≡ true) (sym same) (and_parts (is_within b) _ w).0)
  at_start (f ∷ fields) sent_all public e =
      let here = and_parts (is_sent f) _ sent_all in
      let open_ = and_parts (is_public f) _ public in
      let name = weaker is_token_byte is_within token_within f.name (and_parts _ _ (and_parts (is_token f.name) _ here.0).0).1 in
      let whole : f.name ++ 58 ∷ ((32 ∷ f.value) ++ 13 ∷ 10 ∷ (flat_map ended (map field_line fields) ++ crlf)) ≡ sent ++ 58 ∷ after =
      sym (append_assoc f.name (58 ∷ 32 ∷ f.value) (13 ∷ 10 ∷ (flat_map ended (map field_line fields) ++ crlf))) ∙ sym (ended-append (field_line f) (map field_line fields) crlf) ∙ e in
      let parted = split_at is_within 58 refl f.name sent _ after name (private_within sent private) whole in
      let told_it : is_private f ≡ true = ap is_private_name parted.0 ∙ private in
      both_ways (is_private f) (not-true (is_private f) open_.0) told_it
    where
      token_within : (b : ℕ) → is_token_byte b ≡ true → is_within b ≡ true
      token_within b token =
          ⊎_elim
          (λ colon. absurd (both_ways (is_token_byte 58) refl (subst (λ x. is_token_byte x ≡ true) colon token)))
          (λ other. ⊎_elim
          (λ return. absurd (both_ways (is_token_byte 13) refl (subst (λ x. is_token_byte x ≡ true) return token)))
          (λ also. grind (arith, nat_tests))
          (cases_eq b 13))
          (cases_eq b 58)

  -- nor after a CR LF
  inside : (line : List ℕ) (fields : List Field) (before : List ℕ) → is_line line ≡ true → list_all is_line (map field_line fields) ≡ true
      → list_all is_sent fields ≡ true → list_all is_public fields ≡ true
      → flat_map ended (line ∷ map field_line fields) ++ crlf ≡ before ++ (crlf ++ text) → ⊥
  inside line [] before l ls s p e =
      ⊎_elim
      (λ here. at_start [] s p here)
      (λ later. nowhere later.0 later.1)
      (after_line line before crlf text (and_parts (is_begun line) _ l).1 (sym (ended-append line [] crlf) ∙ e))
    where
      nowhere : (rest : List ℕ) → crlf ≡ rest ++ 13 ∷ 10 ∷ text → ⊥
      nowhere [] e = let nothing : [] ≡ text = cc in no_text sent nothing
        where
          no_text : (s : List ℕ) → [] ≡ s ++ 58 ∷ after → ⊥
          no_text [] e = cc
          no_text (b ∷ s) e = cc
      nowhere (a ∷ []) e = cc
      nowhere (a ∷ b ∷ []) e = cc
      nowhere (a ∷ b ∷ d ∷ rest) e = cc
  inside line (f ∷ fields) before l ls s p e =
      let lines = and_parts (is_line (field_line f)) _ ls in
      ⊎_elim
      (λ here. at_start (f ∷ fields) s p here)
      (λ later. inside (field_line f) fields later.0 lines.0 lines.1 (and_parts (is_sent f) _ s).1 (and_parts (is_public f) _ p).1 later.1)
      (after_line line before (flat_map ended (map field_line (f ∷ fields)) ++ crlf) text (and_parts (is_begun line) _ l).1 (sym (ended-append line (map field_line (f ∷ fields)) crlf) ∙ e))

pub private_stays_home : PrivateStaysHome
unfolding request_head
private_stays_home r is other name private found =
    let s = told r.first r.url r.settings in
    let allowed = told_allowed (is_same_endpoint (endpoint_of r.url) r.first) r.settings is.allowed in
    let lines = and_parts (is_line (request_line r.method r.url)) _ (lines_are_lines r.method r.url s is.valid (scheme_of r.url is.checked) allowed) in
    inside found.sent found.after (same_private found.sent name found.named private) (request_line r.method r.url) (sent_fields r.url s) found.before lines.0 lines.1
    (fields_sent r.url s is.valid allowed) (sent_public r is other) found.is
