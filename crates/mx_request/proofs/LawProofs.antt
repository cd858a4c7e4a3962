-- The laws of the bytes of requests.
use Rattle.std.proofs.Common.{◌≡◌, ℕ, Bool, true, if◌then◌else◌, List, [], ◌∷◌, ◌++◌, map, None, refl, sym, ap, ◌∙◌, subst, append_assoc, append-nil}
use Rattle.std.specs.Prelude.{◌↔◌, flat_map, codes, bytes_eq}
use Rattle.std.specs.List.{list_all, AllPass}
use Rattle.std.proofs.lemmas.Bool.{and_parts}
use Rattle.std.proofs.lemmas.Grind.{flat_map-append}
use Rattle.std.proofs.lemmas.List.{append_cancel_right}
use Rattle.std.proofs.lemmas.List.Elements.{All-weaker, recursion_from_All}
use Rattle.std.proofs.lemmas.List.Sums.{AllPass-from_list_all}
use Rattle.mx_types.specs.Method.{method_name}
use Rattle.mx_types.specs.Settings.{Field, SettingsValue}
use Rattle.mx_types.specs.declared.method.Method.{Method}
use Rattle.mx_types.specs.declared.method.Method.TheVariants as method
use Rattle.mx_request.specs.Fields.{is_token_byte, is_token, is_value_byte}
use Rattle.mx_request.specs.Laws.{is_printable, IsClean, EndsOnce, IsOneLine, SplitsInto, IsSentAlike}
use Rattle.mx_request.specs.Request.{refusal_of}
use Rattle.mx_request.specs.RequestBytes.{crlf, ended, target, request_line, endpoint_of, host_field, field_line, sent_fields, head_lines, body_bytes, request_head, request_bytes}
use Rattle.mx_request.proofs.SplitLemmas.{split_at, is_begun, is_line, lines_and_body, ends_once, one_line, lines_only}
use Rattle.mx_request.proofs.CleanLemmas.{weaker, both, token_prints, is_sent, fields_sent, method_token, request_line_prints}
use Rattle.url.specs.Parts.{Parts, IsValid}

-- ---- no control

clean_name : (field : Field) → is_sent field ≡ true → AllPass is_printable field.name
clean_name field sent =
    AllPass-from_list_all is_printable field.name (weaker is_token_byte is_printable token_prints field.name (and_parts _ _ (and_parts (is_token field.name) _ sent).0).1)

clean_value : (field : Field) → is_sent field ≡ true → AllPass is_value_byte field.value
clean_value field sent =
    AllPass-from_list_all is_value_byte field.value (and_parts (is_token field.name) _ sent).1

pub clean : (m : Method) (url : Parts) (settings : SettingsValue) → IsValid url → url.scheme ≡ codes "http" → refusal_of settings ≡ None → IsClean m url settings
clean m url settings valid scheme allowed =
    let sent = AllPass-from_list_all is_sent (sent_fields url settings) (fields_sent url settings valid allowed) in
    record {
      request_line = AllPass-from_list_all is_printable (request_line m url) (request_line_prints m url valid scheme);
      names = All-weaker (λ field. is_sent field ≡ true) (λ field. AllPass is_printable field.name) clean_name (sent_fields url settings) sent;
      values = All-weaker (λ field. is_sent field ≡ true) (λ field. AllPass is_value_byte field.value) clean_value (sent_fields url settings) sent;
    }

-- ---- the end of the head

last_end : (line : List ℕ) → ((line ++ crlf) ++ []) ++ crlf ≡ line ++ (crlf ++ crlf)
last_end line = ap (λ x. x ++ crlf) (append-nil (line ++ crlf)) ∙ append_assoc line crlf crlf

ends_at : (line : List ℕ) (lines : List (List ℕ)) → (before : List ℕ) × (flat_map ended (line ∷ lines) ++ crlf ≡ before ++ (crlf ++ crlf))
ends_at line [] = (line, last_end line)
ends_at line (next ∷ lines) =
    let later = ends_at next lines in
    (ended line ++ later.0, append_assoc (ended line) (flat_map ended (next ∷ lines)) crlf ∙ ap (λ x. ended line ++ x) later.1 ∙ sym (append_assoc (ended line) later.0 (crlf ++ crlf)))

pub ends : (m : Method) (url : Parts) (settings : SettingsValue) → list_all is_line (head_lines m url settings) ≡ true → EndsOnce (request_head m url settings)
unfolding request_head
ends m url settings lines = record {
  ends = ends_at (request_line m url) (map field_line (sent_fields url settings));
  once = λ before after e. ends_once (head_lines m url settings) before after lines e;
}

-- ---- the lines of the head

abbrev all_lines : Method → Parts → SettingsValue → List (List ℕ)
all_lines m url settings = head_lines m url settings ++ [] ∷ []

abbrev is_clean_line : List ℕ → Bool
is_clean_line line = list_all is_value_byte line

head_as_lines : (m : Method) (url : Parts) (settings : SettingsValue) → flat_map ended (all_lines m url settings) ≡ request_head m url settings
unfolding request_head
head_as_lines m url settings = flat_map-append ended (head_lines m url settings) ([] ∷ [])

pub splits : (m : Method) (url : Parts) (settings : SettingsValue) (lines : List (List ℕ)) → list_all is_line (head_lines m url settings) ≡ true → SplitsInto (request_head m url settings) lines ↔ (lines ≡ head_lines m url settings ++ [] ∷ [])
splits m url settings lines are_lines =
    let whole = head_as_lines m url settings in
    let all_clean = both is_clean_line (head_lines m url settings) ([] ∷ []) (weaker is_line is_clean_line (λ line e. (and_parts (is_begun line) _ e).1) (head_lines m url settings) are_lines) refl in (
      λ split. lines_only lines (all_lines m url settings) (recursion_from_All IsOneLine lines split.0) all_clean (split.1 ∙ sym whole),
      λ same. subst (SplitsInto (request_head m url settings)) (sym same) (
        All-weaker (λ line. is_clean_line line ≡ true) IsOneLine one_line (all_lines m url settings) (AllPass-from_list_all is_clean_line (all_lines m url settings) all_clean),
        whole,
      ),
    )

-- ---- equal bytes

method_of : List ℕ → Method
method_of name =
    if bytes_eq name (codes "GET") then method.Get
    else (if bytes_eq name (codes "HEAD") then method.Head
    else (if bytes_eq name (codes "POST") then method.Post
    else (if bytes_eq name (codes "PUT") then method.Put
    else (if bytes_eq name (codes "DELETE") then method.Delete
    else method.Options))))

method_of-method_name : (m : Method) → method_of (method_name m) ≡ m
unfolding method_of
method_of-method_name method.Get = refl
method_of-method_name method.Head = refl
method_of-method_name method.Post = refl
method_of-method_name method.Put = refl
method_of-method_name method.Delete = refl
method_of-method_name method.Options = refl

same_method : (m n : Method) → method_name m ≡ method_name n → m ≡ n
same_method m n e = sym (method_of-method_name m) ∙ ap method_of e ∙ method_of-method_name n

same_request_line : (m n : Method) (u v : Parts) → request_line m u ≡ request_line n v → (m ≡ n) × (target u ≡ target v)
same_request_line m n u v e =
    let parted = split_at is_token_byte 32 refl (method_name m) (method_name n) (target u ++ codes " HTTP/1.1") (target v ++ codes " HTTP/1.1") (method_token m) (method_token n) e in
    (same_method m n parted.0, append_cancel_right (target u) (target v) (codes " HTTP/1.1") parted.1)

list_tail : (a b : ℕ) (r s : List ℕ) → a ∷ r ≡ b ∷ s → r ≡ s
list_tail a b r s e = cc

same_field : (f g : Field) → is_sent f ≡ true → is_sent g ≡ true → field_line f ≡ field_line g → f ≡ g
same_field f g sf sg e =
    let parted = split_at is_token_byte 58 refl f.name g.name (32 ∷ f.value) (32 ∷ g.value) (and_parts _ _ (and_parts (is_token f.name) _ sf).0).1 (and_parts _ _ (and_parts (is_token g.name) _ sg).0).1 e in
    let value = list_tail 32 32 f.value g.value parted.1 in
    λ i. record { name = parted.0 i; value = value i }

same_fields : (fs gs : List Field) → list_all is_sent fs ≡ true → list_all is_sent gs ≡ true → map field_line fs ≡ map field_line gs → fs ≡ gs
same_fields [] [] sf sg e = refl
same_fields [] (g ∷ gs) sf sg e = cc
same_fields (f ∷ fs) [] sf sg e = cc
same_fields (f ∷ fs) (g ∷ gs) sf sg e =
    let here = and_parts (is_sent f) _ sf in
    let there = and_parts (is_sent g) _ sg in
    let line : field_line f ≡ field_line g = cc in
    let rest : map field_line fs ≡ map field_line gs = cc in
    let first = same_field f g here.0 there.0 line in
    let more = same_fields fs gs here.1 there.1 rest in
    λ i. first i ∷ more i

bytes_as_lines : (m : Method) (url : Parts) (settings : SettingsValue) → request_bytes m url settings ≡ flat_map ended (head_lines m url settings) ++ (crlf ++ body_bytes settings)
unfolding request_head request_bytes
bytes_as_lines m url settings = append_assoc (flat_map ended (head_lines m url settings)) crlf (body_bytes settings)

first_of_lines : (x y : List ℕ) (xs ys : List (List ℕ)) → x ∷ xs ≡ y ∷ ys → (x ≡ y) × (xs ≡ ys)
first_of_lines x y xs ys e = (cc, cc)

first_of_fields : (x y : Field) (xs ys : List Field) → x ∷ xs ≡ y ∷ ys → x ≡ y
first_of_fields x y xs ys e = cc

pub sent_alike : (m n : Method) (u v : Parts) (s t : SettingsValue) → list_all is_line (head_lines m u s) ≡ true → list_all is_line (head_lines n v t) ≡ true → list_all is_sent (sent_fields u s) ≡ true → list_all is_sent (sent_fields v t) ≡ true → request_bytes m u s ≡ request_bytes n v t → IsSentAlike m n u v s t
sent_alike m n u v s t ls lt fs ft e =
    let parted = lines_and_body (head_lines m u s) (head_lines n v t) (body_bytes s) (body_bytes t) ls lt (sym (bytes_as_lines m u s) ∙ e ∙ bytes_as_lines n v t) in
    let lines = first_of_lines (request_line m u) (request_line n v) _ _ parted.0 in
    let line = same_request_line m n u v lines.0 in
    let fields = same_fields (sent_fields u s) (sent_fields v t) fs ft lines.1 in
    record {
      method = line.0;
      same_target = line.1;
      host = first_of_fields (host_field (endpoint_of u)) (host_field (endpoint_of v)) _ _ fields;
      fields = fields;
      body = parted.1;
    }
