-- The lines of fields, one list of them after another.
use Rattle.std.proofs.Common.{◌≡◌, ◌++◌, ℕ, List, [], ◌∷◌, map, refl, sym, ap, ◌∙◌, append_assoc, append-nil}
use Rattle.std.specs.Prelude.{Bool, ◌||◌}
use Rattle.std.specs.List.{list_any}
use Rattle.mx_types.specs.Settings.{Field, SettingsValue}
use Rattle.mx_types.specs.declared.method.Method.{Method}
use Rattle.mx_request.specs.Endpoint.{HostAndPort}
use Rattle.mx_request.specs.RequestBytes.{crlf, ended, field_line, field_lines, request_line, endpoint_of, host_field, settings_fields, body_bytes, request_head, request_bytes}
use Rattle.url.specs.Parts.{Parts}

pub list_any-map : {X Y : Type 0} (p : X → Bool) (h : Y → X) (ys : List Y) → list_any p (map h ys) ≡ list_any (λ y. p (h y)) ys
list_any-map p h [] = refl
list_any-map p h (y ∷ ys) = ap (λ b. p (h y) || b) (list_any-map p h ys)

pub field_lines-append : (xs ys : List Field) → field_lines (xs ++ ys) ≡ field_lines xs ++ field_lines ys
field_lines-append [] ys = refl
field_lines-append (x ∷ xs) ys =
    ap (λ rest. ended (field_line x) ++ rest) (field_lines-append xs ys)
    ∙ sym (append_assoc (ended (field_line x)) (field_lines xs) (field_lines ys))

joined : (before line host fields end : List ℕ) → (((before ++ line) ++ (host ++ [])) ++ fields) ++ end ≡ before ++ ((line ++ (host ++ fields)) ++ end)
joined before line host fields end = simp (append_assoc, append-nil)

-- a head is its request line, its host, the fields of the settings and the empty line, one after another
pub request_head-written : (method : Method) (url : Parts) (settings view : SettingsValue) (endpoint : HostAndPort) (before line host fields all : List ℕ) → endpoint ≡ endpoint_of url → view ≡ settings → line ≡ before ++ ended (request_line method url) → host ≡ line ++ field_lines (host_field endpoint ∷ []) → fields ≡ host ++ field_lines (settings_fields view) → all ≡ fields ++ crlf → all ≡ before ++ request_head method url settings
unfolding request_head
request_head-written method url settings view endpoint before line host fields all to same first second third last =
    rw (last, third, second, first, to, same)
    (joined before (ended (request_line method url)) (ended (field_line (host_field (endpoint_of url)))) (field_lines (settings_fields settings)) crlf)

pub request_bytes-written : (method : Method) (url : Parts) (settings view : SettingsValue) (empty head all : List ℕ) → view ≡ settings → empty ≡ [] → head ≡ empty ++ request_head method url settings → all ≡ head ++ body_bytes view → all ≡ request_bytes method url settings
unfolding request_bytes
request_bytes-written method url settings view empty head all same none first last =
    rw (last, first, none, same)
