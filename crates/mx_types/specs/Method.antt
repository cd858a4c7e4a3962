-- The methods of requests, their names, and what they allow (RFC 9110, section 9).
use Rattle.std.specs.Prelude.{◌≡◌, ◌≢◌, ℕ, Bool, true, false, List, codes, Result, Ok, Err}
use Rattle.mx_types.specs.declared.method.Method.{Method}
use Rattle.mx_types.specs.declared.method.Method.TheVariants as method
use Rattle.mx_types.specs.declared.method.ParseMethodError.{ParseMethodError}

-- the name of a method
abbrev pub method_name : Method → List ℕ
method_name method.Get = codes "GET"
method_name method.Head = codes "HEAD"
method_name method.Post = codes "POST"
method_name method.Put = codes "PUT"
method_name method.Delete = codes "DELETE"
method_name method.Options = codes "OPTIONS"

-- the method that the text names, or the refusal of a text that names none
abbrev pub IsMethodOf : List ℕ → Result Method ParseMethodError → Type 0
IsMethodOf text (Ok m) = text ≡ method_name m
IsMethodOf text (Err e) = (m : Method) → text ≢ method_name m

-- HEAD, whose responses have no body (RFC 9110, section 9.3.2)
abbrev pub is_head : Method → Bool
is_head method.Head = true
is_head _ = false

-- rule exchange-retry
-- rule save-retries
-- GET and HEAD, the safe methods that fetch (RFC 9110, sections 9.2.1, 9.3.1 and 9.3.2): their requests are sent again unasked. Those of
-- other methods aren't, even of idempotent ones (section 9.2.2).
abbrev pub is_repeatable : Method → Bool
is_repeatable method.Get = true
is_repeatable method.Head = true
is_repeatable _ = false
