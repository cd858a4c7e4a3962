-- The limits of a request, in one place. They are the engine's own: the standard has none (RFC 9110, sections 2.3, 4.1 and 5.4).
use Rattle.std.specs.Prelude.{ℕ}

-- the bytes of a URL's text
abbrev pub most_text : ℕ
most_text = 65536

-- the bytes of a body
abbrev pub most_body : ℕ
most_body = 1048576

-- the bytes of a field's value
abbrev pub most_value : ℕ
most_value = 8192

-- the fields that are added
abbrev pub most_fields : ℕ
most_fields = 64
