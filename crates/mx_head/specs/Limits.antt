-- The limits of a response, in one place. The standard leaves them to the recipient (RFC 9110, sections
-- 2.3 and 5.4); these are the engine's own.
use Rattle.std.specs.Prelude.{ℕ}

-- the bytes of one head, its empty line among them
abbrev pub most_head_bytes : ℕ
most_head_bytes = 65536

-- the field lines of one head
abbrev pub most_fields : ℕ
most_fields = 128

-- the interim heads (RFC 9110, section 15.2) that may come before the final one
abbrev pub most_interim : ℕ
most_interim = 16

-- rule body-size: A response has at most 67,108,864 bytes, heads and framing included. More bytes that decide nothing are 63, whether they
-- have ended or not.
abbrev pub most_bytes : ℕ
most_bytes = 67108864
