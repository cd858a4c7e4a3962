-- The heads of responses that are taken (RFC 9112, sections 2 to 5): those of `httparse`'s default
-- grammar, within the limits.
use Rattle.std.specs.Prelude.{◌≡◌, ℕ, ◌≤◌, List, ◌++◌, length}
use Rattle.httparse.specs.Grammar.{ResponseHead, IsResponseHead, print_response}
use Rattle.mx_head.specs.Limits.{most_head_bytes, most_fields}

-- a head of the grammar, within the limits
pub record IsHead (h : ResponseHead) : Type 0 where
  pub grammar : IsResponseHead h
  pub bytes : length (print_response h) ≤ most_head_bytes
  pub fields : length h.fields ≤ most_fields

-- the input is that head, and then rest
abbrev pub ReadsHead : List ℕ → ResponseHead → List ℕ → Type 0
ReadsHead input h rest = IsHead h × (input ≡ print_response h ++ rest)

-- rule head-first-bad-byte: Bytes that begin no head are 8 at the first byte that isn't allowed there, and not later.
--
-- no prefix of the input is a head
abbrev pub HasNoHead : List ℕ → Type 0
HasNoHead input = (h : ResponseHead) (rest : List ℕ) → ¬ (ReadsHead input h rest)
