-- The causes of a fault, and which of them decides: first for any table of causes, and then for the
-- causes at the place of a head.
use Rattle.std.specs.Prelude.{◌≡◌, ◌≢◌, ℕ, ◌<◌, ◌≤◌, List, [], ◌∷◌, ◌++◌, length}
use Rattle.httparse.specs.Ascii.{line_feed, carriage_return, crlf_bytes}
use Rattle.httparse.specs.Grammar.{ResponseHead, ReadsResponse, NeverHasResponse}
use Rattle.mx_types.specs.declared.code.Code.{Code}
use Rattle.mx_types.specs.declared.code.Code.TheVariants.{WeirdServerReply, TooLarge}
use Rattle.mx_head.specs.Heads.{HasNoHead}
use Rattle.mx_head.specs.Limits.{most_head_bytes, most_fields}

-- A table of causes: `Meets p c` says that the bytes p meet the cause c, `code_of` is its code, and
-- `line_of` its line in the table.

-- rule head-first-cause: The code is the fault of the shortest prefix of the input that meets a cause, and where that meets two, of the
-- upper line of the table. So a prefix that meets a cause of another code is longer, or as long and the cause in a lower line.
pub record ComesFirst
    {Cause : Type 0} (code_of : Cause → Code) (line_of : Cause → ℕ)
    (Meets : List ℕ → Cause → Type 0) (input : List ℕ) (code : Code) : Type 0 where
  pub front : List ℕ
  pub after : List ℕ
  pub is_prefix : input ≡ front ++ after
  pub cause : Cause
  pub meets : Meets front cause
  pub code_is : code_of cause ≡ code
  pub first : (q more : List ℕ) (other : Cause) → input ≡ q ++ more → Meets q other
      → code_of other ≢ code → length q ≤ length front
      → (length q ≡ length front) × (line_of cause < line_of other)

-- no prefix of the input meets a cause
abbrev pub MeetsNothing : {Cause : Type 0} → (List ℕ → Cause → Type 0) → List ℕ → Type 0
MeetsNothing Meets input =
    (q more : List ℕ) (other : _) → input ≡ q ++ more → ¬ (Meets q other)

-- The causes at the place of a head.
pub data HeadCause : Type 0 where
  many_fields never_head long_head : HeadCause

-- the code of a cause
abbrev pub head_code : HeadCause → Code
head_code many_fields = TooLarge
head_code never_head = WeirdServerReply
head_code long_head = TooLarge

-- Its line in the table of all causes of a response. Line 3 is a coding that isn't taken; 5 and 6 are of
-- bodies: too many bytes, and bad chunk framing.
abbrev pub head_line : HeadCause → ℕ
head_line many_fields = 1
head_line never_head = 2
head_line long_head = 4

-- s is a status line and 128 whole field lines: with an empty line it is a head of the grammar
abbrev pub HasAllFields : List ℕ → Type 0
HasAllFields s =
    (h : ResponseHead) × ReadsResponse (s ++ crlf_bytes) h [] × (length h.fields ≡ most_fields)

-- rule head-field-count: A head has at most 128 field lines. A byte other than CR and LF after the 128th decides: 100, though the line
-- isn't whole.
--
-- a byte that doesn't end the section follows 128 whole field lines
abbrev pub HasManyFields : List ℕ → Type 0
HasManyFields r =
    (s : List ℕ) × (b : ℕ) × (r ≡ s ++ b ∷ []) × (b ≢ carriage_return) × (b ≢ line_feed)
    × HasAllFields s

-- rule head-size: A head has at most 65,536 bytes, its empty line included. Where these don't end a head, the code is 100.
--
-- all the bytes that a head may have are there, and no head
abbrev pub IsLongHead : List ℕ → Type 0
IsLongHead r = (length r ≡ most_head_bytes) × HasNoHead r

-- What the bytes r at the place of a head meet: too many field lines; no prefix of r is a head of the
-- grammar, of any length, and no bytes can follow r that make one; too many bytes.
abbrev pub MeetsAtHead : List ℕ → HeadCause → Type 0
MeetsAtHead r many_fields = HasManyFields r
MeetsAtHead r never_head = NeverHasResponse r
MeetsAtHead r long_head = IsLongHead r
