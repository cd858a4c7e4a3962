-- The field lines, one element at a time.
use Rattle.std.specs.Prelude.{ℕ, List, [], ◌∷◌, Option, Some, None, if◌then◌else◌, codes, fold, ◌==◌}
use Rattle.std.specs.Borrow.{Bor}
use Rattle.mx_head.specs.declared.types.Coding.{Coding}
use Rattle.mx_head.specs.declared.types.Coding.TheVariants as coding
use Rattle.mx_head.specs.declared.fields.Seen.{Seen}
use Rattle.mx_head.specs.declared.fields.Seen.TheVariants.{Nothing, Blank, Chunked, Other}
use Rattle.mx_head.specs.declared.elements.CommaList.{CommaList}
use Rattle.mx_head.specs.Fields.{Line, same_word, elements_of}
use Rattle.mx_head.specs.Framing.{is_blank}

-- the elements of the value after a comma; none where there was no comma
abbrev pub elements_behind : Option (Bor (List ℕ)) → List (List ℕ)
elements_behind (Some value) = elements_of value.now
elements_behind None = []

-- those that a list over a value has still to give
abbrev pub elements_ahead : CommaList → List (List ℕ)
elements_ahead list = elements_behind list.ahead

-- the first element that counts
abbrev pub first_seen : List ℕ → Seen
first_seen e = if is_blank e then Blank else (if same_word e (codes "chunked") then Chunked else Other)

abbrev pub seen_after : Seen → List ℕ → Seen
seen_after Nothing e = first_seen e
seen_after Blank e = first_seen e
seen_after Chunked e = if is_blank e then Chunked else Other
seen_after Other e = Other

abbrev pub seen_after_line : Seen → Line → Seen
seen_after_line s l = if same_word l.0 (codes "transfer-encoding") then fold seen_after s (elements_of l.1) else s

abbrev pub coding_seen : Seen → Coding
coding_seen Nothing = coding.Absent
coding_seen Blank = coding.Other
coding_seen Chunked = coding.Chunked
coding_seen Other = coding.Other

-- the digits from the first that is no zero
abbrev pub stripped : List ℕ → List ℕ
stripped [] = []
stripped (d ∷ ds) = if d == 48 then stripped ds else d ∷ ds
