-- A list of URLs, one a line, and its entries.
use Rattle.std.specs.Prelude.{ℕ, ◌+◌, ◌-◌, ◌==◌, nat_eq, nat_lt, Bool, true, false, not, if◌then◌else◌, List, [], ◌∷◌, ◌++◌, length, take, drop, Option, Some, None, option_to_list, string_bytes}
use Rattle.std.specs.List.{list_all, prefix_len, suffix_len}
use Rattle.std.specs.Cmp.Lexicographic.{pointwise}
use Rattle.std.specs.Char.{is_ascii_whitespace}
use Rattle.std.specs.Str.{is_utf8}
use Rattle.mx_save_rules.specs.declared.entry.Entry.{Entry}
use Rattle.mx_save_rules.specs.declared.entry.Entry.TheVariants as entry

-- an entry as contracts see it: a text that is UTF-8, one that isn't, and the front of a line that is too long
pub data Told : Type 0 where
  url : List ℕ → Told
  not_text : List ℕ → Told
  too_long : List ℕ → Told

abbrev pub told : Entry → Told
told (entry.Url text) = url (string_bytes text)
told (entry.NotText bytes) = not_text bytes.items
told (entry.TooLong bytes) = too_long bytes.items

abbrev pub told_if : Option Entry → Option Told
told_if None = None
told_if (Some e) = Some (told e)

-- a text cut at each LF: one line more than there are such bytes
abbrev pub onto_first : ℕ → List (List ℕ) → List (List ℕ)
onto_first b [] = []
onto_first b (line ∷ more) = (b ∷ line) ∷ more

abbrev pub lines_of : List ℕ → List (List ℕ)
lines_of [] = [] ∷ []
lines_of (b ∷ bytes) = if b == 10 then [] ∷ lines_of bytes else onto_first b (lines_of bytes)

-- no byte ends a line
abbrev pub is_unended : List ℕ → Bool
is_unended bytes = list_all (λ b. not (b == 10)) bytes

-- a byte order mark (EF BB BF) is no part of the first line
abbrev pub mark : List ℕ
mark = 239 ∷ 187 ∷ 191 ∷ []

abbrev pub without_mark : List ℕ → List ℕ
without_mark line = if pointwise nat_eq (take 3 line) mark then drop 3 line else line

-- without the ASCII white space at its ends, a CR among it
abbrev pub trimmed_end : List ℕ → List ℕ
trimmed_end text = take (length text - suffix_len is_ascii_whitespace text) text

abbrev pub trimmed : List ℕ → List ℕ
trimmed text = trimmed_end (drop (prefix_len is_ascii_whitespace text) text)

abbrev pub is_comment : List ℕ → Bool
is_comment [] = false
is_comment (b ∷ bytes) = b == 35

abbrev pub is_blank : List ℕ → Bool
is_blank [] = true
is_blank (b ∷ bytes) = false

abbrev pub url_or_not : List ℕ → Told
url_or_not text = if is_utf8 text then url text else not_text text

-- rule list-bad-lines: A line of more than 65,536 bytes is an entry that is no URL, and so is one that isn't UTF-8.
--
-- What a line says with this text between its white space: a comment says nothing, one that is too long is refused, a blank one says
-- nothing, and what else there is is a URL if it is UTF-8.
abbrev pub entry_by : Bool → List ℕ → Option Told
entry_by is_long text =
    if is_comment text then None else (if is_long then Some (too_long text) else (if is_blank text then None else Some (url_or_not text)))

-- the most bytes that a line may have before its LF
abbrev pub most_line : ℕ
most_line = 65536

-- what a line says by its first bytes, of which one more than may be is looked at
abbrev pub entry_of_front : Bool → List ℕ → Option Told
entry_of_front is_first front = entry_by (nat_lt most_line (length front)) (trimmed (if is_first then without_mark front else front))

unfoldable pub entry_of : Bool → List ℕ → Option Told
entry_of is_first line = entry_of_front is_first (take (most_line + 1) line)

-- what the lines say, where the first of them is the first of the list, and where it isn't
abbrev pub entries_in : Bool → List (List ℕ) → List Told
entries_in is_first [] = []
entries_in is_first (line ∷ more) = option_to_list (entry_of is_first line) ++ entries_in false more

abbrev pub entries_from : Bool → List ℕ → List Told
entries_from is_first bytes = entries_in is_first (lines_of bytes)

-- rule list-entries: A list has an entry for each line that says something, however the reads cut it; a byte order mark, blanks, a CR,
-- blank lines and lines that begin with `#` are ignored.
--
-- the entries of a whole list
abbrev pub entries_of : List ℕ → List Told
entries_of bytes = entries_from true bytes
