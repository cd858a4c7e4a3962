-- Which hint is given, and for what.
use Rattle.std.specs.Prelude.{◌≡◌, ℕ, ◌≤◌, ◌⊎◌, true, List, nat_eq, Some, slice_get}
use Rattle.std.specs.List.{starts_with}
use Rattle.clap.specs.declared.error.kind.ErrorKind.{ErrorKind}
use Rattle.clap.specs.declared.error.kind.ErrorKind.TheVariants as kind
use Rattle.mx_command.specs.declared.hint.UsageHint.{UsageHint}
use Rattle.mx_command.specs.declared.hint.UsageHint.TheVariants.{Nearest, Url, Wanted}
use Rattle.mx_command.specs.Hints.{distance, is_url}

-- for a word that is no command: that it is a URL, if it may be one, else the name of a command at most two edits away
abbrev pub IsSaidToWord : List ℕ → UsageHint → Type 0
IsSaidToWord word (Nearest name) = distance word name.now ≤ 2
IsSaidToWord word Url = is_url word ≡ true
IsSaidToWord word (Wanted row) = ⊥

-- the word in the place of a command: after the program's name, or after `help`
abbrev pub IsCommandWord : List (List ℕ) → List ℕ → Type 0
IsCommandWord words word = (slice_get words 1 ≡ Some word) ⊎ (slice_get words 2 ≡ Some word)

-- the word at that place begins with a name
abbrev pub IsNamedAt : List (List ℕ) → ℕ → List ℕ → Type 0
IsNamedAt words at name = (word : List ℕ) × (slice_get words at ≡ Some word) × (starts_with nat_eq word name ≡ true)

-- for the value of an option: what that option takes, whose name one of the words begins with
abbrev pub IsSaidToValue : List (List ℕ) → UsageHint → Type 0
IsSaidToValue words (Wanted row) = (at : ℕ) × IsNamedAt words at row.now.name.now
IsSaidToValue words _ = ⊥

-- for the words of a command line that is refused as that kind of error
abbrev pub IsSaid : ErrorKind → List (List ℕ) → UsageHint → Type 0
IsSaid kind.InvalidSubcommand words hint = (word : List ℕ) × IsCommandWord words word × IsSaidToWord word hint
IsSaid kind.ValueValidation words hint = IsSaidToValue words hint
IsSaid _ words hint = ⊥
