-- What a list that is being read has still to give.
use Rattle.std.specs.Prelude.{◌≡◌, ℕ, List, [], ◌∷◌, ◌++◌, take, drop, Option, Some, None, option_map, option_to_list, ⊤}
use Rattle.mx_save_rules.specs.declared.entry.Entry.{Entry}
use Rattle.mx_save_rules.specs.declared.open_line.OpenLine.{OpenLine}
use Rattle.mx_save_rules.specs.declared.list.UrlList.{UrlList}
use Rattle.mx_save_rules.specs.declared.list.AfterRead.{AfterRead}
use Rattle.mx_save_rules.specs.declared.list.AfterRead.TheVariants as after_read
use Rattle.mx_save_rules.specs.Entries.{Told, told, told_if, entries_from}

-- the entries of the line that is open, and of the bytes after it
abbrev pub entries_after : OpenLine → List ℕ → List Told
entries_after line rest = entries_from line.is_first (line.bytes.items ++ rest)

-- an entry, if there is one, and then those
abbrev pub then : Option Entry → List Told → List Told
then said rest = option_to_list (told_if said) ++ rest

-- the bytes that were read and not looked at yet
abbrev pub held : {R : Type 0} → UrlList R → List ℕ
held list = drop list.start (take list.end list.buffer)

-- the entries that are left, where the rest of the input is known
abbrev pub entries_left : {R : Type 0} → (R → Option (List ℕ)) → UrlList R → Option (List Told)
entries_left remaining list = option_map (λ more. entries_after list.line (held list ++ more)) (remaining list.reader)

-- rule list-entries
-- the entries that are left begin with that one; or there is none, and none is left
abbrev pub GivesNext : Option (List Told) → Option Entry → Option (List Told) → Type 0
GivesNext None said new = ⊤
GivesNext (Some all) said None = ⊥
GivesNext (Some all) (Some entry) (Some rest) = all ≡ told entry ∷ rest
GivesNext (Some all) None (Some rest) = (all ≡ []) × (rest ≡ [])

-- the same entries are left
abbrev pub KeepsEntries : Option (List Told) → Option (List Told) → Type 0
KeepsEntries None new = ⊤
KeepsEntries (Some all) None = ⊥
KeepsEntries (Some all) (Some rest) = rest ≡ all

-- how a list goes on after a read: the same entries are left, or the next one is given
abbrev pub GoesOn : Option (List Told) → AfterRead → Option (List Told) → Type 0
GoesOn old after_read.More new = KeepsEntries old new
GoesOn old (after_read.Next said) new = GivesNext old said new
