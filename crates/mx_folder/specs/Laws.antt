-- What holds of every URL's name.
use Rattle.std.specs.Prelude.{◌≢◌, ℕ, ◌<◌, ◌^◌, List, [], ◌∷◌, length}
use Rattle.std.specs.List.{AllByRecursion}
use Rattle.mx_folder.specs.Names.{base_name, numbered, names_of}
use Rattle.mx_folder.specs.Safe.{IsSafeName, IsPartName}

abbrev pub NamesAreSafe : Type 0
NamesAreSafe = (url : List ℕ) (n : ℕ) → n < 2 ^ 64 → IsSafeName (numbered (base_name url) n)

-- none is one of those after it
abbrev pub AreDistinct : List (List ℕ) → Type 0
AreDistinct [] = Unit {0}
AreDistinct (name ∷ names) = AllByRecursion (λ other. name ≢ other) names × AreDistinct names

abbrev pub NamesAreDistinct : Type 0
NamesAreDistinct = (urls : List (List ℕ)) → length urls < 2 ^ 64 → AreDistinct (names_of urls)

abbrev pub PartsAreApart : Type 0
PartsAreApart = (part name : List ℕ) → IsPartName part → IsSafeName name → part ≢ name
