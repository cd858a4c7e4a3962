-- The name of a file, from the text of a URL.
use Rattle.std.specs.Prelude.{◌≡◌, ℕ, ◌==◌, nat_lt, Bool, not, ◌&&◌, if◌then◌else◌, List, [], ◌∷◌, ◌++◌, take, map, count_by, codes, decimal}
use Rattle.std.specs.Str.{bytes_eq}
use Rattle.mx_folder.specs.Paths.{path_of, last_segment}

-- visible ASCII but for the slash, and but for the number sign, which no path has: it marks a number
abbrev pub is_kept : ℕ → Bool
is_kept b = nat_lt 32 b && nat_lt b 127 && not (b == 35) && not (b == 47)

-- each other byte becomes `_`
abbrev pub kept : ℕ → ℕ
kept b = if is_kept b then b else 95

-- a dot in front becomes `_`
abbrev pub shown : ℕ → ℕ
shown b = if b == 46 then 95 else b

-- no name is empty, and none has a dot in front
abbrev pub unhidden : List ℕ → List ℕ
unhidden [] = codes "index.html"
unhidden (b ∷ bs) = shown b ∷ bs

-- the bytes of a name before its number
abbrev pub most_base : ℕ
most_base = 234

-- rule file-base-name: A file's name is the last segment of the URL's path; each byte that isn't visible ASCII is `_`, and so is a dot in
-- front; an empty one is `index.html`.
--
-- the name that a URL gives: the last segment of its path as written, of at most 234 bytes
unfoldable pub base_name : List ℕ → List ℕ
base_name url = unhidden (map kept (take most_base (last_segment (path_of url))))

abbrev pub IsGiven : List ℕ → Type 0
IsGiven base = (url : List ℕ) × (base ≡ base_name url)

-- rule file-numbered-name: A name that was given before has a number after a `#`.
--
-- a name with a number after it: none for 0
abbrev pub numbered : List ℕ → ℕ → List ℕ
numbered base n = if n == 0 then base else base ++ 35 ∷ decimal n

-- how many of these names are this one
abbrev pub count_of : List (List ℕ) → List ℕ → ℕ
count_of bases base = count_by (λ other. bytes_eq other base) bases

-- the names of these URLs, in their order, after earlier ones that gave these: each with the number of those before it that gave the same
abbrev pub names_from : List (List ℕ) → List (List ℕ) → List (List ℕ)
names_from earlier [] = []
names_from earlier (url ∷ urls) = numbered (base_name url) (count_of earlier (base_name url)) ∷ names_from (earlier ++ base_name url ∷ []) urls

-- the names of a run
abbrev pub names_of : List (List ℕ) → List (List ℕ)
names_of urls = names_from [] urls

-- the name under which a body is written
unfoldable pub part_of : ℕ → ℕ → List ℕ
part_of process number = codes ".mxfetch-" ++ (decimal process ++ (codes "-" ++ (decimal number ++ codes ".part")))
