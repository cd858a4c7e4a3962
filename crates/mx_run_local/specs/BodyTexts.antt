-- What `body` prints of a whole response.
use Rattle.std.specs.Prelude.{◌≡◌, ℕ, ◌≤◌, ◌-◌, Bool, List, [], ◌∷◌, ◌++◌, length, replicate, codes, if◌then◌else◌}
use Rattle.std.specs.Fmt.{decimal}
use Rattle.mx_body.specs.declared.part.Part.{Part}

-- a status in three digits
abbrev pub three_digits : ℕ → List ℕ
three_digits status = replicate (3 - length (decimal status)) 48 ++ decimal status

abbrev pub yes_or_no : Bool → List ℕ
yes_or_no b = if b then codes "yes" else codes "no"

-- rule program-response-line: The line of a whole response has its status in three digits, the length of its body, whether its connection
-- may be kept, and how many bytes of the input follow it.
unfoldable pub response_line : ℕ → ℕ → Bool → ℕ → List ℕ
response_line status body keep left =
    codes "OK status=" ++ (three_digits status ++ (codes " body=" ++ (decimal body
    ++ (codes " keep=" ++ (yes_or_no keep ++ (codes " left=" ++ (decimal left ++ 10 ∷ [])))))))

-- the piece is within n bytes
abbrev pub StandsWithin : ℕ → Part → Type 0
StandsWithin n part = (part.start ≤ part.end) × (part.end ≤ n)

-- how many bytes it has
abbrev pub part_len : Part → ℕ
part_len part = part.end - part.start

-- Private: what is written is a prefix of the text, and its rest is held.
pub record Holds (Written : List ℕ → Type 0) (text held : List ℕ) : Type 0 where
  pub front : List ℕ
  pub written : Written front
  pub is : text ≡ front ++ held
