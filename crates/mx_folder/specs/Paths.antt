-- The path in the text of a URL (RFC 3986, 3 and 3.3), as written.
use Rattle.std.specs.Prelude.{ℕ, ◌==◌, nat_eq, Bool, not, List, drop, take_while, codes, reverse}
use Rattle.std.specs.List.{list_any, prefix_len}

abbrev pub is_among : List ℕ → ℕ → Bool
is_among bytes b = list_any (λ other. nat_eq other b) bytes

-- what is before the first of these bytes
abbrev pub before : List ℕ → List ℕ → List ℕ
before stops text = take_while (λ b. not (is_among stops b)) text

-- the first of these bytes, and what follows it
abbrev pub from : List ℕ → List ℕ → List ℕ
from stops text = drop (prefix_len (λ b. not (is_among stops b)) text) text

-- what follows as many of these bytes as there are in front
abbrev pub behind : List ℕ → List ℕ → List ℕ
behind skipped text = drop (prefix_len (is_among skipped) text) text

-- rule file-url-path: The path of a URL is found in its text, as written (RFC 3986, section 3).
--
-- The authority follows the colon of the scheme and the slashes, up to a slash, a question mark or a number sign; then comes the path, up
-- to the query or the fragment.
unfoldable pub path_of : List ℕ → List ℕ
path_of url = before (codes "?#") (from (codes "/?#") (behind (codes ":/") (from (codes ":") url)))

-- the last segment: read from the end, all up to a slash
abbrev pub last_segment : List ℕ → List ℕ
last_segment path = reverse (take_while (λ b. not (b == 47)) (reverse path))
