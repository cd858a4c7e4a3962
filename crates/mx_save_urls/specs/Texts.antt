-- The texts of URLs.
use Rattle.std.specs.Prelude.{ℕ, List}
use Rattle.mx_save_rules.specs.Entries.{Told, url, not_text, too_long}

-- the bytes of an entry: the text of its URL
abbrev pub bytes_of : Told → List ℕ
bytes_of (url text) = text
bytes_of (not_text bytes) = bytes
bytes_of (too_long bytes) = bytes
