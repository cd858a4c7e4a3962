-- The place of a byte in a head: before its status line, within it, or after it (RFC 9112, section 2.1).
use Rattle.std.specs.Prelude.{ℕ, Bool, true, false, ◌||◌, ◌==◌, List, fold, if◌then◌else◌}
use Rattle.httparse.specs.Ascii.{line_feed, carriage_return}
use Rattle.mx_reason.specs.declared.line.Line.{Line}
use Rattle.mx_reason.specs.declared.line.Line.TheVariants.{Before, Within, Behind}

-- after one more byte: CR and LF may come before a status line, and LF ends it
abbrev pub line_after : Line → ℕ → Line
line_after Before b = if b == carriage_return || b == line_feed then Before else Within
line_after Within b = if b == line_feed then Behind else Within
line_after Behind b = Behind

-- after some bytes
abbrev pub line_behind : List ℕ → Line
line_behind bytes = fold line_after Before bytes

abbrev pub is_behind : Line → Bool
is_behind Before = false
is_behind Within = false
is_behind Behind = true
