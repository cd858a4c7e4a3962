use Rattle.std.proofs.Common.{ℕ, List, length}
use denote.Text.{Utf8}
use denote.Shadow.{shadow}
use Rattle.std.specs.List.{Contains}
use Rattle.mx_types.specs.Settings.{SettingsValue}
use Rattle.mx_embedded.specs.Words.{ArePut, lines_of}
use Rattle.mx_embedded.proofs.fields.put_fields.Given as goal

-- what is left puts in the rest of the fields, and its lines are of the text
abbrev pub invariant-loop-line : goal.invariant-loop-line
invariant-loop-line l =
    shadow (Utf8 l.rest)
    × ((after : SettingsValue) → ArePut (lines_of l.rest) l.settings after → ArePut (lines_of l.fn.lines) l.fn.settings after)
    × ((line : List ℕ) → Contains (lines_of l.rest) line → Contains (lines_of l.fn.lines) line)

abbrev pub decreases-loop-line : goal.decreases-loop-line
decreases-loop-line l = length l.rest
