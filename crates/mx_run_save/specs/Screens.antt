-- The line that shows how a run stands.
use Rattle.std.specs.Prelude.{ℕ, ◌-◌, ◌++◌, List, take, codes}

-- the rest of a line is erased (ECMA-48, section 8.3.41), and the cursor goes to its start
abbrev pub erase : List ℕ
erase = codes "\u{1b}[K\r"

-- how many milliseconds lie between two moments at which it is drawn, at least
abbrev pub period_ms : ℕ
period_ms = 250

-- rule save-progress: The line that shows how a run stands is drawn four times a second at most, fits the columns of the terminal, and leaves
-- the cursor at its start.
--
-- the line of a text in ASCII, where there are so many columns: one is left free
abbrev pub progress_line : List ℕ → ℕ → List ℕ
progress_line text columns = take (columns - 1) text ++ erase
