-- What playing a script prints, and how it ends.
use Rattle.std.specs.Prelude.{◌≡◌, ℕ, ◌+◌, ◌<◌, ◌≤◌, ◌⊎◌, Bool, true, List, [], ◌∷◌, ◌++◌, codes, decimal, Option, IfSome}
use Rattle.std.specs.Io.KnownBytes.{Consumes}
use Rattle.mx_run_local.specs.declared.script.Line.{Line}
use Rattle.mx_run_local.specs.declared.script.Line.TheVariants as line
use Rattle.mx_run_io.specs.Faults.{fault_line, PrintsFault}
use Rattle.mx_run_local.specs.Script.{line_of, lines_of}
use Rattle.mx_run_local.specs.Texts.{said_text}
use Rattle.mx_run_local.specs.Turns.{PlayerView, says, player_past, says_retiring, past_retiring, MakesEvent}

-- the reads of a script
abbrev pub most_script_reads : ℕ
most_script_reads = 4294967295

-- the text of a run, and its exit status
pub record Outcome : Type 0 where
  pub text : List ℕ
  pub status : ℕ

abbrev pub after : List ℕ → Outcome → Outcome
after text o = record { text = text ++ o.text; status = o.status }

-- the line with a bad line's number
abbrev pub bad_line_text : ℕ → List ℕ
bad_line_text number = codes "bad-line " ++ (decimal number ++ 10 ∷ [])

-- a line, and then the rest: a bad line is printed with its number and ends the run
abbrev pub outcome_with : PlayerView → ℕ → Line → (PlayerView → Outcome) → Outcome
outcome_with p number line.Silent rest = rest p
outcome_with p number (line.Call c) rest = after (said_text (says p c)) (rest (player_past p c))
outcome_with p number line.Retire rest = after (said_text (says_retiring p)) (rest (past_retiring p))
outcome_with p number line.Bad rest = record { text = bad_line_text number; status = 122 }

-- the run of lines from that player on, where the first of them has that number
unfoldable pub outcome : List (List ℕ) → PlayerView → ℕ → Outcome
outcome [] p number = record { text = []; status = 0 }
outcome (text ∷ more) p number = outcome_with p number (line_of text) (λ q. outcome more q (number + 1))

-- the player at first: with room for so many events, and the first ticket
abbrev pub fresh : ℕ → ℕ → PlayerView
fresh history first = record { opening = record { history = history; first = first; from = 0 }; journal = []; claims = []; mark = 0 }

-- the run of some lines from the first on, and the run of a script, by that player
abbrev pub run_of_lines : PlayerView → List (List ℕ) → Outcome
run_of_lines p texts = outcome texts p 1

abbrev pub run_of : PlayerView → List ℕ → Outcome
run_of p script = run_of_lines p (lines_of script)

-- the script is what the reader had, where that is known
abbrev pub IsScript : Option (List ℕ) → List ℕ → Type 0
IsScript known script = IfSome known (λ all. all ≡ script)

-- What is written is the run of the script, and the program ends with its status.
pub record PrintsRun (p : PlayerView) (known : Option (List ℕ)) (Written : List ℕ → Type 0) (ends_with : ℕ) : Type 0 where
  pub script : List ℕ
  pub is_it : IsScript known script
  pub written : Written (run_of p script).text
  pub status : ends_with ≡ (run_of p script).status

-- The reader gave these bytes, and then a read failed: what is written is the run of the lines that they ended, none of which was bad, and
-- then the fault, and the program ends with its number. The last line was open.
pub record PrintsUnread (p : PlayerView) (known left : Option (List ℕ)) (Written : List ℕ → Type 0) (ends_with : ℕ) : Type 0 where
  pub front : List ℕ
  pub given : Consumes known left front
  pub told : List (List ℕ)
  pub last : List ℕ
  pub cut : lines_of front ≡ told ++ last ∷ []
  pub good : (run_of_lines p told).status ≡ 0
  pub written : Written ((run_of_lines p told).text ++ fault_line 56)
  pub status : ends_with ≡ 56

-- what a player has after a line, and after some lines
abbrev pub past_line : PlayerView → Line → PlayerView
past_line p line.Silent = p
past_line p (line.Call c) = player_past p c
past_line p line.Retire = past_retiring p
past_line p line.Bad = p

abbrev pub past_lines : List (List ℕ) → PlayerView → PlayerView
past_lines [] p = p
past_lines (text ∷ more) p = past_lines more (past_line p (line_of text))

-- the line is a call whose answer has an event
abbrev pub WantsEvent : PlayerView → Line → Type 0
WantsEvent p line.Silent = ⊥
WantsEvent p (line.Call c) = MakesEvent p c
WantsEvent p line.Retire = ⊥
WantsEvent p line.Bad = ⊥

-- rule program-out-of-memory: Out of memory is `FAULT 27`, in `play` after the replies to the lines before, in `get` after
-- the ends of the first URLs.
--
-- Memory for the event of some line's call was refused: what is written is the run of the lines before it, none of which was bad, and then
-- the fault, and the program ends with its number.
pub record PrintsNoMemory (p : PlayerView) (known : Option (List ℕ)) (Written : List ℕ → Type 0) (ends_with : ℕ) : Type 0 where
  pub script : List ℕ
  pub is_it : IsScript known script
  pub told : List (List ℕ)
  pub unanswered : List ℕ
  pub more : List (List ℕ)
  pub cut : lines_of script ≡ told ++ unanswered ∷ more
  pub good : (run_of_lines p told).status ≡ 0
  pub wants : WantsEvent (past_lines told p) (line_of unanswered)
  pub written : Written ((run_of_lines p told).text ++ fault_line 27)
  pub status : ends_with ≡ 27

-- Memory for a player was refused: nothing was read, and the fault is all that is printed.
pub record PrintsNoPlayer (reads_before reads_after : ℕ) (Written : List ℕ → Type 0) (ends_with : ℕ) : Type 0 where
  pub unread : reads_after ≡ reads_before
  pub printed : PrintsFault 27 Written ends_with

-- The run of the whole script is printed, or out of memory: at a line whose call makes an event, or before any read.
abbrev pub AnswersScript : PlayerView → ℕ → ℕ → Option (List ℕ) → (List ℕ → Type 0) → ℕ → Type 0
AnswersScript p reads_before reads_after known Written ends_with =
    PrintsRun p known Written ends_with
    ⊎ (PrintsNoMemory p known Written ends_with ⊎ PrintsNoPlayer reads_before reads_after Written ends_with)

-- A failed input had failed before, or was read, or had no reads left.
abbrev pub WasAsked : Bool → ℕ → ℕ → ℕ → Type 0
WasAsked failed_before most reads_before reads_after =
    (failed_before ≡ true) ⊎ ((reads_before < reads_after) ⊎ (most ≤ reads_after))
