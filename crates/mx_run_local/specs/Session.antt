-- What a session of `mxfetch play` has taken in and printed.
use Rattle.std.specs.Prelude.{◌≡◌, ◌≢◌, ℕ, ◌+◌, List, [], ◌∷◌, ◌++◌, Option, Some, None}
use Rattle.std.specs.List.{AllByRecursion}
use Rattle.std.specs.Io.KnownBytes.{Consumes}
use Rattle.mx_run_local.specs.declared.session.Session.{Session}
use Rattle.mx_run_local.specs.declared.session.Turn.{Turn}
use Rattle.mx_run_local.specs.declared.session.Turn.TheVariants as turn
use Rattle.mx_run_local.specs.Script.{lines_of, line_of}
use Rattle.mx_run_local.specs.Run.{Outcome, after, outcome, IsScript, past_lines, WantsEvent}

-- no byte ends a line
abbrev pub IsUnended : List ℕ → Type 0
IsUnended text = AllByRecursion (λ b. b ≢ 10) text

-- the run of these lines, which come next
abbrev pub rest_of : Session → List (List ℕ) → Outcome
rest_of s texts = outcome texts s.player (s.lines + 1)

abbrev pub ran : List ℕ → ℕ → Outcome
ran printed status = record { text = printed; status = status }

-- what it printed for some lines, and what their run is with any more after them
pub record Tells (s : Session) (told : List (List ℕ)) (t : Session) (printed : List ℕ) : Type 0 where
  pub player : t.player ≡ past_lines told s.player
  pub run : (more : List (List ℕ)) → rest_of s (told ++ more) ≡ after printed (rest_of t more)

-- the bytes ended those lines
pub record Ends (s : Session) (bytes : List ℕ) (told : List (List ℕ)) (t : Session) : Type 0 where
  pub cut : (rest : List ℕ) → lines_of (s.line.items ++ (bytes ++ rest)) ≡ told ++ lines_of (t.line.items ++ rest)
  pub unended : IsUnended t.line.items

-- a bad line ended the run
abbrev pub IsLast : Session → List ℕ → List ℕ → Type 0
IsLast s bytes printed =
    (rest : List ℕ) → rest_of s (lines_of (s.line.items ++ (bytes ++ rest))) ≡ ran printed 122

-- memory for the event of the line after those was refused
pub record Stops (s : Session) (bytes : List ℕ) (printed : List ℕ) : Type 0 where
  pub told : List (List ℕ)
  pub text : List ℕ
  pub unanswered : (rest : List ℕ)
      → (more : List (List ℕ)) × (lines_of (s.line.items ++ (bytes ++ rest)) ≡ told ++ text ∷ more)
  pub wants : WantsEvent (past_lines told s.player) (line_of text)
  pub run : rest_of s told ≡ ran printed 0

pub record GoesOn (s : Session) (bytes : List ℕ) (t : Session) (printed : List ℕ) : Type 0 where
  pub told : List (List ℕ)
  pub tells : Tells s told t printed
  pub ends : Ends s bytes told t

abbrev pub Follows : Session → List ℕ → Turn → Session → List ℕ → Type 0
Follows s bytes turn.On t printed = GoesOn s bytes t printed
Follows s bytes turn.Bad t printed = IsLast s bytes printed
Follows s bytes turn.NoMemory t printed = Stops s bytes printed

-- The line in the session ended: what that printed is what is written.
pub record TellsLine (s t : Session) (Written : List ℕ → Type 0) : Type 0 where
  pub printed : List ℕ
  pub written : Written printed
  pub tells : Tells s (s.line.items ∷ []) t printed
  pub empty : t.line.items ≡ []

-- It was bad, and ended the run: what that printed is what is written.
pub record TellsBadLine (s : Session) (Written : List ℕ → Type 0) : Type 0 where
  pub printed : List ℕ
  pub written : Written printed
  pub last : (more : List (List ℕ)) → rest_of s (s.line.items ∷ more) ≡ ran printed 122

abbrev pub EndsLine : Session → Turn → Session → (List ℕ → Type 0) → Type 0
EndsLine s turn.On t Written = TellsLine s t Written
EndsLine s turn.Bad t Written = TellsBadLine s Written
EndsLine s turn.NoMemory t Written = Written [] × WantsEvent s.player (line_of s.line.items)

-- Bytes were taken in: what that printed is what is written.
pub record Plays (s : Session) (bytes : List ℕ) (next : Turn) (t : Session) (Written : List ℕ → Type 0) : Type 0 where
  pub printed : List ℕ
  pub written : Written printed
  pub follows : Follows s bytes next t printed

-- The whole script was played, and its run ends with that status.
pub record RanWhole (s : Session) (status : ℕ) (known : Option (List ℕ)) (Written : List ℕ → Type 0) : Type 0 where
  pub script : List ℕ
  pub is_it : IsScript known script
  pub printed : List ℕ
  pub run : rest_of s (lines_of (s.line.items ++ script)) ≡ ran printed status
  pub written : Written printed

-- Memory for a line of the script was refused.
pub record RanShort (s : Session) (known : Option (List ℕ)) (Written : List ℕ → Type 0) : Type 0 where
  pub script : List ℕ
  pub is_it : IsScript known script
  pub told : List (List ℕ)
  pub unanswered : List ℕ
  pub more : List (List ℕ)
  pub cut : lines_of (s.line.items ++ script) ≡ told ++ unanswered ∷ more
  pub wants : WantsEvent (past_lines told s.player) (line_of unanswered)
  pub printed : List ℕ
  pub run : rest_of s told ≡ ran printed 0
  pub written : Written printed

-- A read failed: the lines that had ended were played.
pub record RanUnread (s : Session) (known left : Option (List ℕ)) (Written : List ℕ → Type 0) : Type 0 where
  pub front : List ℕ
  pub given : Consumes known left front
  pub told : List (List ℕ)
  pub last : List ℕ
  pub cut : lines_of (s.line.items ++ front) ≡ told ++ last ∷ []
  pub printed : List ℕ
  pub run : rest_of s told ≡ ran printed 0
  pub written : Written printed

abbrev pub PlaysAll : Session → Option Turn → Option (List ℕ) → Option (List ℕ) → (List ℕ → Type 0) → Type 0
PlaysAll s (Some turn.On) known left Written = RanWhole s 0 known Written
PlaysAll s (Some turn.Bad) known left Written = RanWhole s 122 known Written
PlaysAll s (Some turn.NoMemory) known left Written = RanShort s known Written
PlaysAll s None known left Written = RanUnread s known left Written
