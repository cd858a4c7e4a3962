-- Progress words: the ticket of a slot's transfer, and how many bytes of its response were received.
use Rattle.std.specs.Prelude.{◌≡◌, ℕ, ◌+◌, ◌-◌, ◌*◌, ◌<◌, ◌≤◌, ◌==◌, if◌then◌else◌, max, List, [], ◌∷◌, ◌++◌, length, slice_index}
use Rattle.std.specs.List.{flat_map, sum_by}
use mathlib.Core.Option.{some}
use lib.ListN.{get_elem?}
use Rattle.atomic_table.specs.Seated.{TableId}
use Rattle.atomic_table.specs.Table.{Me, Step}
use Rattle.mx_types.specs.Limits.{most_handles}
use Rattle.mx_types.specs.declared.names.Ticket.{Ticket}
use Rattle.mx_board.specs.declared.note.Note.{Note}
use Rattle.mx_board.specs.declared.note.NoteView.{NoteView}

-- the word of a ticket and a count: 3 and 5 make 0000000300000005 in hexadecimal
abbrev pub word_of : Ticket → ℕ → ℕ
word_of t n = t.0 * 4294967296 + n

abbrev pub note : ℕ → ℕ → Note
note k x = record { slot = k; word = x }

-- the greatest word of these notes for the slot, or 0
abbrev pub greatest : ℕ → List Note → ℕ
greatest k [] = 0
greatest k (n ∷ ns) = max (if n.slot == k then n.word else 0) (greatest k ns)

-- a seat: its table, how many of the table's seats are joined in it, and what it has noted and read
pub record NoteState : Type 0 where
  pub of : TableId
  pub seats : ℕ
  pub joined : ℕ
  pub noted : List Note
  pub read : List Note

-- a table, and how many seats it was made with
pub record ProgressState : Type 0 where
  pub id : TableId
  pub seats : ℕ

abbrev pub new_seat : ProgressState → NoteState
new_seat t = record { of = t.id; seats = t.seats; joined = 1; noted = []; read = [] }

-- rule board-progress-word: A progress word is the greatest that was noted for its slot, or 0, first by ticket and then by count.
--
-- a seat reads the word for the slot: it is no less than all that it had noted and read there, and where all seats are joined in it the
-- greatest that was noted
pub record ReadsWord (s : NoteState) (k x : ℕ) : Type 0 where
  pub noted : greatest k s.noted ≤ x
  pub read : greatest k s.read ≤ x
  pub whole : s.joined ≡ s.seats → x ≡ greatest k s.noted

-- The rule of the table, and what its steps show. Private functions alone cite what follows.

abbrev pub all_noted : List NoteView → List Note
all_noted views = flat_map (λ v. v.noted) views

-- what is known of each seat: it has read no word that is greater than the slot's, and one that was spent in joining has noted nothing
pub record IsSeat (n : ℕ) (ws : List ℕ) (v : NoteView) : Type 0 where
  pub seats : 0 < v.joined → v.seats ≡ n
  pub read : (k : ℕ) → k < most_handles → greatest k v.read ≤ slice_index ws k
  pub spent : v.joined ≡ 0 → v.noted ≡ []

-- the word of each slot is the greatest that was noted for it, or 0; and each seat of the table is joined in one
pub record IsKept (n : ℕ) (ws : List ℕ) (views : List NoteView) : Type 0 where
  pub wide : length ws ≡ most_handles
  pub words : (k : ℕ) → k < most_handles → slice_index ws k ≡ greatest k (all_noted views)
  pub each : (j : ℕ) (v : NoteView) → get_elem? views j ≡ some v → IsSeat n ws v
  pub joined : sum_by (λ v. v.joined) views ≡ n

abbrev pub view_with : NoteView → List Note → List Note → NoteView
view_with v noted read = record { seats = v.seats; joined = v.joined; noted = noted; read = read }

abbrev pub first_seat : ℕ → NoteView
first_seat n = record { seats = n; joined = n; noted = []; read = [] }

-- one of the seats is split off, and two are joined, of which one is left with nothing
abbrev pub without_one : NoteView → NoteView
without_one v = record { seats = v.seats; joined = v.joined - 1; noted = v.noted; read = v.read }

abbrev pub one_of : NoteView → NoteView
one_of v = record { seats = v.seats; joined = 1; noted = []; read = [] }

abbrev pub spent_seat : NoteView
spent_seat = record { seats = 0; joined = 0; noted = []; read = [] }

abbrev pub both_of : NoteView → NoteView → NoteView
both_of v w = record { seats = v.seats; joined = v.joined + w.joined; noted = v.noted ++ w.noted; read = v.read ++ w.read }

-- the word was noted by the seat
abbrev pub Notes : {S : Type 0} → Step S → Me S NoteView → ℕ → Me S NoteView → Type 0
Notes step before found after = after ≡ (view_with before.0 (before.0.noted ++ note step.word step.first ∷ []) before.0.read, before.1)

abbrev pub state_of : TableId → NoteView → NoteState
state_of id v = record { of = id; seats = v.seats; joined = v.joined; noted = v.noted; read = v.read }

-- the word was read by the seat
abbrev pub Looks : {S : Type 0} → Step S → Me S NoteView → ℕ → Me S NoteView → Type 0
Looks step before found after =
    (after ≡ (view_with before.0 before.0.noted (before.0.read ++ note step.word found ∷ []), before.1))
    × (greatest step.word before.0.noted ≤ found) × (greatest step.word before.0.read ≤ found)
    × (0 < before.0.joined → before.0.joined ≡ before.0.seats → found ≡ greatest step.word before.0.noted)
