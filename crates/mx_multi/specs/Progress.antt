-- The progress of a transfer, by the word of its addition's slot.
use Rattle.std.specs.Prelude.{◌≡◌, ◌⊎◌, ℕ, ◌<◌, ◌≤◌, true, [], ◌∷◌, ◌++◌, List, None, Some}
use Rattle.mx_types.specs.declared.names.HandleId.{HandleId}
use Rattle.mx_types.specs.declared.names.Ticket.{Ticket}
use Rattle.mx_types.specs.declared.event.Event.{Event}
use Rattle.mx_journal.specs.History.{is_legal}
use Rattle.mx_journal.specs.Answers.{ticket_of}
use Rattle.mx_journal.specs.Slots.{slot_of}
use Rattle.mx_board.specs.declared.note.Note.{Note}
use Rattle.mx_board.specs.Answer.{progress_of}
use Rattle.mx_board.specs.Progress.{NoteState, ReadsWord, note, word_of}
use Rattle.mx_board.specs.declared.answer.Progress.{Progress}
use Rattle.mx_board.specs.declared.answer.Progress.TheVariants as progress
use Rattle.mx_multi.specs.Seats.{SeatView}

-- the word of the slot was read, and says this of the ticket
pub record SaysWord (t : Ticket) (slot : ℕ) (before after : NoteState) (p : Progress) : Type 0 where
  pub of : Ticket
  pub count : ℕ
  pub fits : count < 4294967296
  pub word : ReadsWord before slot (word_of of count)
  pub read : after ≡ record before { read = before.read ++ note slot (word_of of count) ∷ [] }
  pub says : p ≡ progress_of t of count

-- the handle is added, and the word of its addition's slot says this of it
pub record SaysAdded (h : HandleId) (j : List Event) (before after : NoteState) (p : Progress) : Type 0 where
  pub ticket : Ticket
  pub slot : ℕ
  pub added : ticket_of h j ≡ Some ticket
  pub at : slot_of ticket j ≡ Some slot
  pub word : SaysWord ticket slot before after p

-- the progress of a handle's transfer by these events: it isn't added, or the word of its slot was read
abbrev pub IsProgress : HandleId → List Event → NoteState → NoteState → Progress → Type 0
IsProgress h j before after p = ((ticket_of h j ≡ None) × (p ≡ progress.NotAdded) × (after ≡ before)) ⊎ SaysAdded h j before after p

-- rule multi-progress-never-falls: Of two answers to one seat for one ticket, the second after no less was seen and read, the later
-- progress is no less.
abbrev pub ProgressNeverFalls : Type 0
ProgressNeverFalls =
    (h g : HandleId) (j more : List Event) (a b c d : NoteState) (since : List Note) (t : Ticket) (n m : ℕ)
    → is_legal (j ++ more) ≡ true → c.read ≡ b.read ++ since
    → IsProgress h j a b (progress.Bytes t n) → IsProgress g (j ++ more) c d (progress.Bytes t m) → n ≤ m

-- the seat has noted a count for the ticket and the slot, and is else as it was
abbrev pub noted_by : {Q O : Type 0} → SeatView Q O → ℕ → Ticket → ℕ → SeatView Q O
noted_by s slot t n = record s { words = record s.words { noted = s.words.noted ++ note slot (word_of t n) ∷ [] } }
