-- What a scripted link answers.
use Rattle.std.specs.Prelude.{ℕ, ◌==◌, nat_le, Bool, true, not, List, [], ◌∷◌, take, drop, length, Option, Some, None, if◌then◌else◌}
use Rattle.mx_link.specs.declared.answers.Answer.{Answer}
use Rattle.mx_link.specs.declared.answers.Answer.TheVariants as answers
use Rattle.mx_link.specs.declared.answers.Write.{Write}
use Rattle.mx_link.specs.declared.answers.Write.TheVariants as write
use Rattle.mx_link.specs.declared.scripted.ScriptRead.{ScriptRead}
use Rattle.mx_link.specs.declared.scripted.ScriptRead.TheVariants as read

-- what contracts see of a scripted link: what is planned for reads and for writes, its answers so far, and how many bytes it was
-- asked for at each
pub record Script : Type 0 where
  pub reads : List Answer
  pub writes : List Write
  pub history : List Answer
  pub asked : List ℕ

-- the answer that an entry plans; one of no bytes plans none
abbrev pub planned : ScriptRead → Option Answer
planned (read.Bytes bytes) = if length bytes.now == 0 then None else Some (answers.Gave bytes.now)
planned read.WouldBlock = Some answers.ReadBlocked
planned read.End = Some answers.ReadEnded
planned read.Fault = Some answers.ReadFailed

-- the entry plans an answer: it doesn't take 0 bytes
abbrev pub is_planned : Write → Bool
is_planned (write.Bytes n) = not (n == 0)
is_planned _ = true

-- The answer to a read into a buffer of this length, and what is planned after it.
-- What the buffer can't hold comes with the next read; after the plan comes the end.
abbrev pub next_read : List Answer → ℕ → Answer × List Answer
next_read [] len = (answers.ReadEnded, [])
next_read (answers.Gave bytes ∷ rest) len =
    if nat_le (length bytes) len then (answers.Gave bytes, rest)
    else (answers.Gave (take len bytes), answers.Gave (drop len bytes) ∷ rest)
next_read (answer ∷ rest) len = (answer, rest)

-- The answer to a write of these bytes, and what is planned after it. After the plan a write takes everything.
abbrev pub next_write : List Write → List ℕ → Answer × List Write
next_write [] bytes = (answers.Took bytes, [])
next_write (write.Bytes n ∷ rest) bytes = (answers.Took (take n bytes), rest)
next_write (write.WouldBlock ∷ rest) bytes = (answers.WriteBlocked, rest)
next_write (write.Fault ∷ rest) bytes = (answers.WriteFailed, rest)
