-- The answer of a call's result, and what is known of a link's calls.
use Rattle.std.specs.Prelude.{ℕ, ◌≤◌, List, [], ◌∷◌, ◌++◌, take}
use Rattle.mx_link.specs.declared.answers.Answer.{Answer}
use Rattle.mx_link.specs.declared.answers.Answer.TheVariants as answers
use Rattle.mx_link.specs.declared.answers.Connect.{Connect}
use Rattle.mx_link.specs.declared.answers.Connect.TheVariants as connect
use Rattle.mx_link.specs.declared.answers.Read.{Read}
use Rattle.mx_link.specs.declared.answers.Read.TheVariants as read
use Rattle.mx_link.specs.declared.answers.Write.{Write}
use Rattle.mx_link.specs.declared.answers.Write.TheVariants as write

abbrev pub connect_answer : Connect → Answer
connect_answer connect.Done = answers.Connected
connect_answer connect.WouldBlock = answers.ConnectBlocked
connect_answer connect.Fault = answers.ConnectFailed

-- of a read that left the buffer so
abbrev pub read_answer : Read → List ℕ → Answer
read_answer (read.Bytes n) buffer = answers.Gave (take n buffer)
read_answer read.WouldBlock buffer = answers.ReadBlocked
read_answer read.End buffer = answers.ReadEnded
read_answer read.Fault buffer = answers.ReadFailed

-- of a write of these bytes
abbrev pub write_answer : Write → List ℕ → Answer
write_answer (write.Bytes n) bytes = answers.Took (take n bytes)
write_answer write.WouldBlock bytes = answers.WriteBlocked
write_answer write.Fault bytes = answers.WriteFailed

-- rule link-counts: A read gives, and a write takes, at least 1 byte and at most what the slice has room for.
--
-- a count of bytes read is at least 1 and at most the buffer's length
abbrev pub IsReadWithin : Read → ℕ → Type 0
IsReadWithin (read.Bytes n) len = (1 ≤ n) × (n ≤ len)
IsReadWithin _ len = Unit {0}

-- a count of bytes written is at least 1 and at most the length of what was to be written
abbrev pub IsWriteWithin : Write → ℕ → Type 0
IsWriteWithin (write.Bytes n) len = (1 ≤ n) × (n ≤ len)
IsWriteWithin _ len = Unit {0}

-- what is known of a link's calls so far: its answers, and how many bytes it was asked for at each
pub record Told : Type 0 where
  pub history : List Answer
  pub asked : List ℕ

-- and after one more
abbrev pub with_answer : Told → Answer → ℕ → Told
with_answer told answer len = record { history = told.history ++ answer ∷ []; asked = told.asked ++ len ∷ [] }
