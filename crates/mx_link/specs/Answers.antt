-- What follows from the answers that a link gave, in order.
use Rattle.std.specs.Prelude.{ℕ, Bool, true, false, List, [], count_by}
use Rattle.std.specs.List.{flat_map}
use Rattle.mx_link.specs.declared.answers.Answer.{Answer}
use Rattle.mx_link.specs.declared.answers.Answer.TheVariants as answers

-- the bytes that an answer gave
abbrev pub given_by : Answer → List ℕ
given_by (answers.Gave bytes) = bytes
given_by _ = []

-- the bytes that an answer took
abbrev pub taken_by : Answer → List ℕ
taken_by (answers.Took bytes) = bytes
taken_by _ = []

-- the call failed
abbrev pub is_fault : Answer → Bool
is_fault answers.ConnectFailed = true
is_fault answers.ReadFailed = true
is_fault answers.WriteFailed = true
is_fault _ = false

-- the call would have waited
abbrev pub is_blocked : Answer → Bool
is_blocked answers.ConnectBlocked = true
is_blocked answers.ReadBlocked = true
is_blocked answers.WriteBlocked = true
is_blocked _ = false

-- the answer to the question whether the connection is made
abbrev pub is_connect : Answer → Bool
is_connect answers.Connected = true
is_connect answers.ConnectBlocked = true
is_connect answers.ConnectFailed = true
is_connect _ = false

-- the answer to a read
abbrev pub is_read : Answer → Bool
is_read (answers.Gave bytes) = true
is_read answers.ReadBlocked = true
is_read answers.ReadEnded = true
is_read answers.ReadFailed = true
is_read _ = false

-- the answer to a write
abbrev pub is_write : Answer → Bool
is_write (answers.Took bytes) = true
is_write answers.WriteBlocked = true
is_write answers.WriteFailed = true
is_write _ = false

-- the other side has ended
abbrev pub is_end : Answer → Bool
is_end answers.ReadEnded = true
is_end _ = false

-- what the reads gave
abbrev pub given : List Answer → List ℕ
given history = flat_map given_by history

-- what the writes took
abbrev pub taken : List Answer → List ℕ
taken history = flat_map taken_by history

-- rule link-failures: Each fault, and nothing else, raises a link's count of failures.
--
-- how many calls failed
abbrev pub faults : List Answer → ℕ
faults history = count_by is_fault history

-- how many calls would have waited
abbrev pub blocks : List Answer → ℕ
blocks history = count_by is_blocked history
