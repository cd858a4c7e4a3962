-- What holds of every script, whatever the lengths of the buffers are, and of every history of answers.
use Rattle.std.specs.Prelude.{◌≡◌, ◌⊎◌, ◌<◌, ◌+◌, ◌-◌, ◌^◌, ℕ, min, true, if◌then◌else◌, List, [], ◌∷◌, ◌++◌}
use Rattle.std.specs.List.{AllByRecursion, filter_map}
use Rattle.mx_link.specs.declared.answers.Answer.{Answer}
use Rattle.mx_link.specs.declared.answers.Answer.TheVariants as answers
use Rattle.mx_link.specs.declared.scripted.ScriptRead.{ScriptRead}
use Rattle.mx_link.specs.declared.scripted.ScriptRead.TheVariants as read
use Rattle.mx_link.specs.Answers.{given, is_fault, faults, is_blocked, blocks}
use Rattle.mx_link.specs.Script.{planned, next_read}

-- the answers to reads into buffers of these lengths, and what is planned after them
abbrev pub reads_of : List Answer → List ℕ → List Answer × List Answer
reads_of plan [] = ([], plan)
reads_of plan (len ∷ lens) =
    let next = next_read plan len in
    let later = reads_of next.1 lens in
    (next.0 ∷ later.0, later.1)

-- The bytes that the reads give, and after them those that are left, are the bytes that were planned.
abbrev pub ReadsLoseNothing : Type 0
ReadsLoseNothing = (plan : List Answer) (lens : List ℕ) → given (reads_of plan lens).0 ++ given (reads_of plan lens).1 ≡ given plan

-- the bytes of a script up to its first entry that isn't bytes
abbrev pub script_front : List ScriptRead → List ℕ
script_front (read.Bytes bytes ∷ rest) = bytes.now ++ script_front rest
script_front _ = []

-- what reads gave before the first answer that isn't bytes
abbrev pub given_front : List Answer → List ℕ
given_front (answers.Gave bytes ∷ rest) = bytes ++ given_front rest
given_front _ = []

-- the answer is bytes
abbrev pub IsBytes : Answer → Type 0
IsBytes (answers.Gave bytes) = Unit {0}
IsBytes _ = ⊥

-- What the reads gave is a prefix of the script, and the whole of it once an answer isn't bytes.
pub record GivesFront (script : List ScriptRead) (reads : List Answer) : Type 0 where
  pub later : List ℕ
  pub joined : given_front reads ++ later ≡ script_front script
  pub whole : AllByRecursion IsBytes reads ⊎ (later ≡ [])

-- The reads joined give back the script's bytes up to its first answer that isn't bytes.
abbrev pub ReadsGiveTheScript : Type 0
ReadsGiveTheScript =
    (script : List ScriptRead) (lens : List ℕ) → GivesFront script (reads_of (filter_map planned script) lens).0

-- what `failures` gives after these answers
abbrev pub failures_after : List Answer → ℕ
failures_after history = min (faults history) (2 ^ 64 - 1)

-- One more answer: the count rises only at a fault, and at each fault, until it is full.
pub record Counts (before : List Answer) (answer : Answer) : Type 0 where
  pub only : failures_after before < failures_after (before ++ answer ∷ []) → is_fault answer ≡ true
  pub each : is_fault answer ≡ true → (failures_after (before ++ answer ∷ []) ≡ failures_after before + 1) ⊎ (failures_after before ≡ 2 ^ 64 - 1)

abbrev pub FaultsAreCounted : Type 0
FaultsAreCounted = (before : List Answer) (answer : Answer) → Counts before answer

-- One more answer: the count of calls that would have waited rises by one at each of them, and at no other.
abbrev pub WaitsAreCounted : Type 0
WaitsAreCounted =
    (before : List Answer) (answer : Answer)
    → blocks (before ++ answer ∷ []) ≡ blocks before + (if is_blocked answer then 1 else 0)
