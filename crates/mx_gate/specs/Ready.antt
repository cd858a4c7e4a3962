-- A link that makes no further call before something new was reported of it.
use Rattle.std.specs.Prelude.{◌≡◌, ℕ, ◌<◌, nat_lt, Bool, true, false, List, [], ◌∷◌, ◌++◌, ◌⊎◌, length, if◌then◌else◌}
use Rattle.std.specs.List.{filter}
use Rattle.mx_link.specs.Answers.{given, taken, faults, is_blocked, is_read}
use Rattle.mx_link.specs.declared.answers.Answer.{Answer}
use Rattle.mx_link.specs.declared.answers.Answer.TheVariants as answers

-- What contracts see of it: the link, its own answers so far, how many bytes it was asked for at each, whether the link would have waited
-- when it was last asked to connect, to read, and to write, and whether its last read left nothing to be read.
pub record ReadyState (L : Type 0) : Type 0 where
  pub link : L
  pub history : List Answer
  pub asked : List ℕ
  pub waits_to_connect : Bool
  pub waits_to_read : Bool
  pub waits_to_write : Bool
  pub is_drained : Bool

-- the call did not have to wait
abbrev pub is_told : Answer → Bool
is_told answer = if is_blocked answer then false else true

-- the answers that say something: all but those of calls that would have waited
abbrev pub telling : List Answer → List Answer
telling history = filter is_told history

-- whether the last answer of this kind was that the call would have waited; so if there is none of this kind
abbrev pub waits : (Answer → Bool) → Bool → List Answer → Bool
waits kind so [] = so
waits kind so (answer ∷ rest) = waits kind (if kind answer then is_blocked answer else so) rest

-- rule gate-waiting-link: A link that would have waited makes no system call before something new is reported of its connection.
--
-- The link answered so; or it wasn't asked, as the last it answered to this was that it would have waited, and so is this answer.
abbrev pub IsAnswered : (Answer → Bool) → List Answer → List Answer → Answer → Type 0
IsAnswered kind before after answer =
    (after ≡ before ++ answer ∷ [])
    ⊎ ((after ≡ before) × (is_blocked answer ≡ true) × (waits kind false before ≡ true))

-- a read that gave fewer bytes than it was asked for: it gave all that was there
abbrev pub is_short : Answer → ℕ → Bool
is_short (answers.Gave bytes) asked = nat_lt (length bytes) asked
is_short _ asked = false

-- rule gate-short-read
-- whether the last read of these calls, by what each answered and was asked for, was short; so if there is none
abbrev pub drained : Bool → List Answer → List ℕ → Bool
drained so [] asked = so
drained so (answer ∷ rest) [] = so
drained so (answer ∷ rest) (n ∷ more) = drained (if is_read answer then is_short answer n else so) rest more

-- rule gate-short-read: After a read that gave fewer bytes than it was asked for, a link makes no further read before something new is
-- reported of its connection, but for one byte, or where the end was reported.
--
-- A read was answered so; or it wasn't asked, as the last read was short, and so is this answer. A read of one byte is asked.
abbrev pub IsReadAnswered : List Answer → List ℕ → List Answer → Answer → ℕ → Type 0
IsReadAnswered before asked after answer len =
    IsAnswered is_read before after answer
    ⊎ ((after ≡ before) × (is_blocked answer ≡ true) × (drained false before asked ≡ true) × (1 < len))

-- where the same answers say something, the same bytes were given and taken, and as many calls failed
pub record TellAlike (some others : List Answer) : Type 0 where
  pub given : given some ≡ given others
  pub taken : taken some ≡ taken others
  pub faults : faults some ≡ faults others

abbrev pub WaitsTellNothing : Type 0
WaitsTellNothing = (some others : List Answer) → telling some ≡ telling others → TellAlike some others
