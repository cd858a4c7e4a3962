-- The order of the calls on a link that serves a request, and how much each asks for.
use Rattle.std.specs.Prelude.{◌≡◌, ◌≢◌, ℕ, ◌<◌, ◌≤◌, ◌-◌, Bool, true, false, ◌||◌, List, [], ◌∷◌, ◌++◌, length, if◌then◌else◌}
use Rattle.std.specs.List.{list_any}
use Rattle.mx_link.specs.Answers.{taken, is_read, is_write}
use Rattle.mx_link.specs.declared.answers.Answer.{Answer}
use Rattle.mx_link.specs.declared.answers.Answer.TheVariants as said

-- the link says that its connection is made
abbrev pub is_connected : Answer → Bool
is_connected said.Connected = true
is_connected _ = false

-- a fault, or the end of what the other side sends
abbrev pub is_last : Answer → Bool
is_last said.ConnectFailed = true
is_last said.ReadEnded = true
is_last said.ReadFailed = true
is_last said.WriteFailed = true
is_last _ = false

-- the connection is made: the link was in use before, or has said so
abbrev pub stands : Bool → List Answer → Bool
stands reused before = reused || list_any is_connected before

-- it is made, and the link hasn't taken all of the bytes: what it takes now are the first that it hasn't taken
abbrev pub MayWrite : Bool → List ℕ → List Answer → List ℕ → Type 0
MayWrite reused bytes before piece =
    (stands reused before ≡ true)
    × ((unsent : List ℕ) × (bytes ≡ taken before ++ (piece ++ unsent)) × (piece ++ unsent ≢ []))

-- it is made, and the link has taken all of the bytes
abbrev pub MayRead : Bool → List ℕ → List Answer → Type 0
MayRead reused bytes before = (stands reused before ≡ true) × (taken before ≡ bytes)

-- the most bytes of one read
abbrev pub most_read : ℕ
most_read = 16384

-- the most writes of one turn
abbrev pub most_turn_writes : ℕ
most_turn_writes = 64

-- it is made, and the link has taken all of the bytes; what a read gives is some bytes, and no more than a read asks for
abbrev pub MayGive : Bool → List ℕ → List Answer → List ℕ → Type 0
MayGive reused bytes before piece = MayRead reused bytes before × (0 < length piece) × (length piece ≤ most_read)

-- The answer may come after those before it. A link is asked whether it is connected until it is, then takes the bytes from the front, and
-- is read once it has taken all of them.
abbrev pub MayFollow : Bool → List ℕ → List Answer → Answer → Type 0
MayFollow reused bytes before said.Connected = stands reused before ≡ false
MayFollow reused bytes before said.ConnectBlocked = stands reused before ≡ false
MayFollow reused bytes before said.ConnectFailed = stands reused before ≡ false
MayFollow reused bytes before (said.Took piece) = MayWrite reused bytes before piece
MayFollow reused bytes before said.WriteBlocked = MayWrite reused bytes before []
MayFollow reused bytes before said.WriteFailed = MayWrite reused bytes before []
MayFollow reused bytes before (said.Gave piece) = MayGive reused bytes before piece
MayFollow reused bytes before said.ReadBlocked = MayRead reused bytes before
MayFollow reused bytes before said.ReadEnded = MayRead reused bytes before
MayFollow reused bytes before said.ReadFailed = MayRead reused bytes before

-- each of these answers may come after those before it, and none comes after a fault or the end
abbrev pub FollowInOrder : Bool → List ℕ → List Answer → List Answer → Type 0
FollowInOrder reused bytes before [] = Unit {0}
FollowInOrder reused bytes before (answer ∷ rest) =
    (list_any is_last before ≡ false) × MayFollow reused bytes before answer
    × FollowInOrder reused bytes (before ++ answer ∷ []) rest

-- the answers, from the first on, of a link that is to take these bytes
abbrev pub InOrder : Bool → List ℕ → List Answer → Type 0
InOrder reused bytes answers = FollowInOrder reused bytes [] answers

-- rule exchange-call-sizes: A read asks for 16,384 bytes, and a write offers all of the request that the link hasn't taken.
--
-- How many bytes the link is asked for where it answers so after those before.
abbrev pub asked_at : List ℕ → List Answer → Answer → ℕ
asked_at bytes before answer =
    if is_read answer then most_read else (if is_write answer then length bytes - length (taken before) else 0)

-- the same of each of these answers
abbrev pub asked_from : List ℕ → List Answer → List Answer → List ℕ
asked_from bytes before [] = []
asked_from bytes before (answer ∷ rest) = asked_at bytes before answer ∷ asked_from bytes (before ++ answer ∷ []) rest

-- the same of the answers, from the first on, of a link that is to take these bytes
abbrev pub asks_of : List ℕ → List Answer → List ℕ
asks_of bytes answers = asked_from bytes [] answers
