-- What the results of a stream's calls mean (read(2), write(2), connect(2), with errors by their kind).
use Rattle.std.specs.Prelude.{◌≡◌, ℕ, ◌≤◌, ◌==◌, Bool, true, false, List, [], ◌∷◌, ◌++◌, length, replicate, take, Option, Some, None, Result, Ok, Err, if◌then◌else◌}
use Rattle.std.specs.IoError.{error_kind}
use Rattle.std.specs.declared.io.Error.{Error}
use Rattle.std.specs.declared.io.ErrorKind.{ErrorKind}
use Rattle.std.specs.declared.io.ErrorKind.TheVariants as kind
use Rattle.mx_link.specs.declared.answers.Answer.{Answer}
use Rattle.mx_link.specs.declared.answers.Connect.{Connect}
use Rattle.mx_link.specs.declared.answers.Connect.TheVariants as connect
use Rattle.mx_link.specs.declared.answers.Read.{Read}
use Rattle.mx_link.specs.declared.answers.Read.TheVariants as read
use Rattle.mx_link.specs.declared.answers.Write.{Write}
use Rattle.mx_link.specs.declared.answers.Write.TheVariants as write
use Rattle.mx_link.specs.declared.streams.Called.{Called}
use Rattle.mx_link.specs.declared.streams.Called.TheVariants as called

-- the kind of the error in place of the error
abbrev pub by_kind : Result ℕ Error → Result ℕ ErrorKind
by_kind (Ok n) = Ok n
by_kind (Err e) = Err (error_kind e)

-- what contracts see of a link over a stream: the stream, the number under which its readiness is reported, its answers so far, and
-- how many bytes it was asked for at each
pub record StreamState (S : Type 0) : Type 0 where
  pub stream : S
  pub token : ℕ
  pub history : List Answer
  pub asked : List ℕ

-- the call would have waited (EAGAIN)
abbrev pub is_wait : ErrorKind → Bool
is_wait kind.WouldBlock = true
is_wait _ = false

-- the call is to be made again (EINTR)
abbrev pub is_interrupted : Result ℕ ErrorKind → Bool
is_interrupted (Err kind.Interrupted) = true
is_interrupted _ = false

-- the connection is still being made
abbrev pub is_unconnected : ErrorKind → Bool
is_unconnected kind.NotConnected = true
is_unconnected _ = false

-- 0 bytes are the end of what the other side sends
abbrev pub read_of : Result ℕ ErrorKind → Read
read_of (Ok n) = if n == 0 then read.End else read.Bytes n
read_of (Err e) = if is_wait e then read.WouldBlock else read.Fault

-- a write of 0 bytes is a fault
abbrev pub write_of : Result ℕ ErrorKind → Write
write_of (Ok n) = if n == 0 then write.Fault else write.Bytes n
write_of (Err e) = if is_wait e then write.WouldBlock else write.Fault

-- rule exchange-connect: A connection that isn't there yet would block; one that fails is 7.
--
-- of the error that the socket holds (SO_ERROR), and of its peer, which it has once it is connected
abbrev pub connect_of : {A : Type 0} → Result (Option ErrorKind) ErrorKind → Result A ErrorKind → Connect
connect_of (Ok None) (Ok peer) = connect.Done
connect_of (Ok None) (Err e) = if is_unconnected e then connect.WouldBlock else connect.Fault
connect_of (Ok (Some error)) peer = connect.Fault
connect_of (Err e) peer = connect.Fault

-- a count of bytes is at most the length of what was lent
abbrev pub IsCountWithin : Result ℕ ErrorKind → ℕ → Type 0
IsCountWithin (Ok n) len = n ≤ len
IsCountWithin (Err e) len = Unit {0}

-- the first bytes, as many as the count says; none with an error
abbrev pub front_of : Result ℕ ErrorKind → List ℕ → List ℕ
front_of (Ok n) bytes = take n bytes
front_of (Err e) bytes = []

-- a read with that result that has left the buffer like this
abbrev pub read_call : Result ℕ ErrorKind → List ℕ → Called
read_call count buffer = called.Read count (length buffer) (front_of count buffer)

-- rule link-interrupted: A read or a write that is interrupted is made again at once, at most 64 times in a row.
--
-- The call was made, and again as long as it was interrupted, at most so many times. The last result counts; it is an interruption where
-- the call was made again the most times.
pub record IsSettled (called : Result ℕ ErrorKind → Called) (most : ℕ) (before after : List Called) (count : Result ℕ ErrorKind) : Type 0 where
  pub again : ℕ
  pub told : after ≡ before ++ (replicate again (called (Err kind.Interrupted)) ++ called count ∷ [])
  pub within : again ≤ most
  pub settled : is_interrupted count ≡ true → again ≡ most

-- how often a call is made again at most
abbrev pub most_again : ℕ
most_again = 64

-- rule link-bytes: A link over a stream offers the stream what it is offered, and gives the bytes that a read of the stream gave.
--
-- A read of the stream that has left the buffer like this, and the answer is what its result means. What was interrupted gave nothing.
abbrev pub IsReadBy : List Called → List Called → List ℕ → Read → Type 0
IsReadBy before after buffer answer = (count : Result ℕ ErrorKind) × IsSettled (λ c. read_call c buffer) most_again before after count × (answer ≡ read_of count)

-- rule link-bytes
-- a write of these bytes
abbrev pub IsWrittenBy : List Called → List Called → List ℕ → Write → Type 0
IsWrittenBy before after bytes answer = (count : Result ℕ ErrorKind) × IsSettled (λ c. called.Write c bytes) most_again before after count × (answer ≡ write_of count)

-- the stream was asked for its error, and then for its peer
pub record IsConnectedBy (before after : List Called) (answer : Connect) : Type 0 where
  pub error : Result (Option ErrorKind) ErrorKind
  pub peer : Result Unit ErrorKind
  pub asked : after ≡ before ++ called.Error error ∷ called.Peer peer ∷ []
  pub answer_is : answer ≡ connect_of error peer
