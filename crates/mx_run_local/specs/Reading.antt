-- What is read of an input, and its result.
use Rattle.std.specs.Prelude.{◌≡◌, ℕ, ◌+◌, ◌≤◌, Bool, true, false, List, [], ◌++◌, length, take, Option, IfSome}
use Rattle.std.specs.Io.KnownBytes.{Consumes}
use Rattle.mx_types.specs.declared.method.Method.{Method}
use Rattle.mx_head.specs.Limits.{most_bytes}
use Rattle.mx_body.specs.Decision.{IsVerdict}
use Rattle.mx_body.specs.Decoder.{Decoded, IsExact}
use Rattle.mx_body.specs.declared.verdict.Verdict.TheVariants.{More}
use Rattle.mx_run_local.specs.declared.reading.Received.{Received}

-- all of it, or one byte more than the most
unfoldable pub bytes_read : ℕ → List ℕ → List ℕ
bytes_read most input = take (most + 1) input

-- rule program-body-reads: `body` reads one byte more than a response may have, and no further; what is left is counted within what was
-- read.
--
-- Reading went no further than one byte more than the most; and where a read failed, at most the most was there before it.
pub record ReadsUpTo (most : ℕ) (failed : Bool) (known left : Option (List ℕ)) : Type 0 where
  pub front : List ℕ
  pub given : Consumes known left front
  pub few : length front ≤ most + 1
  pub before : failed ≡ true → length front ≤ most

-- These bytes were read: they are a prefix of what the reader had, and are all of it, or one byte more than a response has.
pub record WasRead (known left : Option (List ℕ)) (bytes : List ℕ) : Type 0 where
  pub given : Consumes known left bytes
  pub enough : IfSome known (λ input. bytes ≡ bytes_read most_bytes input)

-- The decoder, which doesn't know of an end, was fed these bytes: it has those up to the ones that decided, and all of
-- them while nothing is decided.
pub record WasFed (d : Decoded) (bytes : List ℕ) : Type 0 where
  pub behind : List ℕ
  pub whole : bytes ≡ d.wire ++ behind
  pub undecided : d.verdict ≡ More → behind ≡ []
  pub running : d.ended ≡ false
  pub exact : IsExact d

-- The decoder has a prefix of these bytes, the last of the input, and its verdict is that on all of them; it has all where their end
-- decided. So many there are.
pub record IsReceived (m : Method) (bytes : List ℕ) (r : Received) : Type 0 where
  pub behind : List ℕ
  pub whole : bytes ≡ r.decoder.wire ++ behind
  pub decided : IsVerdict m bytes true r.decoder.verdict
  pub method : r.decoder.method ≡ m
  pub exact : IsExact r.decoder
  pub ended : r.decoder.ended ≡ true → behind ≡ []
  pub len : r.len ≡ length bytes

-- so it is with the bytes that were read
pub record IsRead (m : Method) (known left : Option (List ℕ)) (r : Received) : Type 0 where
  pub bytes : List ℕ
  pub read : WasRead known left bytes
  pub received : IsReceived m bytes r
