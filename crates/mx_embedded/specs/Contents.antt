-- What is read of an outcome's body, in pieces.
use Rattle.std.specs.Prelude.{◌≡◌, ◌<◌, ◌↔◌, ◌-◌, ◌++◌, ℕ, List, Option, Some, None, IfSome, IsSome, drop, length, min, option_map, take}
use Rattle.std.specs.List.{slice_get}
use Rattle.mx_body.specs.Parts.{joined}
use Rattle.mx_chain.specs.Outcomes.{OutcomeValue, AreHeadsAt, hops_of}

-- the body
abbrev pub body_of : OutcomeValue → List ℕ
body_of o = joined o.wire o.parts

-- the body before the part of that number
abbrev pub body_before : OutcomeValue → ℕ → List ℕ
body_before o n = joined o.wire (take n o.parts)

-- so many bytes from a place on are copied to the front of the room: all that there are, and that there is room for
pub record IsCopied (bytes : List ℕ) (from : ℕ) (before after : List ℕ) (n : ℕ) : Type 0 where
  pub count : n ≡ min (length bytes - from) (length before)
  pub copied : after ≡ take n (drop from bytes) ++ drop n before

-- the same of bytes that may not be there: then nothing is copied
abbrev pub IsCopiedFrom : Option (List ℕ) → ℕ → List ℕ → List ℕ → ℕ → Type 0
IsCopiedFrom (Some bytes) from before after n = IsCopied bytes from before after n
IsCopiedFrom None from before after n = (n ≡ 0) × (after ≡ before)

-- the request of a hop, counted from 0: its head and its body
abbrev pub request_at : OutcomeValue → ℕ → Option (List ℕ)
request_at o i = option_map (λ h. h.request.bytes) (slice_get (hops_of o) i)

-- the heads of a hop's response are copied, where there is such a hop
pub record AreHeadsCopied (o : OutcomeValue) (hop from : ℕ) (before after : List ℕ) (n : ℕ) : Type 0 where
  pub heads : Option (List ℕ)
  pub there : IsSome heads ↔ (hop < length (hops_of o))
  pub are : IfSome heads (AreHeadsAt o hop)
  pub copied : IsCopiedFrom heads from before after n
