-- What contracts see of a reader of one response, and what they say of it.
use Rattle.std.specs.Prelude.{◌≡◌, ◌==◌, ℕ, ◌-◌, ◌^◌, ◌≤◌, Bool, true, false, ◌&&◌, List, [], ◌++◌, length, Option, Some, None}
use Rattle.mx_types.specs.declared.method.Method.{Method}
use Rattle.mx_body.specs.Decision.{HasHeads}
use Rattle.mx_body.specs.declared.decoder.Stand.TheVariants as stand
use Rattle.mx_flow.specs.Responses.{IsResponseOf}
use Rattle.mx_reader.specs.Judgements.{Judgement, Judges}

-- A reader: the method of the request; the most bytes of content that it hands on, nothing where it holds the response; the bytes that were
-- fed, and whether they have ended; which of them it keeps; and the judgement on them.
pub record ReaderValue : Type 0 where
  pub method : Method
  pub limit : Option ℕ
  pub wire : List ℕ
  pub ended : Bool
  pub kept : List ℕ
  pub judgement : Judgement

-- one that holds a response keeps all bytes; one that hands the content on keeps the heads, once the final head has come
abbrev pub IsKept : Option ℕ → List ℕ → List ℕ → Type 0
IsKept None wire kept = kept ≡ wire
IsKept (Some limit) wire kept = HasHeads wire kept

-- The judgement is on all the bytes, however they were cut into pieces, and so is what is kept.
pub record IsReader (r : ReaderValue) : Type 0 where
  pub judged : Judges r.limit r.method r.wire r.ended r.judgement
  pub keeps : IsKept r.limit r.wire r.kept

-- before the first byte
abbrev pub first_judgement : Judgement
first_judgement = record { stand = stand.More; parts = []; len = 0; keep = false; content = [] }

abbrev pub first_reader : Method → Option ℕ → ReaderValue
first_reader m limit = record { method = m; limit = limit; wire = []; ended = false; kept = []; judgement = first_judgement }

-- what the content has grown by was handed on
pub record HandsOn (old new : ReaderValue) (before after : List ℕ) : Type 0 where
  pub added : List ℕ
  pub handed : after ≡ before ++ added
  pub grown : new.judgement.content ≡ old.judgement.content ++ added

-- nothing was decided, and these bytes were fed; or they have ended
abbrev pub IsFedBy : ReaderValue → ReaderValue → List ℕ → Type 0
IsFedBy old new piece = new ≡ record old { wire = old.wire ++ piece; kept = new.kept; judgement = new.judgement }

abbrev pub IsEndOf : ReaderValue → ReaderValue → Type 0
IsEndOf old new = new ≡ record old { ended = true; judgement = new.judgement }

-- the most bytes that are counted
abbrev pub most_counted : ℕ
most_counted = 2 ^ 64 - 1

-- the connection may serve another request: the response says so, and is all that was fed
abbrev pub may_keep : Judgement → List ℕ → Bool
may_keep j wire = j.keep && (j.len == length wire)

-- what was handed on is a prefix of the content of each response that the bytes may still become
abbrev pub IsPrefixOfEach : ReaderValue → Type 0
IsPrefixOfEach r =
    (limit : ℕ) (more content : List ℕ) (ended : Bool) → r.limit ≡ Some limit → IsResponseOf limit r.method (r.wire ++ more) ended content
    → (rest : List ℕ) × (content ≡ r.judgement.content ++ rest)

-- and has at most as many bytes as the limit says
abbrev pub IsWithin : ReaderValue → Type 0
IsWithin r = (limit : ℕ) → r.limit ≡ Some limit → length r.judgement.content ≤ limit
