-- Proper prefixes of a head.
use Rattle.std.specs.Prelude.{ℕ, ◌<◌, ◌≤◌, List, [], ◌++◌, length}
use Rattle.httparse.specs.Grammar.{ResponseHead, ReadsResponse}
use Rattle.mx_head.specs.Limits.{most_fields}

-- a proper prefix of a head of the grammar that has no more field lines than are taken: more bytes make it one
pub record IsFrontOfHead (text : List ℕ) : Type 0 where
  pub more : List ℕ
  pub some : 0 < length more
  pub head : ResponseHead
  pub reads : ReadsResponse (text ++ more) head []
  pub few : length head.fields ≤ most_fields
