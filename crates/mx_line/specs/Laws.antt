-- What holds of every link that serves a request.
use Rattle.std.specs.Prelude.{◌≡◌, ℕ, Bool, true, List, [], ◌++◌}
use Rattle.std.specs.List.{list_any}
use Rattle.mx_link.specs.Answers.{taken, is_read}
use Rattle.mx_link.specs.declared.answers.Answer.{Answer}
use Rattle.mx_line.specs.Order.{InOrder}

-- what was taken is a prefix of the bytes, and all of them once the link was read
pub record TakesFront (bytes : List ℕ) (answers : List Answer) : Type 0 where
  pub unsent : List ℕ
  pub front : bytes ≡ taken answers ++ unsent
  pub whole : list_any is_read answers ≡ true → unsent ≡ []

abbrev pub TakenIsTheFront : Type 0
TakenIsTheFront = (reused : Bool) (bytes : List ℕ) (answers : List Answer) → InOrder reused bytes answers → TakesFront bytes answers
