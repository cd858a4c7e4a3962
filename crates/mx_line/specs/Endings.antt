-- How an exchange ends by what its link answers.
use Rattle.std.specs.Prelude.{◌≡◌, ℕ, Bool, true, false, ◌⊎◌, List, [], ◌∷◌, ◌++◌, Option, Some, None, is_some}
use Rattle.std.specs.List.{list_any}
use Rattle.mx_types.specs.Code.{is_link_code}
use Rattle.mx_types.specs.Method.{is_repeatable}
use Rattle.mx_types.specs.declared.code.Code.{Code}
use Rattle.mx_types.specs.declared.code.Code.TheVariants as code
use Rattle.mx_types.specs.declared.method.Method.{Method}
use Rattle.mx_body.specs.declared.decoder.Stand.{Stand}
use Rattle.mx_body.specs.declared.decoder.Stand.TheVariants as stand
use Rattle.mx_link.specs.Answers.{given}
use Rattle.mx_link.specs.declared.answers.Answer.{Answer}
use Rattle.mx_link.specs.declared.answers.Answer.TheVariants as said
use Rattle.mx_reader.specs.Judgements.{Judgement, Judges, IsUndecidedBy}
use Rattle.mx_line.specs.Order.{is_last}

-- the link has neither failed nor ended, and what it gave decides nothing
abbrev pub IsUndecided : Option ℕ → Method → List Answer → Type 0
IsUndecided limit kind answers =
    (list_any is_last answers ≡ false) × IsUndecidedBy limit kind (given answers)

-- the codes that an exchange is given to end with: those of a link that can't be opened; and where its content is handed on, that of content
-- that couldn't be written
abbrev pub is_given_code : Code → Option ℕ → Bool
is_given_code code.WriteError limit = is_some limit
is_given_code c limit = is_link_code c

-- these, and that of a deadline
abbrev pub is_stop_code : Code → Option ℕ → Bool
is_stop_code code.OperationTimedout limit = true
is_stop_code c limit = is_given_code c limit

-- this was the last answer, and those before it decided nothing
abbrev pub EndsAt : Option ℕ → Method → List Answer → Answer → List Answer → Type 0
EndsAt limit kind earlier last answers = (answers ≡ earlier ++ last ∷ []) × IsUndecided limit kind earlier

-- the code of a state of the bytes
abbrev pub code_of : Stand → Option Code
code_of stand.Complete = Some code.Ok
code_of stand.More = None
code_of (stand.Fault c) = Some c

-- nothing is decided of the bytes, which have not ended
abbrev pub HasMore : Option ℕ → Method → List ℕ → Judgement → Type 0
HasMore limit kind wire j = Judges limit kind wire false j × (j.stand ≡ stand.More)

-- the code of a fault of a link
abbrev pub fault_code : Answer → Option Code
fault_code said.ConnectFailed = Some code.CouldntConnect
fault_code said.ReadFailed = Some code.RecvError
fault_code said.WriteFailed = Some code.SendError
fault_code _ = None

-- bytes that were read, or their end
abbrev pub is_heard : Answer → Bool
is_heard (said.Gave piece) = true
is_heard said.ReadEnded = true
is_heard _ = false

-- Why an exchange ended with a code over its link: by the link's last answer. Bytes or their end decided; or the
-- link failed; or memory was refused for bytes or their end. The judgement is that on the wire.
pub data EndsBy (limit : Option ℕ) (kind : Method) (answers : List Answer) (wire : List ℕ) (j : Judgement) : Code → Type 0 where
  by_bytes : {c : Code} (earlier : List Answer) (piece : List ℕ) → EndsAt limit kind earlier (said.Gave piece) answers
      → wire ≡ given answers → Judges limit kind wire false j → code_of j.stand ≡ Some c → EndsBy limit kind answers wire j c
  by_end : {c : Code} (earlier : List Answer) → EndsAt limit kind earlier said.ReadEnded answers
      → wire ≡ given answers → Judges limit kind wire true j → code_of j.stand ≡ Some c → EndsBy limit kind answers wire j c
  by_fault : {c : Code} (earlier : List Answer) (last : Answer) → EndsAt limit kind earlier last answers
      → wire ≡ given answers → HasMore limit kind wire j → fault_code last ≡ Some c → EndsBy limit kind answers wire j c
  by_memory : (earlier : List Answer) (last : Answer) → EndsAt limit kind earlier last answers → is_heard last ≡ true
      → wire ≡ given earlier → HasMore limit kind wire j → EndsBy limit kind answers wire j code.OutOfMemory

-- the link ended or failed while it was written to or read
abbrev pub is_loss : Answer → Bool
is_loss said.WriteFailed = true
is_loss said.ReadFailed = true
is_loss said.ReadEnded = true
is_loss _ = false

-- rule exchange-retry: A GET or HEAD on a reused link that was lost before a byte came needs a fresh link, once.
pub record MustRetry (kind : Method) (reused : Bool) (answers : List Answer) : Type 0 where
  pub reused_is : reused ≡ true
  pub repeated : is_repeatable kind ≡ true
  pub silent : given answers ≡ []
  pub earlier : List Answer
  pub last : Answer
  pub ends : answers ≡ earlier ++ last ∷ []
  pub lost : is_loss last ≡ true

-- Why an exchange ended with a code without a further call on its link: its deadline had come, or the code was given.
-- What the link gave until then decided nothing.
pub record IsStopped (limit : Option ℕ) (kind : Method) (answers : List Answer) (wire : List ℕ) (j : Judgement) (c : Code) : Type 0 where
  pub listed : is_stop_code c limit ≡ true
  pub undecided : IsUndecided limit kind answers
  pub wire_is : wire ≡ given answers
  pub more : HasMore limit kind wire j

-- how an exchange ended: over its link, which is not to be tried again, or without it
abbrev pub Ends : Option ℕ → Method → Bool → List Answer → List ℕ → Judgement → Code → Type 0
Ends limit kind reused answers wire j c =
    (EndsBy limit kind answers wire j c × ¬ (MustRetry kind reused answers)) ⊎ IsStopped limit kind answers wire j c
