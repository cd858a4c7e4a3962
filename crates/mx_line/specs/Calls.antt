-- What the functions that make one call on a link promise one another.
use Rattle.std.specs.Prelude.{◌≡◌, ℕ, Bool, true, false, List, [], ◌∷◌, ◌++◌, count_by}
use Rattle.mx_types.specs.declared.code.Code.TheVariants as code
use Rattle.mx_types.specs.declared.method.Method.{Method}
use Rattle.mx_body.specs.declared.decoder.Stand.{Stand}
use Rattle.mx_body.specs.declared.decoder.Stand.TheVariants as stand
use Rattle.mx_reader.specs.Readers.{ReaderValue, IsFedBy, IsReader}
use Rattle.mx_link.specs.Answers.{is_connect, is_read, is_write, is_blocked}
use Rattle.mx_link.specs.declared.answers.Answer.{Answer}
use Rattle.mx_link.specs.declared.answers.Answer.TheVariants as said
use Rattle.mx_link.specs.declared.answers.Write.{Write}
use Rattle.mx_link.specs.declared.answers.Write.TheVariants as write
use Rattle.mx_line.specs.Endings.{MustRetry}
use Rattle.mx_line.specs.Lines.{LineState, Grows, IsGoing, IsOver}
use Rattle.mx_line.specs.declared.calls.Step.{Step}
use Rattle.mx_line.specs.declared.calls.Step.TheVariants as step

-- the result of one answer
abbrev pub StepSo : Step → Method → Bool → Bool → List Answer → ReaderValue → Answer → Type 0
StepSo step.Connected kind reused stood answers r answer =
    IsGoing kind answers r × (is_connect answer ≡ true) × (stood ≡ true)
StepSo step.Wrote kind reused stood answers r answer = IsGoing kind answers r × (is_write answer ≡ true)
StepSo step.Heard kind reused stood answers r answer = IsGoing kind answers r × (is_read answer ≡ true)
StepSo step.Blocked kind reused stood answers r answer = IsGoing kind answers r × (is_blocked answer ≡ true)
StepSo step.Lost kind reused stood answers r answer = MustRetry kind reused answers × (r.judgement.content ≡ [])
StepSo (step.Over c) kind reused stood answers r answer = IsOver kind reused answers r c

-- one call on the link
pub record StepsTo {L : Type 0} (old new : LineState L) (how : Step) (r : ReaderValue) : Type 0 where
  pub answer : Answer
  pub grows : Grows old new (answer ∷ [])
  pub unmade : is_connect answer ≡ true → old.stands ≡ false
  pub kept : old.stands ≡ true → new.stands ≡ true
  pub so : StepSo how old.request.method old.is_reused new.stands new.answers r answer

-- a read gave bytes that the reader took as content, and they are behind what was handed on before
pub record IsPassed {L : Type 0} (old new : LineState L) (from to : ReaderValue) (before after : List ℕ) : Type 0 where
  pub piece : List ℕ
  pub grows : Grows old new (said.Gave piece ∷ [])
  pub more : from.judgement.stand ≡ stand.More
  pub fed : IsFedBy from to piece
  pub exact : IsReader to
  pub handed : to.judgement.content ≡ from.judgement.content ++ piece
  pub behind : after ≡ before ++ piece

-- what a state of the bytes leads to
abbrev pub StepsAt : Stand → Step → Type 0
StepsAt stand.More how = how ≡ step.Heard
StepsAt stand.Complete how = how ≡ step.Over code.Ok
StepsAt (stand.Fault c) how = how ≡ step.Over c

-- so many calls were made
pub record Calls (more : List Answer) (connects reads writes : ℕ) : Type 0 where
  pub connects_are : count_by is_connect more ≡ connects
  pub reads_are : count_by is_read more ≡ reads
  pub writes_are : count_by is_write more ≡ writes

-- how many bytes a write took
abbrev pub taken_count : Write → ℕ
taken_count (write.Bytes n) = n
taken_count _ = 0
