-- What became of an addition.
use Rattle.std.specs.Prelude.{◌≡◌, ℕ, List, [], Option, Some, Result, Ok, Err, true, false}
use Rattle.mx_types.specs.declared.names.Ticket.{Ticket}
use Rattle.mx_request.specs.Request.{RequestValue}
use Rattle.mx_journal.specs.Replies.{handed_back}
use Rattle.mx_journal.specs.declared.replies.AddReply.{AddReply}
use Rattle.mx_journal.specs.declared.replies.AddReply.TheVariants as add
use Rattle.mx_multi.specs.declared.multi.WrongSeat.{WrongSeat}
use Rattle.mx_desk.specs.Calls.{is_refusal}
use Rattle.mx_desk.specs.declared.adding.Adding.{Adding}
use Rattle.mx_desk.specs.declared.adding.Adding.TheVariants as adding
use Rattle.mx_desk.specs.declared.seats.Answered.{Answered}
use Rattle.mx_desk.specs.declared.seats.Answered.TheVariants as answered

-- what holds of one that was made, of one that was refused for another reason than memory, and of one for which memory was refused
abbrev pub MatchAdding : {A D : Type 0} → Adding A D → (A → Type 0) → Type 0 → Type 0 → Type 0
MatchAdding (adding.Made a) made refused none = made a
MatchAdding (adding.Refused request delivery) made refused none = refused
MatchAdding (adding.OutOfMemory request delivery) made refused none = none

abbrev pub IfMade : {A D : Type 0} → Adding A D → (A → Type 0) → Type 0
IfMade a made = MatchAdding a made (Unit {0}) (Unit {0})

-- the request comes back, and its delivery, which has no content yet
abbrev pub HandsBack : {A D : Type 0} → (D → List ℕ) → RequestValue → Adding A D → Type 0
HandsBack handed request (adding.Made a) = Unit {0}
HandsBack handed request (adding.Refused back delivery) = (back ≡ request) × (handed delivery ≡ [])
HandsBack handed request (adding.OutOfMemory back delivery) = (back ≡ request) × (handed delivery ≡ [])

-- Private: the work that an answer hands back
abbrev pub back_of : {Q : Type 0} → Result (AddReply Q) (WrongSeat Q) → Option Q
back_of (Ok reply) = handed_back reply
back_of (Err wrong) = Some wrong.0

-- Private: what a seat answered to an addition
abbrev pub AnswersSo : {Q : Type 0} → Result (AddReply Q) (WrongSeat Q) → Answered Q → Type 0
AnswersSo answer (answered.Made ticket) = answer ≡ Ok (add.Added ticket)
AnswersSo answer (answered.Refused work) = (is_refusal answer ≡ true) × (back_of answer ≡ Some work)
AnswersSo answer (answered.OutOfMemory work) = (is_refusal answer ≡ false) × (back_of answer ≡ Some work)
