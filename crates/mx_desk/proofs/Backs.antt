-- Work that is handed back.
use Rattle.std.proofs.Common.{◌≡◌, ◌∙◌, ℕ, List, [], ◌∷◌, ◌++◌, refl, sym}
use Rattle.std.specs.Prelude.{Some, Result, Ok, Err, IfOk, MatchResult}
use Rattle.mx_journal.specs.Replies.{handed_back, work_back}
use Rattle.mx_journal.specs.declared.replies.AddReply.{AddReply}
use Rattle.mx_journal.specs.declared.replies.AddReply.TheVariants as add
use Rattle.mx_multi.specs.declared.multi.WrongSeat.{WrongSeat}
use Rattle.mx_desk.specs.Adding.{back_of}

-- a delivery had nothing yet where there was no content
pub nothing_yet : (content handed : List ℕ) → content ≡ [] → (rest : List ℕ) × (content ≡ handed ++ rest) → handed ≡ []
nothing_yet content [] none (rest, is) = refl
nothing_yet content (x ∷ handed) none (rest, is) = absurd (let both : [] ≡ x ∷ (handed ++ rest) = sym none ∙ is in cc)

of_reply : {Q : Type 0} (r : AddReply Q) (work back : Q) → handed_back r ≡ work_back r work → handed_back r ≡ Some back → back ≡ work
of_reply (add.Added t) work back same is = cc
of_reply (add.AddedAlready w) work back same is = cc
of_reply (add.TableFull w) work back same is = cc
of_reply (add.TicketsSpent w) work back same is = cc
of_reply (add.HistoryFull w) work back same is = cc
of_reply (add.OutOfMemory w) work back same is = cc

-- what comes back is the work that was added
pub is_back : {Q : Type 0} (X : Type 0) (answer : Result (AddReply Q) (WrongSeat Q)) (P : AddReply Q → Type 0) (work back : Q)
    → MatchResult answer P (λ w. X × (w.0 ≡ work)) → IfOk answer (λ r. handed_back r ≡ work_back r work) → back_of answer ≡ Some back → back ≡ work
is_back X (Ok r) P work back stands same is = of_reply r work back same is
is_back X (Err w) P work back stands same is = let one : w.0 ≡ back = cc in sym one ∙ stands.1
