-- What came of a worker of a run.
use Rattle.std.proofs.Common.{◌≡◌, refl, sym, subst, ℕ, List, [], ◌∷◌, ◌++◌, true, false}
use Rattle.mx_link.specs.declared.answers.Answer.{Answer}
use Rattle.mx_gate.specs.Said.{Said, waited}
use Rattle.mx_worker.specs.Work.{WorkerRan}
use Rattle.mx_crew.specs.declared.worked.Counts.{Counts}
use Rattle.mx_crew.specs.Worked.{AreRefusals, EndsTry, ran, refused, HasWorked, WorkerSeatView, again_ms, no_counts}

-- it started
pub try_ran : {L : Type 0} (history : L → List Answer) (token_of : L → ℕ) (s t : WorkerSeatView L) (was is : List Said) (recorded_count stale_count given_back_count : ℕ) (counts : Counts)
    → WorkerRan history token_of s t was is recorded_count stale_count given_back_count
    → counts ≡ record { recorded = recorded_count; stale = stale_count; given_back = given_back_count }
    → EndsTry history token_of s t was is counts
try_ran history token_of s t was is r st b counts it same =
    subst (EndsTry history token_of s t was is) (sym same) (ran it)

-- it did nothing
pub try_refused : {L : Type 0} (history : L → List Answer) (token_of : L → ℕ) (s t : WorkerSeatView L) (was is : List Said) (counts : Counts)
    → t ≡ s → is ≡ was ++ waited again_ms true ∷ [] → counts ≡ no_counts → EndsTry history token_of s t was is counts
try_refused history token_of s t was is counts same more none = refused same more none

-- one more refusal
refusal : (was : List Said) (s : Said) → AreRefusals was → s ≡ waited again_ms false → AreRefusals (was ++ s ∷ [])
refusal [] s all one = (one, tt)
refusal (x ∷ was) s all one = (all.0, refusal was s all.1 one)

pub refused_again : (was is : List Said) → AreRefusals was → is ≡ was ++ waited again_ms false ∷ [] → AreRefusals is
refused_again was is all more = subst AreRefusals (sym more) (refusal was (waited again_ms false) all refl)

-- after these refusals
pub has_worked : {L : Type 0} (history : L → List Answer) (token_of : L → ℕ) (s t : WorkerSeatView L) (before said : List Said) (counts : Counts)
    → AreRefusals before → EndsTry history token_of s t before said counts → HasWorked history token_of s t said counts
has_worked history token_of s t before said counts refusals ends = record { before = before; refusals = refusals; ends = ends }
