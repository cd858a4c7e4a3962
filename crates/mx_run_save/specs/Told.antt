-- What a run of `save` leaves of each URL that it reported, and in its folder, by what `save_in` ensures.
use Rattle.std.specs.Prelude.{◌≡◌, ◌⊎◌, ℕ, ◌+◌, ◌≤◌, Bool, true, List, ◌++◌, length, Option, Some}
use Rattle.std.specs.List.{Contains}
use Rattle.mx_chain.specs.Outcomes.{OutcomeValue}
use Rattle.mx_folder.specs.Safe.{IsSafeName}
use Rattle.mx_folder.specs.Files.{File, holding, file}
use Rattle.mx_folder.specs.Moments.{AtEachMoment, MayBeLeft}
use Rattle.mx_folder.specs.declared.steps.Step.{Step}
use Rattle.mx_folder.specs.Steps.{refusals}
use Rattle.mx_save.specs.Bodies.{Holds, LeavesOnly}
use Rattle.mx_save.specs.Ledgers.{RefusedToRemove}
use Rattle.mx_save_rules.specs.Ends.{EndValue}
use Rattle.mx_save_rules.specs.declared.end.Verdict.TheVariants as verdict
use Rattle.mx_command.specs.declared.save.Save.{Save}
use Rattle.mx_save_end.specs.Bodies.{IsWholeBody, body_of}
use Rattle.mx_save_end.specs.Heard.{body_length}
use Rattle.mx_save_book.specs.Jobs.{Asks, IsTold}
use Rattle.mx_save_book.specs.Lines.{PrintedLineValue}
use Rattle.mx_save_rules.specs.declared.asking.Asking.{Asking}
use Rattle.mx_run_save.specs.Saved.{RunLedger}

-- Under the name that was reported is a file with the whole body of a response to the last request of the URL's chain, and no other bytes: as
-- many as were reported, and on the disk where that was asked for.
pub record IsThere (asking : Asking) (flush : Bool) (now : List Step) (e : EndValue) : Type 0 where
  pub name : List ℕ
  pub outcome : OutcomeValue
  pub file : e.file ≡ Some name
  pub whole : IsWholeBody outcome
  pub asked : Asks asking e.url outcome.request
  pub size : e.length ≡ body_length outcome
  pub holds : Holds name (body_of outcome) flush now

-- each name of a file holds what it held, or the whole body of a response to the last request of a chain
abbrev pub HoldsWhole : Bool → List Step → List Step → Type 0
HoldsWhole flush old moment = (found : List ℕ → Option File) (name : List ℕ) → IsSafeName name
    → (file found moment name ≡ file found old name)
    ⊎ ((outcome : OutcomeValue) × IsWholeBody outcome × (file found moment name ≡ Some (holding (body_of outcome) flush)))

-- a loss of power leaves under the name of a file such a body, or what it could have left there before
abbrev pub MayLeaveWhole : List Step → List Step → Type 0
MayLeaveWhole old new = (found : List ℕ → Option File) (name bytes : List ℕ) → IsSafeName name → MayBeLeft found new name bytes
    → MayBeLeft found old name bytes ⊎ ((outcome : OutcomeValue) × IsWholeBody outcome × (bytes ≡ body_of outcome))

-- What a run leaves, whether it has stopped or not: what was reported of each URL holds, by its ledger, and of each that was reported as saved
-- its body is there. Each name of a file held at each moment what it held before or the whole body of a response to the last request of a chain,
-- which a loss of power leaves, too, where bodies are flushed. No part is left but those that the folder refused to remove in the run. The URLs are those
-- that were read: where it is known which there were, the first of these.
pub record LeavesTruly (save : Save) (asking : Asking) (given : Option (List (List ℕ))) (old new : List Step) (told : List PrintedLineValue) : Type 0 where
  pub run : RunLedger save old new
  pub urls : List (List ℕ)
  pub first : (every : List (List ℕ)) → given ≡ Some every → (rest : List (List ℕ)) × (every ≡ urls ++ rest)
  pub each : (t : PrintedLineValue) → Contains told t → IsTold asking urls run.ledger t
  pub there : (t : PrintedLineValue) → Contains told t → t.end.verdict ≡ verdict.Saved → IsThere asking save.flags.fsync new t.end
  pub files : AtEachMoment (HoldsWhole save.flags.fsync old) old new
  pub power : save.flags.fsync ≡ true → MayLeaveWhole old new
  pub parts : LeavesOnly run.ledger.left old new
  pub refused : refusals old + length run.ledger.left ≤ refusals new
  pub removals : (part : List ℕ) → Contains run.ledger.left part → RefusedToRemove old new part
