-- What a run that saves leaves.
use Rattle.std.specs.Prelude.{◌≡◌, ℕ, List, ◌++◌, Option, Some}
use Rattle.std.specs.List.{AllByRecursion}
use Rattle.mx_chain.specs.Outcomes.{OutcomeValue}
use Rattle.mx_save.specs.Ledgers.{LedgerValue}
use Rattle.mx_save_book.specs.Books.{HaveEnded}
use Rattle.mx_save_book.specs.Jobs.{AreWhole, IsTold}
use Rattle.mx_save_book.specs.Lines.{LinesValue}
use Rattle.mx_save_rules.specs.declared.asking.Asking.{Asking}

-- The folder and the output are those that the run began with, and what was saved and printed since is in them.
pub record IsOneRun {W : Type 0} (old_ledger : LedgerValue OutcomeValue) (old_lines : LinesValue W) (ledger : LedgerValue OutcomeValue) (lines : LinesValue W) : Type 0 where
  pub folder : ledger.start ≡ old_ledger.start
  pub flush : ledger.flush ≡ old_ledger.flush
  pub output : lines.start ≡ old_lines.start
  pub json : lines.json ≡ old_lines.json

-- rule save-each-once: Each URL that was read ends and is reported once; what was reported as saved is whole in its file.
--
-- Each URL has ended, and was printed once: one that was printed as saved has the whole body of a response to the last request of its chain
-- under the name that was printed. Where it is known which URLs there were, these are the ones.
pub record SavesAll (asking : Asking) (given : Option (List (List ℕ))) {W : Type 0} (ledger : LedgerValue OutcomeValue) (lines : LinesValue W) : Type 0 where
  pub urls : List (List ℕ)
  pub all : (every : List (List ℕ)) → given ≡ Some every → every ≡ urls
  pub ended : HaveEnded asking urls ledger lines.told

-- What was reported holds, also where the run has stopped: of one that was reported as saved the whole body of a response to the last request
-- of its chain is under the name that was reported. Each body that was saved is whole, whether its URL was reported or not. The URLs are those
-- that were read: where it is known which there were, the first of these.
pub record TellsTruly (asking : Asking) (given : Option (List (List ℕ))) {W : Type 0} (ledger : LedgerValue OutcomeValue) (lines : LinesValue W) : Type 0 where
  pub urls : List (List ℕ)
  pub first : (every : List (List ℕ)) → given ≡ Some every → (rest : List (List ℕ)) × (every ≡ urls ++ rest)
  pub told : AllByRecursion (IsTold asking urls ledger) lines.told
  pub whole : AreWhole ledger.entries
