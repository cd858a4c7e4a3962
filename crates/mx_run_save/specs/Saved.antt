-- What a run of `save` leaves in its folder.
use Rattle.std.specs.Prelude.{◌≡◌, ℕ, List, [], map, ◌++◌, Option, Some, option_map}
use Rattle.mx_chain.specs.Outcomes.{OutcomeValue}
use Rattle.mx_folder.specs.declared.steps.Step.{Step}
use Rattle.mx_save.specs.Ledgers.{LedgerValue, IsLedger}
use Rattle.mx_command.specs.declared.save.Save.{Save}
use Rattle.mx_save_end.specs.Bodies.{body_of}
use Rattle.mx_save_book.specs.Books.{HaveEnded}
use Rattle.mx_save_book.specs.Jobs.{AreWhole}
use Rattle.mx_save_book.specs.Lines.{LinesValue, PrintedLineValue}
use Rattle.mx_save_rules.specs.declared.asking.Asking.{Asking}
use Rattle.mx_save_urls.specs.Runs.{TellsTruly}

-- the URLs of a run, where it is known what its list has: those of the command line, and then those of the list
abbrev pub urls_of : Save → Option (List (List ℕ)) → Option (List (List ℕ))
urls_of save listed = option_map (λ more. map (λ u. u.now) save.urls.items ++ more) listed

-- The ledger of a run, over a folder that had one list of steps when the run began, and has another now. At each moment each name of a file held
-- what it held before or a body that was saved under it, and each body that was saved is there now, flushed where that was asked for
-- (`IsLedger`). All that were saved are whole, and no part is out.
pub record RunLedger (save : Save) (old new : List Step) : Type 0 where
  pub ledger : LedgerValue OutcomeValue
  pub is : IsLedger body_of ledger
  pub start : ledger.start ≡ old
  pub now : ledger.steps ≡ new
  pub flush : ledger.flush ≡ save.flags.fsync
  pub whole : AreWhole ledger.entries
  pub none_out : ledger.out ≡ []

-- rule save-each-once
-- Each URL has ended, and was printed once: where it is known which URLs there were, these are the ones. What was saved is in the folder, by its
-- ledger.
pub record SavesIn (save : Save) (asking : Asking) (given : Option (List (List ℕ))) (old new : List Step) (told : List PrintedLineValue) : Type 0 where
  pub run : RunLedger save old new
  pub urls : List (List ℕ)
  pub all : (every : List (List ℕ)) → given ≡ Some every → every ≡ urls
  pub ended : HaveEnded asking urls run.ledger told

-- What was reported holds, also where the run has stopped; and what was saved is in the folder, by its ledger, as of a run that hasn't.
pub record TellsOfFolder (save : Save) (asking : Asking) (given : Option (List (List ℕ))) (old new : List Step) {W : Type 0} (lines : LinesValue W) : Type 0 where
  pub run : RunLedger save old new
  pub told : TellsTruly asking given run.ledger lines
