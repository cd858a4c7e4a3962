-- What was reported, once more was done to the folder.
use Rattle.std.proofs.Common.{◌≡◌, ◌∙◌, ap, subst, sym, List, [], length, inl}
use Rattle.std.specs.Prelude.{ℕ}
use Rattle.std.specs.List.{AllByRecursion}
use Rattle.mx_chain.specs.Outcomes.{OutcomeValue}
use Rattle.mx_save.specs.Ledgers.{LedgerValue}
use Rattle.mx_save_rules.specs.declared.asking.Asking.{Asking}
use Rattle.mx_save_book.specs.Books.{HaveEnded}
use Rattle.mx_save_book.specs.Jobs.{AreWhole, IsLaterLedger, IsTold}
use Rattle.mx_save_book.specs.Lines.{PrintedLineValue}
use Rattle.mx_save_book.proofs.Books.{told_on}

pub told_later : (asking : Asking) (urls : List (List ℕ)) (old new : LedgerValue OutcomeValue) (ts : List PrintedLineValue) → new.entries ≡ old.entries → IsLaterLedger old new
    → AllByRecursion (IsTold asking urls old) ts → AllByRecursion (IsTold asking urls new) ts
told_later asking urls old new ts kept later all = told_on asking urls [] old new ts (inl kept) later all

pub whole_later : (old new : LedgerValue OutcomeValue) → new.entries ≡ old.entries → AreWhole old.entries → AreWhole new.entries
whole_later old new kept whole = subst AreWhole (sym kept) whole

pub ended_later : (asking : Asking) (urls : List (List ℕ)) (old new : LedgerValue OutcomeValue) (ts : List PrintedLineValue) → new.entries ≡ old.entries → IsLaterLedger old new
    → HaveEnded asking urls old ts → HaveEnded asking urls new ts
ended_later asking urls old new ts kept later is = record {
  holds = told_later asking urls old new ts kept later is.holds;
  each = is.each;
  count = is.count;
  owed = ap length kept ∙ is.owed;
  whole = whole_later old new kept is.whole;
}
