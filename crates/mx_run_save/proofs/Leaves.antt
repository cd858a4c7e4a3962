-- What a run leaves of each URL that it reported, and in its folder.
use Rattle.std.proofs.Common.{◌≡◌, ◌∙◌, ap, sym, subst, ℕ, ◌+◌, ◌≤◌, List, [], ◌++◌, map, length, Bool, true, inl, inr}
use Rattle.std.specs.Prelude.{Option}
use Rattle.std.specs.List.{AllByRecursion, Contains}
use Rattle.std.proofs.lemmas.List.Elements.{All-contains, All-from_recursion}
use Rattle.mx_chain.specs.Outcomes.{OutcomeValue}
use Rattle.mx_folder.specs.Moments.{AtEachMoment}
use Rattle.mx_folder.specs.declared.steps.Step.{Step}
use Rattle.mx_folder.specs.Names.{part_of}
use Rattle.mx_folder.specs.Steps.{refusals}
use Rattle.mx_save.specs.Bodies.{Holds, LeavesOnly}
use Rattle.mx_save.specs.Ledgers.{LedgerValue, HasOnly, IsLedger, RefusedToRemove}
use Rattle.mx_save.proofs.Runs.{whole_after_loss}
use Rattle.mx_save_rules.specs.Ends.{EndValue}
use Rattle.mx_save_rules.specs.declared.end.Verdict.TheVariants as verdict
use Rattle.mx_command.specs.declared.save.Save.{Save}
use Rattle.mx_save_end.specs.Bodies.{IsWholeBody, body_of}
use Rattle.mx_save_book.specs.Jobs.{AreWhole, HoldsOf, IsTold}
use Rattle.mx_save_book.specs.Lines.{LinesValue, PrintedLineValue}
use Rattle.mx_save_rules.specs.declared.asking.Asking.{Asking}
use Rattle.mx_run_save.specs.Saved.{TellsOfFolder}
use Rattle.mx_run_save.specs.Told.{HoldsWhole, IsThere, LeavesTruly, MayLeaveWhole}

-- what holds of each holds of one
member : {X : Type 0} (P : X → Type 0) (xs : List X) (x : X) → AllByRecursion P xs → Contains xs x → P x
member P xs x all has = All-contains P xs x (All-from_recursion P xs all) has

there : (asking : Asking) (l : LedgerValue OutcomeValue) (flush : Bool) (now : List Step) (e : EndValue) → IsLedger body_of l → l.flush ≡ flush → l.steps ≡ now
    → HoldsOf asking l e e.verdict → e.verdict ≡ verdict.Saved → IsThere asking flush now e
there asking l flush now e is flushed steps holds saved =
    let both = subst (HoldsOf asking l e) saved holds in
    let s = both.1 in
    let bytes = body_of both.0 in
    let held = member (λ (entry : List ℕ × OutcomeValue). Holds entry.0 (body_of entry.1) l.flush l.steps) l.entries (s.name, both.0) is.holds s.saved in
    record {
      name = s.name;
      outcome = both.0;
      file = s.file;
      whole = s.whole;
      asked = s.asked;
      size = s.size;
      holds = subst (λ f. Holds s.name bytes f now) flushed (subst (Holds s.name bytes l.flush) steps held);
    }

whole_since : (l : LedgerValue OutcomeValue) → IsLedger body_of l → AreWhole l.entries → AtEachMoment (HoldsWhole l.flush l.start) l.start l.steps
whole_since l is whole = record {
  later = is.since.later;
  each = λ moment since until found name safe. elim (is.since.each moment since until found name safe) [
    | inl same ↦ inl same
    | inr saved ↦ inr (saved.0, member (λ (e : List ℕ × OutcomeValue). IsWholeBody e.1) l.entries (name, saved.0) whole saved.1, saved.2)
  ];
}

whole_left : (l : LedgerValue OutcomeValue) → IsLedger body_of l → AreWhole l.entries → l.flush ≡ true → MayLeaveWhole l.start l.steps
whole_left l is whole flushed found name bytes safe left =
    let since = subst (λ f. AtEachMoment (HasOnly body_of f l.entries l.start) l.start l.steps) flushed is.since in
    elim (whole_after_loss body_of l.entries l.start l.steps since found name bytes safe left) [
      | inl before ↦ inl before
      | inr saved ↦ inr (saved.0, member (λ (e : List ℕ × OutcomeValue). IsWholeBody e.1) l.entries (name, saved.0) whole saved.1, saved.2)
    ]

parts_left : (l : LedgerValue OutcomeValue) → IsLedger body_of l → l.out ≡ [] → LeavesOnly l.left l.start l.steps
parts_left l is none = subst (λ out. LeavesOnly (map (part_of l.process) out ++ l.left) l.start l.steps) none is.leaves

pub leaves_truly : {W : Type 0} (save : Save) (asking : Asking) (given : Option (List (List ℕ))) (old new : List Step) (lines : LinesValue W)
    → TellsOfFolder save asking given old new lines → LeavesTruly save asking given old new lines.told
leaves_truly save asking given old new lines tells =
    let run = tells.run in
    let l = run.ledger in
    let told = λ (t : PrintedLineValue) (has : Contains lines.told t). member (IsTold asking tells.told.urls l) lines.told t tells.told.told has in
    record {
      run = run;
      urls = tells.told.urls;
      first = tells.told.first;
      each = told;
      there = λ t has. there asking l save.flags.fsync new t.end run.is run.flush run.now (told t has).holds;
      files = subst (λ f. AtEachMoment (HoldsWhole f old) old new) run.flush
          (subst (λ steps. AtEachMoment (HoldsWhole l.flush old) old steps) run.now
          (subst (λ start. AtEachMoment (HoldsWhole l.flush start) start l.steps) run.start (whole_since l run.is run.whole)));
      power = λ flushed.
          subst (MayLeaveWhole old) run.now
          (subst (λ start. MayLeaveWhole start l.steps) run.start (whole_left l run.is run.whole (run.flush ∙ flushed)));
      parts = subst (λ steps. LeavesOnly l.left old steps) run.now (subst (λ start. LeavesOnly l.left start l.steps) run.start (parts_left l run.is run.none_out));
      refused = subst (λ steps. refusals old + length l.left ≤ refusals steps) run.now
          (subst (λ start. refusals start + length l.left ≤ refusals l.steps) run.start run.is.refused);
      removals = λ part has. subst (λ steps. RefusedToRemove old steps part) run.now
          (subst (λ start. RefusedToRemove start l.steps part) run.start (member (RefusedToRemove l.start l.steps) l.left part run.is.removals has));
    }
