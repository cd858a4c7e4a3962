use Rattle.std.proofs.Common.{◌∙◌, ap, refl, subst, sym, [], ◌++◌}
use Rattle.std.specs.List.{AllByRecursion}
use Rattle.mx_save_book.specs.Books.{HasNoneAdded}
use Rattle.mx_save_book.specs.Jobs.{AreWhole, IsTold}
use Rattle.mx_save_urls.specs.Works.{AreBroughtOn}
use Rattle.mx_save_urls.proofs.Runs.{none_added}
use Rattle.mx_save_urls.proofs.Waits.{none_waiting}
use Rattle.mx_save_urls.proofs.saving.save_all.Goals as goal

pub run_boxed-run-requires-clause-none : goal.run_boxed-run-requires-clause-none
run_boxed-run-requires-clause-none g c κs within =
    subst HasNoneAdded (sym (ap (λ w. w.book.slots) c.new-work.ensures ∙ c.new-book.ensures.slots)) (none_added c.in-Ok.both.1.items c.in-Ok.ensures.free)

pub run_boxed-run-requires-clause-waits : goal.run_boxed-run-requires-clause-waits
run_boxed-run-requires-clause-waits g c κs within =
    let slots = ap (λ w. w.book.slots) c.new-work.ensures ∙ c.new-book.ensures.slots in
    subst (λ ss. AreBroughtOn ss c.new-work.result.waiting) (sym slots)
    (subst (AreBroughtOn c.in-Ok.both.1.items) (sym (ap (λ w. w.waiting) c.new-work.ensures)) (none_waiting c.in-Ok.both.1.items c.in-Ok.ensures.free))

pub returns-in-Err-clause-told : goal.returns-in-Err-clause-told
returns-in-Err-clause-told g c = record {
  urls = [];
  first = λ every is. (every, refl);
  told = subst (AllByRecursion (IsTold c.args.asking [] c.args.ledger)) (sym c.requires.fresh.1) tt;
  whole = subst AreWhole (sym c.requires.fresh.0) tt;
}

pub returns-clause-told : goal.returns-clause-told
returns-clause-told g c =
    let book = c.end.result in
    let same = c.run_boxed-run.ensures.run in
    let asking = ap (λ b. b.asking) c.end.ensures.book ∙ same.book.asking ∙ ap (λ w. w.book.asking) c.new-work.ensures ∙ c.new-book.ensures.asking in
    let first = same.first ∙ ap (λ w. w.first) c.new-work.ensures in
    record {
      urls = book.urls;
      first = λ every is. let f = c.end.ensures.fed every (first ∙ is) in (f.0, f.2 ∙ ap (λ b. b.urls ++ f.0) (sym c.end.ensures.book));
      told = subst (λ l. AllByRecursion (IsTold c.args.asking book.urls l) c.end-ledger.result.1.told) (sym c.end-ledger.ensures.ledger)
          (subst (λ l. AllByRecursion (IsTold c.args.asking book.urls book.ledger) l.told) (sym c.end-ledger.ensures.lines)
          (subst (λ a. AllByRecursion (IsTold a book.urls book.ledger) book.lines.told) asking c.end-ledger.ensures.told));
      whole = subst (λ l. AreWhole l.entries) (sym c.end-ledger.ensures.ledger) c.end-ledger.ensures.whole;
    }
