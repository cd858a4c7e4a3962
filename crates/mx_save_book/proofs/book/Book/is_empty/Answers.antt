use Rattle.std.proofs.Common.{◌≡◌, ◌∙◌, ap, refl, sym, arith}
use Rattle.std.specs.Prelude.{Some, slice_get}
use Rattle.mx_save_book.specs.Jobs.{job_at}
use Rattle.mx_save_book.proofs.BookSteps.{job_within, none_more, none_taken, placed, some_taken}
use Rattle.mx_save_book.proofs.book.Book.is_empty.Goals as goal

pub loop-slot-preserved : goal.loop-slot-preserved
loop-slot-preserved g c =
    none_more c.deref-slot-items.result.now c.loop-slot.slot-index c.slot-item.result (placed _ _ _ c.loop-slot-test.true c.slot-item.is)
    (sym c.is_taken.ensures ∙ c.if-is_taken.false) c.loop-slot.invariant

pub returns-then-is_taken : goal.returns-then-is_taken
returns-then-is_taken g c = (
  λ e. absurd (cc),
  λ none.
      let here = ap (λ l. slice_get l c.loop-slot.slot-index) c.deref-slot-items.ensures.value ∙ ap (λ b. slice_get b.slots c.loop-slot.slot-index) c.self.view_is in
      absurd (some_taken c.args.self.now.slots c.loop-slot.slot-index c.slot-item.result (sym here ∙ placed _ _ _ c.loop-slot-test.true c.slot-item.is)
      (sym c.is_taken.ensures ∙ c.if-is_taken.true) none),
)

pub returns : goal.returns
returns g c = (
  λ e. none_taken _ (λ i p is.
      let has : job_at c.deref-slot-items.result.now i ≡ Some p = ap (λ l. job_at l i) c.deref-slot-items.ensures.value ∙ ap (λ b. job_at b.slots i) c.self.view_is ∙ is in
      c.loop-slot.invariant i p (omega (arith, job_within _ i p has, c.loop-slot-test.false, c.loop-slot.auto.slot-index-end)) has),
  λ none. refl,
)
