use Rattle.std.proofs.Common.{◌∙◌, ap, refl, sym, arith}
use Rattle.std.specs.Prelude.{slice_get}
use Rattle.mx_save_book.proofs.BookSteps.{placed, slot_within, some_added, unadded_more}
use Rattle.mx_save_book.proofs.book.Book.has_none_added.Goals as goal

pub loop-slot-preserved : goal.loop-slot-preserved
loop-slot-preserved g c =
    unadded_more c.deref-slot-items.result.now c.loop-slot.slot-index c.slot-item.result (placed _ _ _ c.loop-slot-test.true c.slot-item.is)
    (sym c.is_unadded.ensures ∙ c.if-not-is_unadded.false) c.loop-slot.invariant

pub returns-then-not-is_unadded : goal.returns-then-not-is_unadded
returns-then-not-is_unadded g c = (
  λ e. absurd (cc),
  λ none.
      let here = ap (λ l. slice_get l c.loop-slot.slot-index) c.deref-slot-items.ensures.value ∙ ap (λ b. slice_get b.slots c.loop-slot.slot-index) c.self.view_is in
      absurd (some_added c.args.self.now.slots c.loop-slot.slot-index c.slot-item.result (sym here ∙ placed _ _ _ c.loop-slot-test.true c.slot-item.is)
      (sym c.is_unadded.ensures ∙ c.if-not-is_unadded.true) none),
)

pub returns : goal.returns
returns g c = (
  λ e i job ticket number has.
      let here = ap (λ l. slice_get l i) c.deref-slot-items.ensures.value ∙ ap (λ b. slice_get b.slots i) c.self.view_is ∙ has in
      c.loop-slot.invariant i job ticket number (omega (arith, slot_within _ i _ here, c.loop-slot-test.false, c.loop-slot.auto.slot-index-end)) here,
  λ none. refl,
)
