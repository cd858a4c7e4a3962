use Rattle.std.proofs.Common.{◌∙◌, ◌+◌, ap, refl, sym, arith}
use Rattle.std.specs.Prelude.{Some, slice_get}
use Rattle.mx_save_book.specs.declared.job.Slot.TheVariants as slot
use Rattle.mx_save_book.proofs.BookSteps.{free_of, placed, slot_within, taken_more}
use Rattle.mx_save_book.proofs.book.Book.free_slot.Goals as goal

pub loop-slot-preserved : goal.loop-slot-preserved
loop-slot-preserved g c = record {
  at = ap (λ n. n + 1) c.loop-slot.invariant.at;
  none = taken_more c.deref-slot-items.result.now c.loop-slot.slot-index c.slot-item.result (placed _ _ _ c.loop-slot-test.true c.slot-item.is)
      (sym c.is_taken.ensures ∙ c.if-not-is_taken.false) c.loop-slot.invariant.none;
}

pub returns-then-not-is_taken-clause-free : goal.returns-then-not-is_taken-clause-free
returns-then-not-is_taken-clause-free g c =
    let n = c.loop-slot.slot-index in
    let here = ap (λ l. slice_get l n) c.deref-slot-items.ensures.value ∙ ap (λ b. slice_get b.slots n) c.self.view_is in
    ap (slice_get c.args.self.now.slots) c.loop-slot.invariant.at ∙ sym here ∙ placed _ _ _ c.loop-slot-test.true c.slot-item.is
    ∙ ap Some (free_of c.slot-item.result (sym c.is_taken.ensures ∙ c.if-not-is_taken.true))

pub returns-clause-none : goal.returns-clause-none
returns-clause-none g c = λ i has.
    let here = ap (λ l. slice_get l i) c.deref-slot-items.ensures.value ∙ ap (λ b. slice_get b.slots i) c.self.view_is ∙ has in
    c.loop-slot.invariant.none i (omega (arith, slot_within _ i slot.Free here, c.loop-slot-test.false, c.loop-slot.auto.slot-index-end)) here
