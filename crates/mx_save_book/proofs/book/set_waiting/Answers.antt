use Rattle.std.proofs.Common.{◌∙◌, ap, sym}
use Rattle.std.specs.Prelude.{slice_set}
use Rattle.mx_save_book.specs.declared.job.Slot.TheVariants as slot
use Rattle.mx_save_book.proofs.BookSteps.{set_again}
use Rattle.mx_save_book.proofs.book.set_waiting.Goals as goal

pub returns : goal.returns
returns c = record {
  job = c.in-Some.job;
  there = sym c.take_job.ensures.job ∙ c.in-Some.is;
  is = set_again c.args.slots.now.items c.take_job.new.slots.items c.args.at _ _ c.take_job.ensures.free
      ∙ ap (λ j. slice_set c.args.slots.now.items c.args.at (slot.Waiting j)) c.again.ensures;
}
