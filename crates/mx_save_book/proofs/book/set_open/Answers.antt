use Rattle.std.proofs.Common.{◌∙◌, ap, sym}
use Rattle.std.specs.Prelude.{slice_get}
use Rattle.mx_save_book.specs.declared.job.Slot.TheVariants as slot
use Rattle.mx_save_book.proofs.BookSteps.{get_set, set_again}
use Rattle.mx_save_book.proofs.book.set_open.Goals as goal

pub returns : goal.returns
returns c = record {
  job = c.in-Some.job;
  there = sym c.take_job.ensures.job ∙ c.in-Some.is;
  is = set_again c.args.slots.now.items c.take_job.new.slots.items c.args.at _ _ c.take_job.ensures.free;
  open_now = get_set c.take_job.new.slots.items c.args.at slot.Free _
      (ap (λ l. slice_get l c.args.at) c.take_job.ensures.free ∙ get_set c.args.slots.now.items c.args.at (slot.Waiting c.requires.waits.0) slot.Free c.requires.waits.1);
}
