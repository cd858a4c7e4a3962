use Rattle.std.proofs.Common.{refl}
use Rattle.mx_save_book.specs.declared.job.Slot.TheVariants as slot
use Rattle.mx_save_book.proofs.BookSteps.{open_is, set_again}
use Rattle.mx_save_book.proofs.book.set_added.Goals as goal

pub returns : goal.returns
returns c = record {
  job = c.in-Some.job;
  number = c.in-Some.number;
  there = open_is c.args.slots.now.items c.args.at c.requires.begun.1 c.in-Some.number c.requires.begun.0 c.in-Some.job c.requires.begun.2 c.in-Some.ensures.out;
  is = set_again c.args.slots.now.items c.take_open.new.slots.items c.args.at slot.Free (slot.Added c.in-Some.job c.args.ticket c.in-Some.number) (c.in-Some.ensures.free refl);
}
