use Rattle.std.proofs.Common.{◌≡◌, ap, false, map}
use Rattle.std.proofs.lemmas.List.Elements.{recursion_from_All}
use Rattle.mx_save_book.specs.declared.job.Slot.TheVariants as slot
use Rattle.mx_save_book.proofs.Books.{account, begun}
use Rattle.mx_save_book.proofs.BookSteps.{none_whole}
use Rattle.mx_save_book.proofs.Parts.{begins}
use Rattle.mx_save_book.proofs.book.Book.new.Goals as goal

pub invariant_of-result : goal.invariant_of-result
invariant_of-result g c =
    account _ false _ _ (none_whole _ c.requires.fresh.0)
    (begun _ c.new.result c.new.ensures (ap (map (λ u. u.items)) c.new-2.ensures) (ap (map (λ u. u.items)) c.new-3.ensures)
    (recursion_from_All (λ s. s ≡ slot.Free) c.args.slots.items c.requires.free) c.requires.fresh.1 c.requires.fresh.0)
    (begins _ _ c.requires.none_out (recursion_from_All (λ s. s ≡ slot.Free) c.args.slots.items c.requires.free))
