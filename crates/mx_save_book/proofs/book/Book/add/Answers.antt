use Rattle.std.proofs.Common.{◌≡◌, sym, refl, subst, map}
use Rattle.std.specs.Prelude.{Some}
use Rattle.mx_save_book.specs.Books.{HasOpen, IsAdded}
use Rattle.mx_save_book.specs.Jobs.{AreOut, IsBook, job_at}
use Rattle.mx_save_book.specs.declared.job.Slot.TheVariants as slot
use Rattle.mx_save_book.proofs.Books.{again}
use Rattle.mx_save_book.proofs.BookSteps.{job_here}
use Rattle.mx_save_book.proofs.Parts.{stays}
use Rattle.mx_save_book.proofs.book.Book.add.Goals as goal

pub invariant_of-self : goal.invariant_of-self
invariant_of-self g c = record {
  told = c.self.invariant.told;
  whole = c.self.invariant.whole;
  going = λ e.
      let was = c.self.invariant.going e in
      let a = c.set_added.ensures in
      subst (λ l. IsBook (record {
        asking = c.self.inside.asking;
        urls = map (λ u. u.items) c.self.inside.urls;
        named = map (λ u. u.items) c.self.inside.named;
        slots = l;
        told = c.self.inside.lines.told;
        ledger = c.self.inside.ledger;
      }) c.self.inside.read c.self.inside.names) (sym a.is)
      (again _ c.self.inside.read c.self.inside.names c.args.at a.job a.job (slot.Added a.job c.args.ticket a.number) was (there a) refl refl refl refl
      (was.pending c.args.at a.job (there a)).tries);
  out = λ e.
      let a = c.set_added.ensures in
      subst (AreOut c.self.inside.ledger.out) (sym a.is) (stays c.self.inside.ledger.out c.self.inside.slots.items c.args.at (slot.Open a.job a.number) (slot.Added a.job c.args.ticket a.number) (c.self.invariant.out e) a.there (λ m. refl));
}
  where
    there : (a : IsAdded c.self.inside.slots.items c.set_added.new.slots.items c.args.at c.args.ticket) → job_at c.self.inside.slots.items c.args.at ≡ Some a.job
    there a = sym (job_here c.self.inside.slots.items c.args.at (slot.Open a.job a.number) a.there)

pub returns-clause-added : goal.returns-clause-added
returns-clause-added g c = subst (λ b. IsAdded b.slots c.set_added.new.slots.items c.args.at c.args.ticket) c.self.view_is c.set_added.ensures

pub set_added-requires : goal.set_added-requires
set_added-requires g c = record { begun = subst (λ b. HasOpen b.slots c.args.at) (sym c.self.view_is) c.requires.begun }
