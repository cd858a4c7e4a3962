use Rattle.std.proofs.Common.{subst}
use Rattle.mx_save_book.specs.Books.{IsFoundAt, IsSkippedNow}
use Rattle.mx_save_book.proofs.BookSteps.{account_later}
use Rattle.mx_save_book.proofs.book.Book.skip.Goals as goal

pub invariant_of-self : goal.invariant_of-self
invariant_of-self g c = account_later _ _ _ _ c.is_there.new.ledger c.self.invariant c.is_there.ensures.entries c.is_there.ensures.out c.is_there.ensures.run

pub invariant_of-self-2 : goal.invariant_of-self-2
invariant_of-self-2 g c = account_later _ _ _ _ c.is_there.new.ledger c.self.invariant c.is_there.ensures.entries c.is_there.ensures.out c.is_there.ensures.run

pub pass_over-requires-clause-found : goal.pass_over-requires-clause-found
pass_over-requires-clause-found g c =
    subst (λ l. IsFoundAt l c.args.at c.is_there.new.ledger) c.as_slice.ensures.value (c.is_there.ensures.found c.if-not-is_there.false)

pub returns-clause-told : goal.returns-clause-told
returns-clause-told g c =
    let told = c.in_ok-pass_over.ensures.told in
    subst (λ b. IsSkippedNow b c.pass_over.new.self c.args.at) c.self.view_is
    (record { job = told.job; there = told.there; asked = told.asked; found = told.found; told = told.told })
