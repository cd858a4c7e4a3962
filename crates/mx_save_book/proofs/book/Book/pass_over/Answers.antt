use Rattle.std.proofs.Common.{◌∙◌, ap, sym, refl, inl, false, subst, map, ◌++◌, ◌∷◌, []}
use Rattle.mx_save_book.specs.Books.{IsFoundAt, IsSkippedNow}
use Rattle.mx_save_book.specs.Jobs.{AreOut, BookValue, IsBook, MayName, is_saved}
use Rattle.mx_save_book.specs.declared.job.Slot.TheVariants as slot
use Rattle.mx_save_book.proofs.Books.{account, closed, same_ledger, stopped_later}
use Rattle.mx_save_book.proofs.BookSteps.{found_here}
use Rattle.mx_save_book.proofs.Holds.{skipped_holds}
use Rattle.mx_save_book.proofs.Parts.{stays}
use Rattle.mx_save_book.proofs.book.Book.pass_over.Goals as goal

pub invariant_of-self : goal.invariant_of-self
invariant_of-self g c = stopped_later _ _ _ _ _ _ _ c.in-Some.job.name c.self.invariant refl refl refl (inl refl) (same_ledger c.self.inside.ledger)

pub invariant_of-self-in_err-tell : goal.invariant_of-self-in_err-tell
invariant_of-self-in_err-tell g c =
    stopped_later _ _ _ _ _ _ _ c.in-Some.job.name c.self.invariant refl refl c.in_err-tell.ensures.kept (inl refl) (same_ledger c.self.inside.ledger)

pub invariant_of-self-2 : goal.invariant_of-self-2
invariant_of-self-2 g c =
    let was = c.self.invariant.going (ap (λ b. b.is_stopped) c.self.view_is ∙ c.requires.going) in
    let end = c.in_ok-end.ensures in
    let job = c.in-Some.job in
    let there = sym c.take_job.ensures.job ∙ c.in-Some.is in
    let found = subst (λ b. IsFoundAt b.slots c.args.at b.ledger) (sym c.self.view_is) c.requires.found in
    account _ false _ _ c.self.invariant.whole
    (subst (λ l. IsBook (record {
      asking = c.self.inside.asking;
      urls = map (λ u. u.items) c.self.inside.urls;
      named = map (λ u. u.items) c.self.inside.named;
      slots = l;
      told = c.tell.new.self.told;
      ledger = c.self.inside.ledger;
    }) c.self.inside.read c.self.inside.names) (sym c.take_job.ensures.free)
    (closed _ c.self.inside.read c.self.inside.names c.args.at job c.in_ok-end.end _ _ was c.in_ok-tell.ensures.told c.in_ok-tell.ensures.is
    there (ap (λ x. x.url) end) (subst (λ x. MayName job.name x.file) (sym end) refl) (inl (ap (λ x. is_saved x.verdict) end, refl)) (same_ledger c.self.inside.ledger)
    (skipped_holds c.self.inside.asking c.self.inside.ledger job.url.items job.name c.in_ok-end.end
    (ap (λ b. b.asking.skip_existing) c.self.view_is ∙ c.requires.asked)
    (found_here c.self.inside.slots.items c.args.at job c.self.inside.ledger found there) end)))
    (subst (AreOut c.self.inside.ledger.out) (sym c.take_job.ensures.free)
    (stays c.self.inside.ledger.out c.self.inside.slots.items c.args.at (slot.Waiting found.job) slot.Free (c.self.invariant.out (ap (λ b. b.is_stopped) c.self.view_is ∙ c.requires.going)) found.waits (λ m. refl)))

pub returns-clause-told : goal.returns-clause-told
returns-clause-told g c =
    let job = c.in-Some.job in
    let now : BookValue g.row.W.Denot = record {
      asking = c.self.inside.asking;
      urls = map (λ u. u.items) c.self.inside.urls;
      named = map (λ u. u.items) c.self.inside.named;
      slots = c.take_job.new.slots.items;
      lines = c.tell.new.self;
      ledger = c.self.inside.ledger;
      is_stopped = false;
    } in
    let there = sym c.take_job.ensures.job ∙ c.in-Some.is in
    let found = subst (λ b. IsFoundAt b.slots c.args.at b.ledger) (sym c.self.view_is) c.requires.found in
    subst (λ b. IsSkippedNow b now c.args.at) c.self.view_is (record {
      job = job;
      there = there;
      asked = ap (λ b. b.asking.skip_existing) c.self.view_is ∙ c.requires.asked;
      found = found_here c.self.inside.slots.items c.args.at job c.self.inside.ledger found there;
      told = c.in_ok-tell.ensures.told ∙ ap (λ e. c.self.inside.lines.told ++ record { place = job.place; end = e } ∷ []) c.in_ok-end.ensures;
    })
