use Rattle.std.proofs.Common.{◌∙◌, ap, false, refl, sym, subst, inl, []}
use Rattle.mx_save_book.specs.Books.{HasOpen, WaitsOn}
use Rattle.mx_save_book.specs.Jobs.{AreOut, AreWhole}
use Rattle.mx_save_book.specs.declared.job.Slot.TheVariants as slot
use Rattle.mx_save_book.proofs.Books.{account, stopped_later}
use Rattle.mx_save_book.proofs.BookSteps.{back_again, out_job, set_again, still_within}
use Rattle.mx_save_book.proofs.Parts.{came_back, is_out}
use Rattle.mx_save_book.proofs.book.Book.put_away.Goals as goal

pub discard-requires : goal.discard-requires
discard-requires g c =
    let o = c.in-Some.ensures.out in
    record {
      out = is_out c.self.inside.ledger.out c.self.inside.slots.items c.args.at c.in-Some.number o.is
          (c.self.invariant.out (ap (λ b. b.is_stopped) c.self.view_is ∙ c.requires.going)) o.there o.part;
    }

pub invariant_of-self : goal.invariant_of-self
invariant_of-self g c = stopped_later _ _ _ _ _ _ _ [] c.self.invariant refl refl refl (inl c.discard.ensures.entries) c.discard.ensures.run

pub put-requires : goal.put-requires
put-requires g c =
    still_within c.self.inside.slots.items c.take_open.new.slots.items c.args.at slot.Free c.in-Some.job
    (out_job c.self.inside.slots.items c.args.at c.in-Some.number c.in-Some.job c.in-Some.ensures.out) (c.in-Some.ensures.free refl)

pub invariant_of-self-2 : goal.invariant_of-self-2
invariant_of-self-2 g c =
    let going = ap (λ b. b.is_stopped) c.self.view_is ∙ c.requires.going in
    let was = c.self.invariant.going going in
    let job = c.in-Some.job in
    let o = c.in-Some.ensures.out in
    let slots = c.self.inside.slots.items in
    let there = out_job slots c.args.at c.in-Some.number job o in
    account _ false _ _ (subst AreWhole (sym c.discard.ensures.entries) c.self.invariant.whole)
    (back_again _ c.self.inside.read c.self.inside.names c.args.at job job job c.take_open.new.slots.items c.put.new.slots.items c.discard.new.ledger was there (c.in-Some.ensures.free refl) c.put.ensures refl refl refl refl
    (was.pending c.args.at job there).tries c.discard.ensures.entries c.discard.ensures.run)
    (subst (AreOut c.discard.new.ledger.out) (sym (c.put.ensures ∙ set_again slots c.take_open.new.slots.items c.args.at slot.Free (slot.Waiting job) (c.in-Some.ensures.free refl)))
    (came_back c.self.inside.ledger.out c.discard.new.ledger.out slots c.args.at c.in-Some.number o.is (slot.Waiting job) (c.self.invariant.out going) o.there o.part (λ m. refl)
    (c.discard.ensures.out c.if-not-discard.false)))

pub returns-clause-waits : goal.returns-clause-waits
returns-clause-waits g c =
    let slots = c.self.inside.slots.items in
    let job = c.in-Some.job in
    subst (λ b. WaitsOn b.slots c.put.new.slots.items c.args.at) c.self.view_is (record {
      job = job;
      there = out_job slots c.args.at c.in-Some.number job c.in-Some.ensures.out;
      is = c.put.ensures ∙ set_again slots c.take_open.new.slots.items c.args.at slot.Free (slot.Waiting job) (c.in-Some.ensures.free refl);
    })

pub unreachable-requires : goal.unreachable-requires
unreachable-requires g c =
    let open_now = subst (λ b. HasOpen b.slots c.args.at) (sym c.self.view_is) c.requires.begun in
    c.take_open.ensures.none open_now.0 open_now.1 c.in_default.is open_now.2
