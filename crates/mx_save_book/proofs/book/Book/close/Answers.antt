use Rattle.std.proofs.Common.{◌∙◌, ap, refl, sym, subst, false, inl, map}
use Rattle.std.specs.Prelude.{None, slice_set}
use Rattle.mx_save_book.specs.Books.{IsAwaited, IsEndedBy, Retries, WaitsAgain, next_job, next_try}
use Rattle.mx_save_book.specs.Jobs.{AreOut, AreWhole, BookValue, IsBook}
use Rattle.mx_save_book.specs.declared.job.Slot.TheVariants as slot
use Rattle.mx_save_book.proofs.Books.{account, closed, grows_by, holds_by, stopped_later}
use Rattle.mx_save_book.proofs.BookSteps.{back_again, handed_back, came_again, delay_retried, leaves_waiting, out_job, retried, retry_tries, set_again, still_within, whatever}
use Rattle.mx_save_book.proofs.Names.{whole_on}
use Rattle.mx_save_book.proofs.Parts.{came_back, is_out}
use Rattle.mx_save_book.proofs.book.Book.close.Goals as goal

pub finish-requires-clause-fresh : goal.finish-requires-clause-fresh
finish-requires-clause-fresh g c =
    let was = c.self.invariant.going (ap (λ b. b.is_stopped) c.self.view_is ∙ c.requires.going) in
    (was.pending c.args.at c.in-Some.job (out_job c.self.inside.slots.items c.args.at c.in-Some.number c.in-Some.job c.in-Some.ensures.out)).fresh

pub finish-requires-clause-tries : goal.finish-requires-clause-tries
finish-requires-clause-tries g c =
    let was = c.self.invariant.going (ap (λ b. b.is_stopped) c.self.view_is ∙ c.requires.going) in
    (was.pending c.args.at c.in-Some.job (out_job c.self.inside.slots.items c.args.at c.in-Some.number c.in-Some.job c.in-Some.ensures.out)).tries

pub finish-requires-clause-out : goal.finish-requires-clause-out
finish-requires-clause-out g c =
    let o = c.in-Some.ensures.out in
    is_out c.self.inside.ledger.out c.self.inside.slots.items c.args.at c.in-Some.number o.is (c.self.invariant.out (ap (λ b. b.is_stopped) c.self.view_is ∙ c.requires.going)) o.there o.part

pub put-requires : goal.put-requires
put-requires g c =
    still_within c.self.inside.slots.items c.take_open.new.slots.items c.args.at slot.Free c.in-Some.job
    (out_job c.self.inside.slots.items c.args.at c.in-Some.number c.in-Some.job c.in-Some.ensures.out) (c.in-Some.ensures.free refl)

pub invariant_of-self-in-Ok : goal.invariant_of-self-in-Ok
invariant_of-self-in-Ok g c =
    let going = ap (λ b. b.is_stopped) c.self.view_is ∙ c.requires.going in
    let was = c.self.invariant.going going in
    let end = c.in-Ok.ensures.ending in
    let o = c.in-Some.ensures.out in
    let slots = c.self.inside.slots.items in
    account _ false _ _ (whole_on c.in-Some.job.name _ _ c.self.invariant.whole (grows_by c.in-Some.job.name c.in-Ok.end.verdict _ _ end.grows))
    (subst (λ l. IsBook (record {
      asking = c.self.inside.asking;
      urls = map (λ u. u.items) c.self.inside.urls;
      named = map (λ u. u.items) c.self.inside.named;
      slots = l;
      told = c.tell.new.self.told;
      ledger = c.finish.new.ledger;
    }) c.self.inside.read c.self.inside.names) (sym (c.in-Some.ensures.free refl))
    (closed _ c.self.inside.read c.self.inside.names c.args.at c.in-Some.job c.in-Ok.end _ _ was c.in_ok-tell-in-Ok.ensures.told c.in_ok-tell-in-Ok.ensures.is
    (out_job slots c.args.at c.in-Some.number c.in-Some.job o) end.url end.name end.grows c.finish.ensures.run
    (holds_by c.self.inside.asking c.finish.new.ledger c.args.outcome c.in-Ok.end c.in-Ok.end.verdict end.holds)))
    (subst (AreOut c.finish.new.ledger.out) (sym (c.in-Some.ensures.free refl))
    (came_back c.self.inside.ledger.out c.finish.new.ledger.out slots c.args.at c.in-Some.number o.is slot.Free (c.self.invariant.out going) o.there o.part (λ m. refl) c.in-Ok.ensures.out))

pub invariant_of-self-in_err-tell-in-Ok : goal.invariant_of-self-in_err-tell-in-Ok
invariant_of-self-in_err-tell-in-Ok g c =
    stopped_later _ _ _ _ _ _ _ c.in-Some.job.name c.self.invariant refl refl c.in_err-tell-in-Ok.ensures.kept
    (grows_by c.in-Some.job.name c.in-Ok.end.verdict _ _ c.in-Ok.ensures.ending.grows) c.finish.ensures.run

pub invariant_of-self-in-Err-OutOfMemory : goal.invariant_of-self-in-Err-OutOfMemory
invariant_of-self-in-Err-OutOfMemory g c =
    stopped_later _ _ _ _ _ _ _ c.in-Some.job.name c.self.invariant refl refl refl (inl c.in-Err-OutOfMemory.ensures.kept) c.finish.ensures.run

pub invariant_of-self-in-Err-NoPart : goal.invariant_of-self-in-Err-NoPart
invariant_of-self-in-Err-NoPart g c =
    stopped_later _ _ _ _ _ _ _ c.in-Some.job.name c.self.invariant refl refl refl (inl c.in-Err-NoPart.ensures.kept) c.finish.ensures.run

pub invariant_of-self-in-Err-Again : goal.invariant_of-self-in-Err-Again
invariant_of-self-in-Err-Again g c =
    let going = ap (λ b. b.is_stopped) c.self.view_is ∙ c.requires.going in
    let was = c.self.invariant.going going in
    let more = c.again.ensures in
    let next = c.again.result in
    let job = c.in-Some.job in
    let o = c.in-Some.ensures.out in
    let slots = c.self.inside.slots.items in
    let there = out_job slots c.args.at c.in-Some.number job o in
    let free = c.in-Some.ensures.free refl in
    let back = handed_back job c.in-Err-Again.job _ _ c.in-Err-Again.ensures.back c.in-Err-Again.field-0-is in
    let tries = retry_tries c.self.inside.asking slots c.args.at job next c.code.result c.status.result c.delay-delay.result c.delay-delay.ensures (sym c.is_some-may_retry.ensures ∙ back.1) there
    (was.pending c.args.at job there).tries (ap (λ j. j.tries) more ∙ ap (λ j. next_try j.tries) back.0) in
    account _ false _ _ (subst AreWhole (sym c.in-Err-Again.ensures.kept) c.self.invariant.whole)
    (back_again _ c.self.inside.read c.self.inside.names c.args.at job c.in-Err-Again.job next c.take_open.new.slots.items c.put.new.slots.items
    c.finish.new.ledger was there free c.put.ensures back.0
    (ap (λ j. j.place) more) (ap (λ j. j.url) more) (ap (λ j. j.name) more) tries c.in-Err-Again.ensures.kept c.finish.ensures.run)
    (subst (AreOut c.finish.new.ledger.out) (sym (c.put.ensures ∙ set_again slots c.take_open.new.slots.items c.args.at slot.Free (slot.Waiting next) free))
    (came_back c.self.inside.ledger.out c.finish.new.ledger.out slots c.args.at c.in-Some.number o.is (slot.Waiting next) (c.self.invariant.out going) o.there o.part (λ m. refl)
    (came_again c.in-Some.number c.self.inside.ledger c.finish.new.ledger _ c.in-Err-Again.job c.in-Err-Again.ensures.came_back c.in-Err-Again.field-0-is).0))

pub returns-in_ok-tell-in-Ok-clause-retried : goal.returns-in_ok-tell-in-Ok-clause-retried
returns-in_ok-tell-in-Ok-clause-retried g c =
    subst (λ b. Retries b (record {
      asking = c.self.inside.asking;
      urls = map (λ u. u.items) c.self.inside.urls;
      named = map (λ u. u.items) c.self.inside.named;
      slots = c.take_open.new.slots.items;
      lines = c.tell.new.self;
      ledger = c.finish.new.ledger;
      is_stopped = false;
    }) c.args.at c.args.outcome None) c.self.view_is
    (retried c.self.inside.asking c.self.inside.slots.items c.args.at c.code.result c.args.outcome.code c.status.result c.args.outcome.status c.delay-delay.result c.is_some-may_retry.result
    c.self.inside.ledger c.finish.new.ledger c.code.ensures.code c.status.ensures.status c.delay-delay.ensures c.is_some-may_retry.ensures c.in-Ok.ensures.left)

pub returns-in_ok-tell-in-Ok-clause-told : goal.returns-in_ok-tell-in-Ok-clause-told
returns-in_ok-tell-in-Ok-clause-told g c =
    let job = c.in-Some.job in
    let ending = c.in-Ok.ensures.ending in
    let now : BookValue g.row.W.Denot = record {
      asking = c.self.inside.asking;
      urls = map (λ u. u.items) c.self.inside.urls;
      named = map (λ u. u.items) c.self.inside.named;
      slots = c.take_open.new.slots.items;
      lines = c.tell.new.self;
      ledger = c.finish.new.ledger;
      is_stopped = false;
    } in
    subst (λ b. IsEndedBy b now c.args.at c.args.outcome) c.self.view_is (record {
      end = c.in-Ok.end;
      told = record { job = job; there = out_job c.self.inside.slots.items c.args.at c.in-Some.number job c.in-Some.ensures.out; url = ending.url; told = c.in_ok-tell-in-Ok.ensures.told };
      holds = ending.holds;
      left = ending.left;
    })

pub finish-requires-clause-retried : goal.finish-requires-clause-retried
finish-requires-clause-retried g c =
    delay_retried c.self.inside.asking c.self.inside.slots.items c.args.at c.in-Some.job c.code.result c.args.outcome.code c.status.result c.args.outcome.status c.delay-delay.result
    c.is_some-may_retry.result (out_job c.self.inside.slots.items c.args.at c.in-Some.number c.in-Some.job c.in-Some.ensures.out) c.code.ensures.code c.status.ensures.status c.delay-delay.ensures
    c.is_some-may_retry.ensures

pub returns-in-Err-Again-clause-removed : goal.returns-in-Err-Again-clause-removed
returns-in-Err-Again-clause-removed g c =
    whatever c.delay-delay.result
    ((came_again c.in-Some.number c.self.inside.ledger c.finish.new.ledger _ c.in-Err-Again.job c.in-Err-Again.ensures.came_back c.in-Err-Again.field-0-is).1
    ∙ ap (λ b. b.ledger.left) c.self.view_is)

pub returns-in-Err-Again-clause-slots : goal.returns-in-Err-Again-clause-slots
returns-in-Err-Again-clause-slots g c = record {
  left = slot.Waiting c.again.result;
  is = c.put.ensures ∙ set_again c.self.inside.slots.items c.take_open.new.slots.items c.args.at slot.Free (slot.Waiting c.again.result) (c.in-Some.ensures.free refl)
      ∙ ap (λ b. slice_set b.slots c.args.at (slot.Waiting c.again.result)) c.self.view_is;
  unadded = refl;
}

pub returns-in-Err-Again-clause-left : goal.returns-in-Err-Again-clause-left
returns-in-Err-Again-clause-left g c =
    let job = c.in-Some.job in
    let slots = c.self.inside.slots.items in
    let back = handed_back job c.in-Err-Again.job _ _ c.in-Err-Again.ensures.back c.in-Err-Again.field-0-is in
    leaves_waiting c.args.self.now.slots c.put.new.slots.items c.args.at _ (sym c.is_some-may_retry.ensures ∙ back.1)
    (subst (λ b. WaitsAgain b.slots c.put.new.slots.items c.args.at) c.self.view_is (record {
      job = job;
      there = out_job slots c.args.at c.in-Some.number job c.in-Some.ensures.out;
      is = c.put.ensures ∙ set_again slots c.take_open.new.slots.items c.args.at slot.Free (slot.Waiting c.again.result) (c.in-Some.ensures.free refl)
          ∙ ap (λ j. slice_set slots c.args.at (slot.Waiting j)) c.again.ensures ∙ ap (λ j. slice_set slots c.args.at (slot.Waiting (next_job j))) back.0;
    }))

pub unreachable-requires : goal.unreachable-requires
unreachable-requires g c =
    let added = subst (λ b. IsAwaited b.slots c.args.at) (sym c.self.view_is) c.requires.added in
    c.take_open.ensures.none_added added.0 added.1 added.2 c.in_default.is added.3
