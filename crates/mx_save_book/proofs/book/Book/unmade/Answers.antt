use Rattle.std.proofs.Common.{◌≢◌, ◌∙◌, ◌<◌, ◌++◌, ◌∷◌, [], ap, false, inl, map, refl, subst, sym}
use Rattle.std.specs.Prelude.{None}
use Rattle.mx_types.specs.declared.code.Code.TheVariants as code
use Rattle.mx_folder.specs.Steps.{refusals}
use Rattle.mx_save.specs.declared.error.SaveError.TheVariants as errors
use Rattle.mx_save_book.specs.Books.{IsUnmadeNow, Waits, next_job}
use Rattle.mx_save_book.specs.Jobs.{AreOut, HasRefused, BookValue, IsBook, MayName, is_saved, told_refusals}
use Rattle.mx_save_book.specs.declared.job.Slot.TheVariants as slot
use Rattle.mx_save_book.proofs.Books.{account, again, closed, same_ledger}
use Rattle.mx_save_book.proofs.BookSteps.{is_none_so, retry_tries, unmade_is}
use Rattle.mx_save_book.proofs.Holds.{unmade}
use Rattle.mx_save_book.proofs.Parts.{stays}
use Rattle.mx_save_book.proofs.book.Book.unmade.Goals as goal

pub invariant_of-self-then-is_some : goal.invariant_of-self-then-is_some
invariant_of-self-then-is_some g c =
    let going = ap (λ b. b.is_stopped) c.self.view_is ∙ c.requires.going in
    let was = c.self.invariant.going going in
    let w = c.set_waiting.ensures in
    let next = next_job w.job in
    let slots = c.self.inside.slots.items in
    let waits = subst (λ b. Waits b.slots c.args.at) (sym c.self.view_is) c.requires.waits in
    let tries = retry_tries c.self.inside.asking slots c.args.at w.job next code.CouldntConnect 0 c.file_delay-delay.result
    (c.file_delay-delay.ensures.delays (c.file_delay-delay.ensures.limit (sym c.is_some.ensures ∙ c.if-is_some.true))) (sym c.is_some.ensures ∙ c.if-is_some.true) w.there
    (was.pending c.args.at w.job w.there).tries refl in
    account _ false _ _ c.self.invariant.whole
    (subst (λ l. IsBook (record {
      asking = c.self.inside.asking;
      urls = map (λ u. u.items) c.self.inside.urls;
      named = map (λ u. u.items) c.self.inside.named;
      slots = l;
      told = c.self.inside.lines.told;
      ledger = c.self.inside.ledger;
    }) c.self.inside.read c.self.inside.names) (sym w.is)
    (again _ c.self.inside.read c.self.inside.names c.args.at w.job next (slot.Waiting next) was w.there refl refl refl refl tries))
    (subst (AreOut c.self.inside.ledger.out) (sym w.is) (stays c.self.inside.ledger.out c.self.inside.slots.items c.args.at (slot.Waiting waits.0) (slot.Waiting next) (c.self.invariant.out going) waits.1 (λ m. refl)))

pub invariant_of-self-2 : goal.invariant_of-self-2
invariant_of-self-2 g c =
    let going = ap (λ b. b.is_stopped) c.self.view_is ∙ c.requires.going in
    let was = c.self.invariant.going going in
    let job = c.in-Some.job in
    let end = c.in_ok-end.ensures in
    let u = c.args.unsaved in
    let l = c.self.inside.ledger in
    let there = sym c.take_job.ensures.job ∙ c.in-Some.is in
    let pends = was.pending c.args.at job there in
    let waits = subst (λ b. Waits b.slots c.args.at) (sym c.self.view_is) c.requires.waits in
    account _ false _ _ c.self.invariant.whole
    (subst (λ x. IsBook (record {
      asking = c.self.inside.asking;
      urls = map (λ u. u.items) c.self.inside.urls;
      named = map (λ u. u.items) c.self.inside.named;
      slots = x;
      told = c.tell.new.self.told;
      ledger = l;
    }) c.self.inside.read c.self.inside.names) (sym c.take_job.ensures.free)
    (closed _ c.self.inside.read c.self.inside.names c.args.at job c.in_ok-end.end _ _ was c.in_ok-tell.ensures.told c.in_ok-tell.ensures.is
    there (ap (λ x. x.url) end) (subst (λ x. MayName job.name x.file) (sym end) tt) (inl (ap (λ x. is_saved x.verdict) end, refl)) (same_ledger l)
    (unmade c.self.inside.asking l job.url.items job.tries c.untransferred.result u.error u.part u.left c.in_ok-end.end pends.asks pends.tries c.untransferred.ensures c.requires.left
    (subst (λ b. u.error ≢ errors.OutOfMemory → refusals b.ledger.start < refusals b.ledger.steps) (sym c.self.view_is) c.requires.cause)
    (subst (λ b. HasRefused b.ledger (told_refusals u.error u.part None)) (sym c.self.view_is) c.requires.calls) end)))
    (subst (AreOut l.out) (sym c.take_job.ensures.free) (stays c.self.inside.ledger.out c.self.inside.slots.items c.args.at (slot.Waiting waits.0) slot.Free (c.self.invariant.out going) waits.1 (λ m. refl)))

pub returns-clause-told : goal.returns-clause-told
returns-clause-told g c =
    let job = c.in-Some.job in
    let u = c.args.unsaved in
    let there = sym c.take_job.ensures.job ∙ c.in-Some.is in
    let now : BookValue g.row.W.Denot = record {
      asking = c.self.inside.asking;
      urls = map (λ u. u.items) c.self.inside.urls;
      named = map (λ u. u.items) c.self.inside.named;
      slots = c.take_job.new.slots.items;
      lines = c.tell.new.self;
      ledger = c.self.inside.ledger;
      is_stopped = false;
    } in
    subst (λ b. IsUnmadeNow b now c.args.at u.error u.part) c.self.view_is (record {
      job = job;
      there = there;
      told = c.in_ok-tell.ensures.told
          ∙ ap (λ e. c.self.inside.lines.told ++ record { place = job.place; end = e } ∷ [])
          (unmade_is job.url.items job.tries c.untransferred.result u.error u.part u.left c.in_ok-end.end c.in_ok-end.ensures c.untransferred.ensures c.requires.left);
      last = λ limit. is_none_so c.file_delay-delay.result (sym c.is_some.ensures ∙ c.if-is_some.false) ∙ c.file_delay-delay.ensures.delays limit job there;
    })
