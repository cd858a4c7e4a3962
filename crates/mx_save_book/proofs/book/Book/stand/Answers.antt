use Rattle.std.proofs.Common.{◌∙◌, ap, refl, false, subst, sym, map, ◌++◌, ◌∷◌, []}
use Rattle.std.specs.Prelude.{slice_get, slice_set}
use Rattle.mx_folder.specs.Names.{base_name, count_of, numbered}
use Rattle.mx_save_book.specs.Jobs.{CanAsk}
use Rattle.mx_save_book.specs.declared.job.Job.{Job}
use Rattle.mx_save_book.specs.declared.job.Slot.TheVariants as slot
use Rattle.mx_save_book.proofs.Books.{account, stood_as, stopped_more}
use Rattle.mx_save_book.proofs.BookSteps.{get_set, texts_push}
use Rattle.mx_save_book.proofs.Parts.{stays}
use Rattle.mx_save_book.proofs.book.Book.stand.Goals as goal

pub invariant_of-self : goal.invariant_of-self
invariant_of-self g c =
    stopped_more _ _ _ _ _ _ _ (c.args.url.items ∷ []) c.self.invariant refl (ap (map (λ u. u.items)) c.show.ensures ∙ texts_push (λ u. u.items) c.self.inside.urls c.args.url) refl refl

pub invariant_of-self-in_err-name : goal.invariant_of-self-in_err-name
invariant_of-self-in_err-name g c =
    stopped_more _ _ _ _ _ _ _ (c.args.url.items ∷ []) c.self.invariant refl (ap (map (λ u. u.items)) c.show.ensures ∙ texts_push (λ u. u.items) c.self.inside.urls c.args.url) refl refl

pub invariant_of-self-2 : goal.invariant_of-self-2
invariant_of-self-2 g c =
    let was = c.self.invariant.going (ap (λ b. b.is_stopped) c.self.view_is ∙ c.requires.going) in
    account _ false _ _ c.self.invariant.whole
    (stood_as _ c.self.inside.read _ c.self.inside.names _ _ _ c.args.at _ was c.in-Some.ensures.0 c.in-Some.ensures.1
    (ap (map (λ u. u.items)) c.show.ensures ∙ texts_push (λ u. u.items) c.self.inside.urls c.args.url)
    (ap (map (λ u. u.items)) c.show-2.ensures ∙ texts_push (λ u. u.items) c.self.inside.named c.args.url)
    (c.in_ok-name.ensures.noted ∙ ap (λ x. c.self.inside.names ++ base_name x ∷ []) c.as_slice.ensures.value)
    (subst (λ b. CanAsk b.asking c.args.url.items) (sym c.self.view_is) c.requires.asks) (ap (λ b. slice_get b.slots c.args.at) c.self.view_is ∙ c.requires.free)
    refl (c.in_ok-name.ensures.name ∙ ap (λ x. numbered (base_name x) (count_of c.self.inside.names (base_name x))) c.as_slice.ensures.value) refl)
    (stays c.self.inside.ledger.out c.self.inside.slots.items c.args.at slot.Free _ (c.self.invariant.out (ap (λ b. b.is_stopped) c.self.view_is ∙ c.requires.going)) (ap (λ b. slice_get b.slots c.args.at) c.self.view_is ∙ c.requires.free) (λ m. refl))

pub returns-clause-slots : goal.returns-clause-slots
returns-clause-slots g c =
    let job : Job = record { place = c.self.inside.read; url = c.args.url; name = c.in_ok-name.name; tries = 1 } in
    record {
      job = job;
      is = ap (λ b. slice_set b.slots c.args.at (slot.Waiting job)) c.self.view_is;
      url = refl;
      waits = get_set c.self.inside.slots.items c.args.at slot.Free (slot.Waiting job) (ap (λ b. slice_get b.slots c.args.at) c.self.view_is ∙ c.requires.free);
    }
