use Rattle.std.proofs.Common.{◌∙◌, ap, refl, false, sym, subst, map, [], ◌∷◌, ◌++◌}
use Rattle.mx_save_book.specs.Books.{IsRefusedNow}
use Rattle.mx_save_book.specs.Jobs.{BookValue, Refuses, refused_end}
use Rattle.mx_save_book.proofs.Books.{account, refused_as, stopped_more}
use Rattle.mx_save_book.proofs.BookSteps.{texts_push}
use Rattle.mx_save_book.proofs.book.Book.refuse.Goals as goal

pub invariant_of-self : goal.invariant_of-self
invariant_of-self g c =
    stopped_more _ _ _ _ _ _ _ (c.args.url.items ∷ []) c.self.invariant refl (ap (map (λ u. u.items)) c.show.ensures ∙ texts_push (λ u. u.items) c.self.inside.urls c.args.url) refl refl

pub invariant_of-self-in_err-end : goal.invariant_of-self-in_err-end
invariant_of-self-in_err-end g c =
    stopped_more _ _ _ _ _ _ _ (c.args.url.items ∷ []) c.self.invariant refl (ap (map (λ u. u.items)) c.show.ensures ∙ texts_push (λ u. u.items) c.self.inside.urls c.args.url) refl refl

pub invariant_of-self-in_err-tell : goal.invariant_of-self-in_err-tell
invariant_of-self-in_err-tell g c =
    stopped_more _ _ _ _ _ _ _ (c.args.url.items ∷ []) c.self.invariant refl (ap (map (λ u. u.items)) c.show.ensures ∙ texts_push (λ u. u.items) c.self.inside.urls c.args.url)
    c.in_err-tell.ensures.kept refl

pub invariant_of-self-2 : goal.invariant_of-self-2
invariant_of-self-2 g c =
    let was = c.self.invariant.going (ap (λ b. b.is_stopped) c.self.view_is ∙ c.requires.going) in
    let refuses = subst (λ b. Refuses b.asking c.args.url.items c.args.why) (sym c.self.view_is) c.requires.why in
    account _ false _ _ c.self.invariant.whole
    (refused_as _ c.self.inside.read _ c.self.inside.names _ c.args.url.items c.args.why c.in_ok-end.end _ was c.in-Some.ensures.0
    (ap (map (λ u. u.items)) c.show.ensures ∙ texts_push (λ u. u.items) c.self.inside.urls c.args.url)
    c.in_ok-tell.ensures.told c.in_ok-tell.ensures.is c.in_ok-end.ensures refuses)
    (c.self.invariant.out (ap (λ b. b.is_stopped) c.self.view_is ∙ c.requires.going))

pub returns-clause-told : goal.returns-clause-told
returns-clause-told g c =
    let read = (c.self.invariant.going (ap (λ b. b.is_stopped) c.self.view_is ∙ c.requires.going)).read in
    let now : BookValue g.row.W.Denot = record {
      asking = c.self.inside.asking;
      urls = map (λ u. u.items) c.show.new.self;
      named = map (λ u. u.items) c.self.inside.named;
      slots = c.self.inside.slots.items;
      lines = c.tell.new.self;
      ledger = c.self.inside.ledger;
      is_stopped = false;
    } in
    subst (λ b. IsRefusedNow b now c.args.url.items) c.self.view_is (record {
      why = c.args.why;
      refuses = subst (λ b. Refuses b.asking c.args.url.items c.args.why) (sym c.self.view_is) c.requires.why;
      told = c.in_ok-tell.ensures.told ∙ ap (λ e. c.self.inside.lines.told ++ record { place = c.self.inside.read; end = e } ∷ []) c.in_ok-end.ensures
          ∙ ap (λ n. c.self.inside.lines.told ++ record { place = n; end = refused_end c.args.url.items c.args.why } ∷ []) read;
    })
