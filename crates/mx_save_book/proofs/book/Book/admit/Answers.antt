use Rattle.std.proofs.Common.{◌∙◌, ap, refl, map, [], ◌∷◌}
use Rattle.mx_save_book.proofs.Books.{stopped_more}
use Rattle.mx_save_book.proofs.BookSteps.{refused_now, texts_push}
use Rattle.mx_save_book.proofs.book.Book.admit.Goals as goal

pub invariant_of-self : goal.invariant_of-self
invariant_of-self g c =
    stopped_more _ _ _ _ _ _ _ (c.args.url.items ∷ []) c.self.invariant refl (ap (map (λ u. u.items)) c.show.ensures ∙ texts_push (λ u. u.items) c.self.inside.urls c.args.url) refl refl

pub returns-in-Err-clause-told : goal.returns-in-Err-clause-told
returns-in-Err-clause-told g c = refused_now c.args.self.now _ c.args.url.items c.refuse.result c.with-in-Err.result c.with-in-Err.ensures c.refuse.ensures.told
