use Rattle.std.proofs.Common.{◌∙◌, ◌+◌, ◌∷◌, ap, sym, subst, map, drop, inl, inr, arith}
use Rattle.std.specs.Prelude.{IsSome}
use Rattle.mx_save_urls.specs.Feeds.{at_hand, list_left}
use Rattle.mx_save_urls.proofs.Feeds.{drop_at, gives_next}
use Rattle.mx_save_urls.proofs.feed.Feed.next.Goals as goal

pub returns-then-self-clause-next : goal.returns-then-self-clause-next
returns-then-self-clause-next g c =
    gives_next (map (λ u. u.now) c.args.self.now.urls.now) (at_hand c.args.self.now) c.args.self.now.next (list_left g.R.Read.remaining c.args.self.now.list) (λ v. v.items) c.in_ok-url.url
    (drop_at (λ u. u.now) c.args.self.now.urls.now c.args.self.now.next _ c.if-self.true
    ∙ ap (λ t. t ∷ drop (c.args.self.now.next + 1) (map (λ u. u.now) c.args.self.now.urls.now)) (sym (c.in_ok-url.ensures.items ∙ c.as_bytes.ensures.value)))

pub returns-clause-some : goal.returns-clause-some
returns-clause-some g c = λ has.
    elim has [
      | inl one ↦ absurd (omega (arith, one, c.if-self.false))
      | inr one ↦ subst IsSome (sym c.take.ensures.value) one
    ]
