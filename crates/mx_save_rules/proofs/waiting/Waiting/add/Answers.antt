use Rattle.std.proofs.Common.{sym, ap, ◌∙◌, subst}
use Rattle.mx_save_rules.specs.Waits.{Adds}
use Rattle.mx_save_rules.proofs.Order.{place, adds_at, ordered_at}
use Rattle.mx_save_rules.proofs.waiting.Waiting.add.Goals as goal

pub invariant_of-self-2 : goal.invariant_of-self-2
invariant_of-self-2 c =
    let at = c.place_of-place.ensures.place ∙ ap (place c.args.wait.moment) (sym c.self.view_is) in
    ordered_at c.args.wait c.self.inside.waits.items _ _ c.self.invariant at c.in_ok-insert.ensures.items

pub returns-clause-added : goal.returns-clause-added
returns-clause-added c =
    let old = ap (place c.args.wait.moment) (sym c.self.view_is) in
    subst (λ ws. Adds ws c.insert.new.self.items c.args.wait) c.self.view_is
    (adds_at c.args.wait c.self.inside.waits.items _ _ c.self.invariant (c.place_of-place.ensures.place ∙ old) c.in_ok-insert.ensures.items)

pub returns-clause-ordered : goal.returns-clause-ordered
returns-clause-ordered c =
    let at = c.place_of-place.ensures.place ∙ ap (place c.args.wait.moment) (sym c.self.view_is) in
    ordered_at c.args.wait c.self.inside.waits.items _ _ c.self.invariant at c.in_ok-insert.ensures.items
