use Rattle.std.proofs.Common.{◌≡◌, ◌≤◌, length, sym, ap, ◌∙◌, arith}
use Rattle.std.specs.List.{count_by}
use Rattle.std.proofs.lemmas.List.Sums.{count_by-le-length}
use Rattle.std.proofs.lemmas.Grind.{common_steps}
use Rattle.mx_types.specs.Limits.{most_transfers}
use Rattle.mx_turn.specs.declared.deadlines.Deadline.{Deadline}
use Rattle.mx_turn.specs.InOrder.{is_before}
use Rattle.mx_turn.proofs.Order.{set-in_order, others-few}
use Rattle.mx_turn.proofs.deadlines.Deadlines.set.Goals as goal

pub insert-requires : goal.insert-requires
insert-requires c =
    let d : Deadline = record { moment = c.args.moment; ticket = c.args.ticket } in
    let rest = c.self.inside.set.items in
    let room = others-few d c.args.self.now rest most_transfers (c.self.view_is ∙ c.clear.ensures) c.requires in
    let place : c.place_of-place.result ≡ count_by (λ e. is_before e d) rest =
    c.place_of-place.ensures ∙ ap (count_by (λ e. is_before e d)) (sym c.self.view_is) in
    let within : c.place_of-place.result ≤ length rest = omega (arith, place, count_by-le-length (λ e. is_before e d) rest) in
    (omega arith, (within, room))

pub invariant_of-self : goal.invariant_of-self
invariant_of-self c =
    let d : Deadline = record { moment = c.args.moment; ticket = c.args.ticket } in
    let rest = c.self.inside.set.items in
    let place = c.place_of-place.ensures ∙ ap (count_by (λ e. is_before e d)) (sym c.self.view_is) in
    let room = others-few d c.args.self.now rest most_transfers (c.self.view_is ∙ c.clear.ensures) c.requires in (
      set-in_order d c.args.self.now rest _ _ c.self.invariant.0 (c.self.view_is ∙ c.clear.ensures) place c.insert.ensures.items,
      omega (arith, c.insert.ensures.len),
    )

pub returns-clause-set : goal.returns-clause-set
returns-clause-set c = grind (arith, common_steps)

pub returns-clause-ordered : goal.returns-clause-ordered
returns-clause-ordered c =
    let d : Deadline = record { moment = c.args.moment; ticket = c.args.ticket } in
    let place = c.place_of-place.ensures ∙ ap (count_by (λ e. is_before e d)) (sym c.self.view_is) in
    set-in_order d c.args.self.now c.self.inside.set.items _ _ c.self.invariant.0 (c.self.view_is ∙ c.clear.ensures) place c.insert.ensures.items
