use Rattle.std.proofs.Common.{◌∙◌, ap, sym, map}
use Rattle.std.specs.Prelude.{not}
use Rattle.std.specs.List.{filter}
use Rattle.std.specs.Option.{option_to_list}
use Rattle.mx_types.specs.declared.event.What.{What}
use Rattle.mx_history.specs.Definitions.{addition_pair}
use Rattle.mx_history.specs.History.{Addition, addition_of, occurs, removes}
use Rattle.mx_history.proofs.Defined.{left_gone, left_there}
use Rattle.mx_history.proofs.definitions.addition_left.Goals as goal

pub returns-then-is_removed : goal.returns-then-is_removed
returns-then-is_removed c =
    left_gone c.in-Added.handle c.in-Added.ticket c.args.later.now (sym c.is_removed.ensures ∙ c.if-is_removed.true)
    ∙ ap (λ (w : What). map addition_pair (filter (λ (a : Addition). not (occurs (removes a.ticket) c.args.later.now)) (option_to_list (addition_of w)))) (sym c.in-Added.is)

pub returns-else-is_removed : goal.returns-else-is_removed
returns-else-is_removed c =
    left_there c.in-Added.handle c.in-Added.ticket c.args.later.now (sym c.is_removed.ensures ∙ c.if-is_removed.false)
    ∙ ap (λ (w : What). map addition_pair (filter (λ (a : Addition). not (occurs (removes a.ticket) c.args.later.now)) (option_to_list (addition_of w)))) (sym c.in-Added.is)
