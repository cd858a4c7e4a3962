use Rattle.std.proofs.Common.{◌∙◌, ap, refl}
use Rattle.mx_desk.specs.Ties.{ties_of}
use Rattle.mx_desk.proofs.Desks.{asked_length, desk_none, none_asked}
use Rattle.mx_desk.proofs.desk.Desk.new.Goals as goal

pub invariant_of-result : goal.invariant_of-result
invariant_of-result g c = desk_none (ties_of c.new.result) c.in-Ok.additions.items c.args.width c.in-Ok.ensures.none

pub returns-in-Ok : goal.returns-in-Ok
returns-in-Ok g c = record {
  none = none_asked c.in-Ok.additions.items c.in-Ok.ensures.none;
  count = asked_length c.in-Ok.additions.items ∙ c.in-Ok.ensures.count;
  width = refl;
  first = ap (λ s. s.first) c.new.ensures;
  beside = ap (λ s. s.beside) c.new.ensures;
  takes = refl;
}
