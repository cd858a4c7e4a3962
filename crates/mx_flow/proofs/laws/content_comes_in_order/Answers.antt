use Rattle.mx_flow.proofs.LawProofs.{whole_has_all, only_grows, is_front_of_each}
use Rattle.mx_flow.proofs.laws.content_comes_in_order.Goals as goal

pub returns-clause-all : goal.returns-clause-all
returns-clause-all c = whole_has_all

pub returns-clause-grows : goal.returns-clause-grows
returns-clause-grows c = only_grows

pub returns-clause-front : goal.returns-clause-front
returns-clause-front c = is_front_of_each
