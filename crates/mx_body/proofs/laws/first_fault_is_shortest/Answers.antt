use Rattle.mx_head.proofs.FirstLemmas.{one_first, shortest_is_first, first_is_shortest, first_has_shortest}
use Rattle.mx_body.specs.Causes.{cause_code, cause_line, Meets}
use Rattle.mx_body.proofs.LawLemmas.{one_cause_code}
use Rattle.mx_body.proofs.laws.first_fault_is_shortest.Goals as goal

pub returns-clause-one_code : goal.returns-clause-one_code
returns-clause-one_code c a b e = one_cause_code a b e

pub returns-clause-one : goal.returns-clause-one
returns-clause-one c m input code other f g = one_first cause_code cause_line (Meets m) input code other f g

pub returns-clause-shortest_first : goal.returns-clause-shortest_first
returns-clause-shortest_first c m input p cause s = shortest_is_first cause_code cause_line (Meets m) one_cause_code input p cause s

pub returns-clause-first_shortest : goal.returns-clause-first_shortest
returns-clause-first_shortest c m input p cause code s f = first_is_shortest cause_code cause_line (Meets m) one_cause_code input p cause code s f

pub returns-clause-has_shortest : goal.returns-clause-has_shortest
returns-clause-has_shortest c m input code f none = first_has_shortest cause_code cause_line (Meets m) one_cause_code input code f none
