use Rattle.mx_head.specs.Faults.{head_code, head_line, MeetsAtHead}
use Rattle.mx_head.proofs.FirstLemmas.{one_first, shortest_is_first, first_is_shortest, first_has_shortest}
use Rattle.mx_head.proofs.LawLemmas.{one_head_code}
use Rattle.mx_head.proofs.laws.first_fault_is_shortest.Goals as goal

pub returns-clause-one_code : goal.returns-clause-one_code
returns-clause-one_code c = one_head_code

pub returns-clause-one : goal.returns-clause-one
returns-clause-one c = one_first head_code head_line MeetsAtHead

pub returns-clause-shortest_first : goal.returns-clause-shortest_first
returns-clause-shortest_first c = shortest_is_first head_code head_line MeetsAtHead one_head_code

pub returns-clause-first_shortest : goal.returns-clause-first_shortest
returns-clause-first_shortest c = first_is_shortest head_code head_line MeetsAtHead one_head_code

pub returns-clause-has_shortest : goal.returns-clause-has_shortest
returns-clause-has_shortest c = first_has_shortest head_code head_line MeetsAtHead one_head_code
