use Rattle.mx_body.proofs.LawLemmas.{fault_same, fault_hopeless}
use Rattle.mx_body.proofs.laws.fault_stays_same.Goals as goal

pub returns-clause-same : goal.returns-clause-same
returns-clause-same c m input more ended code x = fault_same m input more ended code x

pub returns-clause-hopeless : goal.returns-clause-hopeless
returns-clause-hopeless c m input code x = fault_hopeless m input code x
