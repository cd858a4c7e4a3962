use Rattle.std.proofs.Common.{◌∙◌, sym, ap}
use Rattle.mx_head.specs.Summary.{framing_by}
use Rattle.mx_reason.specs.Faults.{fault_code}
use Rattle.mx_reason.proofs.Telling.{told_framing}
use Rattle.mx_reason.proofs.fault.fault_in_body.Goals as goal

pub returns-in-Err-clause-code : goal.returns-in-Err-clause-code
returns-in-Err-clause-code c =
    ap fault_code c.framing_fault.ensures
    ∙ told_framing (framing_by c.args.method c.args.head.now) c.args.at c.args.rest.now c.args.code c.in-Err.refused c.requires (sym c.framing.ensures ∙ c.in-Err.is)
