use Rattle.std.specs.Prelude.{IfSome}
use Rattle.std.proofs.Common.{subst}
use Rattle.mx_reader.specs.Readers.{ReaderValue}
use Rattle.mx_reader.specs.Whys.{HasNoReason, IsReasonOf}
use Rattle.mx_reader.proofs.WhyLemmas.{none_told, reason_told}
use Rattle.mx_reader.proofs.flowing.FlowingReader.why.Goals as goal

pub returns-clause-some : goal.returns-clause-some
returns-clause-some c =
    let r = c.self.inside in
    subst (λ (v : ReaderValue). IfSome c.why.result (IsReasonOf v)) c.self.view_is
    (reason_told r.stream r.behind r.stand r.ended r.keep c.why.result c.self.invariant.none_behind c.why.ensures.some c.why.ensures.cut)

pub returns-clause-none : goal.returns-clause-none
returns-clause-none c = λ none.
    let r = c.self.inside in
    subst HasNoReason c.self.view_is (none_told r.stream r.behind r.stand r.ended r.keep c.know.ensures.exact (c.why.ensures.none none))
