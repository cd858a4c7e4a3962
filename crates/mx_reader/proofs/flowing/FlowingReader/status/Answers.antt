use Rattle.std.proofs.Common.{subst}
use Rattle.mx_body.specs.Decision.{HasStatus}
use Rattle.mx_reader.specs.Readers.{ReaderValue}
use Rattle.mx_reader.proofs.HeadsLemmas.{status_behind}
use Rattle.mx_reader.proofs.flowing.FlowingReader.status.Goals as goal

pub returns : goal.returns
returns c =
    let r = c.self.inside in
    subst (λ (v : ReaderValue). HasStatus v.wire c.status.result) c.self.view_is
    (status_behind r.stream c.know.ensures.exact r.behind c.self.invariant.none_behind c.status.result c.status.ensures)
