use Rattle.std.proofs.Common.{subst}
use Rattle.mx_body.specs.Decision.{TellsLocation, bytes_at}
use Rattle.mx_reader.specs.Readers.{ReaderValue}
use Rattle.mx_reader.proofs.HeadsLemmas.{location_behind}
use Rattle.mx_reader.proofs.flowing.FlowingReader.location.Goals as goal

pub returns-clause-bytes : goal.returns-clause-bytes
returns-clause-bytes c =
    let r = c.self.inside in
    subst (λ (v : ReaderValue). TellsLocation v.wire (bytes_at v.kept c.location.result)) c.self.view_is
    (location_behind r.stream c.know.ensures.exact r.behind c.self.invariant.none_behind (bytes_at r.stream.heads c.location.result) c.location.ensures.bytes)
