use Rattle.std.proofs.Common.{ap, subst, sym, ◌∙◌}
use Rattle.mx_flow.specs.Streams.{StreamValue}
use Rattle.mx_reader.specs.Readers.{ReaderValue, IsReader}
use Rattle.mx_reader.specs.Flowing.{flowing}
use Rattle.mx_reader.proofs.StateLemmas.{passed_so}
use Rattle.mx_reader.proofs.flowing.FlowingReader.pass_open.Goals as goal

pub invariant_of-self-2 : goal.invariant_of-self-2
invariant_of-self-2 c =
    let r = c.self.inside in
    passed_so r.stream c.pass.new.self r.behind c.args.piece.now r.ended r.keep r.is_all r.fed c.saturating_add-self-inside.result
    r.stand c.stand_by-self-inside.result c.keeps_by-self-inside.result c.stand-stand.result c.self.invariant
    (ap (λ (v : ReaderValue). v.judgement.stand) c.self.view_is ∙ c.requires) c.pass.ensures.exact (c.pass.ensures.passed (search))
    c.stand-stand.ensures.stand c.keeps_by-self-inside.ensures c.stand_by-self-inside.ensures c.saturating_add-self-inside.ensures

pub returns-clause-exact : goal.returns-clause-exact
returns-clause-exact c = (invariant_of-self-2 c).reader

pub returns-then-not-pass-clause-exact : goal.returns-then-not-pass-clause-exact
returns-then-not-pass-clause-exact c =
    let r = c.self.inside in
    subst (λ (s : StreamValue). IsReader (flowing s r.behind r.stand r.ended r.keep)) (sym (c.pass.ensures.same (search))) c.self.invariant.reader
