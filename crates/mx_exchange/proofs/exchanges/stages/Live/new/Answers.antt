use Rattle.std.proofs.Common.{refl, ap, ◌∙◌}
use Rattle.mx_reader.specs.Readers.{ReaderValue}
use Rattle.mx_line.proofs.Judged.{judged_past, undecided_by}
use Rattle.mx_exchange.proofs.exchanges.stages.Live.new.Goals as goal

pub returns-clause-going : goal.returns-clause-going
returns-clause-going g c =
    let begins = c.reader-reader.ensures.begins in
    let exact = c.reader-reader.ensures.exact in
    let method = ap (λ (r : ReaderValue). r.method) begins ∙ c.method.ensures in
    let wire = ap (λ (r : ReaderValue). r.wire) begins in
    let unended = ap (λ (r : ReaderValue). r.ended) begins in
    let more = ap (λ (r : ReaderValue). r.judgement.stand) begins in
    record {
      exact = exact;
      method = method;
      wire = wire;
      unended = unended;
      more = more;
      undecided = (refl, undecided_by _ _ _ _ (judged_past _ _ _ _ exact method wire unended) more);
    }
