use Rattle.std.proofs.Common.{◌-◌, false, length, take, subst, sym, refl, arith}
use Rattle.std.proofs.lemmas.List.{length-take-le}
use Rattle.mx_body.specs.declared.chunked.place.ChunkedPlace.TheVariants.{Data}
use Rattle.mx_body.specs.declared.progress.Phase.{Phase}
use Rattle.mx_body.specs.Progress.{IsPhase, KnowsHead}
use Rattle.mx_body.proofs.ProgressLemmas.{head_grows, chunks_pass, chunks_undecided}
use Rattle.mx_body.proofs.progress.pass_data.Goals as goal

pub returns-clause-progress : goal.returns-clause-progress
returns-clause-progress c passed =
    let p = subst (λ (x : Phase). IsPhase c.args.method (take c.args.before c.args.wire.now) x c.args.progress.now.reader) c.in-Chunks.is c.requires.progress in
    let left = c.in-Data.left - (length c.args.wire.now - c.args.before) in
    let read = length c.args.wire.now - c.in-Chunks.at in
    let first = length-take-le c.args.before c.args.wire.now c.requires.within in
    subst (λ (x : Phase). IsPhase c.args.method c.args.wire.now x (record c.args.progress.now.reader { place = Data left; read = read })) (sym c.in-Chunks.is)
    (chunks_pass c.args.method c.args.wire.now c.args.before _ c.in-Chunks.at c.in-Data.left left read c.args.progress.now.reader c.requires.within p c.in-Data.is
    (omega arith) (omega arith) (omega (arith, p.0.within, first, c.requires.within)))

pub returns-clause-verdict : goal.returns-clause-verdict
returns-clause-verdict c passed =
    let p = subst (λ (x : Phase). IsPhase c.args.method (take c.args.before c.args.wire.now) x c.args.progress.now.reader) c.in-Chunks.is c.requires.progress in
    let left = c.in-Data.left - (length c.args.wire.now - c.args.before) in
    let read = length c.args.wire.now - c.in-Chunks.at in
    let first = length-take-le c.args.before c.args.wire.now c.requires.within in
    let q = chunks_pass c.args.method c.args.wire.now c.args.before _ c.in-Chunks.at c.in-Data.left left read c.args.progress.now.reader c.requires.within p c.in-Data.is
    (omega arith) (omega arith) (omega (arith, p.0.within, first, c.requires.within)) in
    (chunks_undecided c.args.method c.args.wire.now false _ _ _ (omega arith) q.0 q.1 q.2 q.3 q.5, omega arith, refl)

pub returns-clause-head : goal.returns-clause-head
returns-clause-head c passed =
    let p = subst (λ (x : Phase). IsPhase c.args.method (take c.args.before c.args.wire.now) x c.args.progress.now.reader) c.in-Chunks.is c.requires.progress in
    subst (λ (x : Phase). KnowsHead c.args.wire.now x) (sym c.in-Chunks.is) (head_grows c.args.wire.now c.args.before _ _ p.0)
