use Rattle.std.proofs.Common.{ℕ, List, take, subst, sym, ◌∙◌, inl, arith, length-take, rules}
use Rattle.mx_head.specs.Limits.{most_bytes}
use Rattle.mx_body.specs.declared.progress.Phase.{Phase}
use Rattle.mx_body.specs.Progress.{IsPhase, KnowsHead}
use Rattle.mx_body.specs.Steps.{IsFinalStepOn}
use Rattle.mx_body.proofs.FirstBytesLemmas.{first_is, head_from, no_final}
use Rattle.mx_body.proofs.MeetsLemmas.{headless_no_response}
use Rattle.mx_body.proofs.ProgressLemmas.{passed_grows, passed_whole, head_grows, read_grows}
use Rattle.mx_body.proofs.progress.go_on.Goals as goal

pub final_head_from-requires : goal.final_head_from-requires
final_head_from-requires c =
    let p = subst (λ (x : Phase). IsPhase c.args.method (take c.args.before c.args.wire.now) x c.args.progress.now.reader) c.in-Heads.is c.requires.progress in
    passed_grows c.args.wire.now c.args.before c.min.result _ (omega (arith, c.min.ensures, c.requires.within, c.requires.small)) p

pub begin_body-requires : goal.begin_body-requires
begin_body-requires c =
    let s = subst (λ (t : List ℕ). IsFinalStepOn t c.final_head_from.result) (first_is c.args.wire.now c.min.result c.min.ensures) c.final_head_from.ensures.step in
    record { head = head_from c.args.wire.now c.in-Head.head c.in-Head.end (subst (IsFinalStepOn _) c.in-Head.is s) }

pub decode_no_head-requires : goal.decode_no_head-requires
decode_no_head-requires c =
    let s = subst (λ (t : List ℕ). IsFinalStepOn t c.final_head_from.result) (first_is c.args.wire.now c.min.result c.min.ensures) c.final_head_from.ensures.step in
    subst (IsFinalStepOn _) c.in-More.is s

pub returns-in-Fault-clause-verdict : goal.returns-in-Fault-clause-verdict
returns-in-Fault-clause-verdict c =
    let s = subst (λ (t : List ℕ). IsFinalStepOn t c.final_head_from.result) (first_is c.args.wire.now c.min.result c.min.ensures) c.final_head_from.ensures.step in
    let fault = subst (IsFinalStepOn _) c.in-Fault.is s in
    (headless_no_response c.args.method c.args.wire.now _ (no_final c.args.wire.now fault.0), inl (fault.1 c.args.method))

pub decode_body-requires : goal.decode_body-requires
decode_body-requires c =
    let p = subst (λ (x : Phase). IsPhase c.args.method (take c.args.before c.args.wire.now) x c.args.progress.now.reader) c.in-Body.is c.requires.progress in
    head_grows c.args.wire.now c.args.before _ _ p

pub returns-in-Body-clause-progress : goal.returns-in-Body-clause-progress
returns-in-Body-clause-progress c more =
    let p = subst (λ (x : Phase). IsPhase c.args.method (take c.args.before c.args.wire.now) x c.args.progress.now.reader) c.in-Body.is c.requires.progress in
    subst (λ (x : Phase). IsPhase c.args.method c.args.wire.now x c.args.progress.now.reader) (sym c.in-Body.is) (head_grows c.args.wire.now c.args.before _ _ p)

pub go_on_chunked-requires-clause-head : goal.go_on_chunked-requires-clause-head
go_on_chunked-requires-clause-head c =
    let p = subst (λ (x : Phase). IsPhase c.args.method (take c.args.before c.args.wire.now) x c.args.progress.now.reader) c.in-Chunks.is c.requires.progress in
    head_grows c.args.wire.now c.args.before _ _ p.0

pub go_on_chunked-requires-clause-read : goal.go_on_chunked-requires-clause-read
go_on_chunked-requires-clause-read c =
    let p = subst (λ (x : Phase). IsPhase c.args.method (take c.args.before c.args.wire.now) x c.args.progress.now.reader) c.in-Chunks.is c.requires.progress in
    read_grows most_bytes c.args.wire.now c.args.before c.in-Chunks.at _ c.args.progress.now.reader c.requires.within
    (omega (arith, p.0.within, length-take c.args.before c.args.wire.now)) (omega (arith, c.requires.within, c.requires.small)) (omega arith) p.2

pub returns-in-Chunks-clause-progress : goal.returns-in-Chunks-clause-progress
returns-in-Chunks-clause-progress c more =
    let p = subst (λ (x : Phase). IsPhase c.args.method (take c.args.before c.args.wire.now) x c.args.progress.now.reader) c.in-Chunks.is c.requires.progress in
    let r = c.go_on_chunked.new.reader in
    subst (λ (x : Phase). IsPhase c.args.method c.args.wire.now x r) (sym c.in-Chunks.is)
    (head_grows c.args.wire.now c.args.before _ _ p.0, p.1, c.go_on_chunked.ensures.read more, c.go_on_chunked.ensures.open more, c.go_on_chunked.ensures.at ∙ p.4, c.go_on_chunked.ensures.all more)

pub returns-in-More-clause-head : goal.returns-in-More-clause-head
returns-in-More-clause-head c =
    let s = subst (λ (t : List ℕ). IsFinalStepOn t c.final_head_from.result) (first_is c.args.wire.now c.min.result c.min.ensures) c.final_head_from.ensures.step in
    let more = subst (IsFinalStepOn _) c.in-More.is s in
    no_final c.args.wire.now more.0

pub returns-in-Fault-clause-head : goal.returns-in-Fault-clause-head
returns-in-Fault-clause-head c =
    let s = subst (λ (t : List ℕ). IsFinalStepOn t c.final_head_from.result) (first_is c.args.wire.now c.min.result c.min.ensures) c.final_head_from.ensures.step in
    let fault = subst (IsFinalStepOn _) c.in-Fault.is s in
    subst (λ (x : Phase). KnowsHead c.args.wire.now x) (sym c.in-Heads.is) (no_final c.args.wire.now fault.0)

pub returns-in-Body-clause-head : goal.returns-in-Body-clause-head
returns-in-Body-clause-head c =
    let p = subst (λ (x : Phase). IsPhase c.args.method (take c.args.before c.args.wire.now) x c.args.progress.now.reader) c.in-Body.is c.requires.progress in
    let known = subst (λ (x : Phase). KnowsHead c.args.wire.now x) (sym c.in-Body.is) (head_grows c.args.wire.now c.args.before _ _ p) in
    search rules

pub returns-in-Chunks-clause-head : goal.returns-in-Chunks-clause-head
returns-in-Chunks-clause-head c =
    let p = subst (λ (x : Phase). IsPhase c.args.method (take c.args.before c.args.wire.now) x c.args.progress.now.reader) c.in-Chunks.is c.requires.progress in
    let known = subst (λ (x : Phase). KnowsHead c.args.wire.now x) (sym c.in-Chunks.is) (head_grows c.args.wire.now c.args.before _ _ p.0) in
    search rules

pub returns-in-More-clause-progress : goal.returns-in-More-clause-progress
returns-in-More-clause-progress c more =
    passed_whole c.args.wire.now c.min.result c.final_head_from.new.passed (omega (arith, c.min.ensures)) c.final_head_from.ensures.passed
