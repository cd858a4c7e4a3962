use Rattle.std.proofs.Common.{◌≡◌, ℕ, List, Bool, take, subst, sym, ap, ◌∙◌, Ok, arith}
use Rattle.std.proofs.lemmas.List.{take-append-le, take_all}
use Rattle.mx_body.specs.Decision.{IsVerdict}
use Rattle.mx_body.specs.Progress.{IsProgress, KnowsHead}
use Rattle.mx_body.specs.declared.progress.Phase.{Phase}
use Rattle.mx_body.specs.declared.verdict.Verdict.{Verdict}
use Rattle.mx_body.specs.declared.verdict.Verdict.TheVariants.{More}
use Rattle.mx_body.proofs.decoder.Decoder.take.Goals as goal

pub invariant_of-self-in-Ok : goal.invariant_of-self-in-Ok
invariant_of-self-in-Ok c =
    let more : c.self.inside.verdict ≡ More = rw (← c.self.view_is) at c.requires in
    let old = subst (λ (v : Verdict). IsVerdict c.self.inside.method c.self.inside.wire.items c.self.inside.ended v) more c.self.invariant.0 in
    let new = rw c.as_slice.ensures.value at c.in-Ok.ensures.verdict in (
      subst (λ (b : Bool). IsVerdict c.self.inside.method c.append.new.wire.items b c.in-Ok.verdict) (sym old.2) new,
      rw c.as_slice.ensures.value at c.in-Ok.ensures.head,
      λ e. rw c.as_slice.ensures.value at (c.in-Ok.ensures.progress (ap Ok e)),
    )

pub returns-in-Ok-clause-exact : goal.returns-in-Ok-clause-exact
returns-in-Ok-clause-exact c =
    let more : c.self.inside.verdict ≡ More = rw (← c.self.view_is) at c.requires in
    let old = subst (λ (v : Verdict). IsVerdict c.self.inside.method c.self.inside.wire.items c.self.inside.ended v) more c.self.invariant.0 in
    let new = rw c.as_slice.ensures.value at c.in-Ok.ensures.verdict in
    subst (λ (b : Bool). IsVerdict c.self.inside.method c.append.new.wire.items b c.in-Ok.verdict) (sym old.2) new

pub invariant_of-self-in-Err : goal.invariant_of-self-in-Err
invariant_of-self-in-Err c =
    let same : c.truncate.new.self.items ≡ c.self.inside.wire.items =
    c.truncate.ensures.items ∙ ap (take c.len-len.result) c.in_ok-append.ensures.ok
    ∙ take-append-le c.len-len.result c.self.inside.wire.items c.args.piece.now (omega arith) ∙ take_all c.len-len.result c.self.inside.wire.items (omega arith) in
    let front = c.truncate.ensures.items in (
      subst (λ (t : List ℕ). IsVerdict c.self.inside.method t c.self.inside.ended c.self.inside.verdict) (sym same) c.self.invariant.0,
      subst (λ (t : List ℕ). KnowsHead t c.read_more.new.progress.phase) (sym same)
          (subst (λ (p : Phase). KnowsHead c.self.inside.wire.items p) (sym c.in-Err.ensures.refused_phase) c.self.invariant.1),
      λ e. subst (λ (t : List ℕ). IsProgress c.self.inside.method t c.read_more.new.progress) (sym front) (rw c.as_slice.ensures.value at c.in-Err.ensures.refused),
    )

pub returns-in-Err-clause-exact : goal.returns-in-Err-clause-exact
returns-in-Err-clause-exact c =
    let same : c.truncate.new.self.items ≡ c.self.inside.wire.items =
    c.truncate.ensures.items ∙ ap (take c.len-len.result) c.in_ok-append.ensures.ok
    ∙ take-append-le c.len-len.result c.self.inside.wire.items c.args.piece.now (omega arith) ∙ take_all c.len-len.result c.self.inside.wire.items (omega arith) in
    subst (λ (t : List ℕ). IsVerdict c.self.inside.method t c.self.inside.ended c.self.inside.verdict) (sym same) c.self.invariant.0
