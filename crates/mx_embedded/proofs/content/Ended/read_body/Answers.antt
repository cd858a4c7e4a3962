use Rattle.std.proofs.Common.{◌≡◌, ◌+◌, ◌≤◌, ◌-◌, ◌<◌, ap, arith, length, subst}
use Rattle.std.specs.Prelude.{slice_range}
use Rattle.mx_chain.specs.Outcomes.{OutcomeValue}
use Rattle.mx_embedded.specs.Contents.{IsCopied, body_of}
use Rattle.mx_embedded.proofs.Reading.{stops, passes, ends_within}
use Rattle.mx_embedded.proofs.content.Ended.read_body.Goals as goal

pub returns-then-copied-saturating_sub-clause-copied : goal.returns-then-copied-saturating_sub-clause-copied
returns-then-copied-saturating_sub-clause-copied c =
    let i = c.loop.invariant in
    let part = c.in-Some.ensures.some (omega (arith, i.1, i.2, c.loop-test.true)) in
    let bytes = slice_range c.loop.self-inside.outcome.wire part.0.start part.0.end in
    let same : c.in-Some.part.now ≡ bytes = part.2 in
    let long : length c.in-Some.part.now ≡ length bytes = ap length {y = bytes} same in
    let copied = rw same at c.copy_behind-copied.ensures.copied in
    let count = rw same at c.copy_behind-copied.ensures.count in
    let less : c.copy_behind-copied.result < length bytes - c.loop.skip = omega (arith, c.if-copied-saturating_sub.true, c.saturating_sub.ensures, long) in
    subst (λ (o : OutcomeValue). IsCopied (body_of o) c.args.from c.args.out.now c.copy_behind-copied.new.out (c.loop.done + c.copy_behind-copied.result)) i.0
    (stops c.loop.self-inside.outcome c.loop.self-inside.part part.0 part.1 c.args.from c.loop.self-inside.begins c.loop.skip c.loop.done c.copy_behind-copied.result c.args.out.now c.loop.out c.copy_behind-copied.new.out i.3 copied count less)

pub overflow_add-self : goal.overflow_add-self
overflow_add-self c =
    let i = c.loop.invariant in
    let part = c.in-Some.ensures.some (omega (arith, i.1, i.2, c.loop-test.true)) in
    let bytes = slice_range c.loop.self-inside.outcome.wire part.0.start part.0.end in
    omega (arith, i.3.begins, ap length {y = bytes} part.2, ends_within c.loop.self-inside.outcome c.loop.self-inside.part part.0 part.1, c.body_len-len.ensures, c.body_len-len.type_inv, ap (λ (o : OutcomeValue). length (body_of o)) c.self.view_is, ap (λ (o : OutcomeValue). length (body_of o)) i.0)

pub loop-preserved : goal.loop-preserved
loop-preserved c =
    let i = c.loop.invariant in
    let part = c.in-Some.ensures.some (omega (arith, i.1, i.2, c.loop-test.true)) in
    let bytes = slice_range c.loop.self-inside.outcome.wire part.0.start part.0.end in
    let same : c.in-Some.part.now ≡ bytes = part.2 in
    let long : length c.in-Some.part.now ≡ length bytes = ap length {y = bytes} same in
    let copied = rw same at c.copy_behind-copied.ensures.copied in
    let count = rw same at c.copy_behind-copied.ensures.count in
    let all : length bytes - c.loop.skip ≤ c.copy_behind-copied.result = omega (arith, c.if-copied-saturating_sub.false, c.saturating_sub.ensures, long) in
    let next : c.loop.counter + 1 ≡ c.loop.self-inside.part + 1 = ap (λ n. n + 1) i.1 in (
      i.0,
      next,
      i.2,
      rw (c.saturating_sub-skip.ensures, same)
          (passes c.loop.self-inside.outcome c.loop.self-inside.part part.0 part.1 c.args.from c.loop.self-inside.begins c.loop.skip c.loop.done c.copy_behind-copied.result c.args.out.now c.loop.out c.copy_behind-copied.new.out i.3 copied count all),
    )
