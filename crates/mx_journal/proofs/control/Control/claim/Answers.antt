use Rattle.std.proofs.Common.{◌<◌, ap, arith, length, rules}
use Rattle.mx_journal.specs.Core.{Claimed, queued}
use Rattle.mx_journal.proofs.Controls.{least_first, claimed_first, split_first}
use Rattle.mx_journal.proofs.control.Control.claim.Goals as goal

pub returns-clause-least : goal.returns-clause-least
returns-clause-least g c =
    let some : 0 < length c.self.inside.queue.items = omega (arith, c.remove-work.ensures.len, c.self.inside.queue.ok.0) in
    let e = split_first c.self.inside.queue.items c.remove-work.new.self.items c.remove-work.result some c.remove-work.ensures.value c.remove-work.ensures.items in
    let o = rw e at c.self.invariant.kept.sound.ordered in
    rw (← c.self.view_is, e) (least_first c.of-claim.result.ticket c.remove-work.result.0 (queued c.remove-work.new.self.items) (ap (λ (x : Claimed). x.ticket) c.of-claim.ensures) o.0)

pub returns-clause-claimed : goal.returns-clause-claimed
returns-clause-claimed g c =
    let some : 0 < length c.self.inside.queue.items = omega (arith, c.remove-work.ensures.len, c.self.inside.queue.ok.0) in
    let e = split_first c.self.inside.queue.items c.remove-work.new.self.items c.remove-work.result some c.remove-work.ensures.value c.remove-work.ensures.items in
    let o = rw e at c.self.invariant.kept.sound.ordered in
    let r = rw e at c.self.invariant.kept.sound.runs in
    rw c.of-claim.ensures (claimed_first c.self.inside.journal.items c.remove-work.result.0 c.remove-work.new.self.items o.0 r.0)

pub returns-clause-slot : goal.returns-clause-slot
returns-clause-slot g c = search rules

pub unreachable-requires : goal.unreachable-requires
unreachable-requires g c = search rules

pub invariant_of-self : goal.invariant_of-self
invariant_of-self g c = search rules

pub returns-clause-some : goal.returns-clause-some
returns-clause-some g c = search rules

pub returns-clause-own : goal.returns-clause-own
returns-clause-own g c = search rules
