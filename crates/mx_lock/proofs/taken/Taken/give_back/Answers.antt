use Rattle.std.proofs.Common.{rules, ◌≡◌, ◌∙◌, sym, subst, true}
use Rattle.mx_journal.specs.History.{has_ticket, running}
use Rattle.mx_append_log.specs.Log.{AreOfOneList}
use Rattle.mx_lock.specs.Ties.{TieState}
use Rattle.mx_lock.proofs.Claims.{claimed_runs, claims_back}
use Rattle.mx_lock.proofs.Tying.{tied_given}
use Rattle.mx_lock.proofs.taken.Taken.give_back.Goals as goal

pub invariant_of-self-inside : goal.invariant_of-self-inside
invariant_of-self-inside g c =
    let x = c.deref_mut-parts.result.now in
    let i = rw (← c.deref_mut-parts.ensures.value) at c.self-inside.invariant in
    let e = c.give_back.ensures in
    let y = c.give_back.new.self in
    let claim = c.into_parts-claim.result.0 in
    let marked = c.into_parts-claim.result.1.entries in
    let one : AreOfOneList x.ties.entries marked = subst (λ (s : TieState). AreOfOneList s.entries marked) c.mark-all.ensures c.are_of_one_list.ensures in (
      i.0 ∙ sym e.journal,
      i.1 ∙ sym e.journal,
      tied_given g.O.Ending.origin c.give_back.result x.core y x.ties.entries marked claim.ticket claim.origin i.2 c.sound.ensures.sound.kept.legal c.sound.ensures.origins.0 one c.into_parts-claim.ensures.known e.back e.endings e.origins e.same,
    )

pub returns-clause-runs : goal.returns-clause-runs
returns-clause-runs g c = λ back.
    let before = c.self-inside.inside.0.0 in
    rw (← c.self.view_is, ← c.self-inside.view_is)
    (subst (λ t. has_ticket t (running before.parts.value.core.journal) ≡ true) c.into_parts-claim.ensures.ticket
    (claimed_runs c.into_parts-claim.result.0.ticket before.parts.value.core.journal before.parts.value.core.queue (sym (rw c.deref_mut-parts.ensures.value at c.give_back.ensures).back ∙ back)))

pub returns-clause-claims : goal.returns-clause-claims
returns-clause-claims g c =
    let before = c.self-inside.inside.0.0 in
    let y = c.give_back.new.self in
    let e = rw c.deref_mut-parts.ensures.value at c.give_back.ensures in
    rw (← c.self.view_is, ← c.self-inside.view_is)
    (claims_back before.parts.value.core.journal y.journal c.give_back.result before.parts.value.core.queue y.queue c.into_parts-claim.result.0.ticket c.args.work e.journal e.queue)

pub returns-clause-back : goal.returns-clause-back
returns-clause-back g c = search rules
