use Rattle.std.proofs.Common.{◌≡◌, ◌∙◌, ap, map, subst}
use Rattle.mx_folder.specs.Names.{part_of}
use Rattle.mx_save.specs.Ledgers.{IsLedger}
use Rattle.mx_save.specs.Out.{OutValue}
use Rattle.mx_save.proofs.Sweeps.{removal_is, swept_on}
use Rattle.mx_save.proofs.ledger.Ledger.sweep_one.Goals as goal

pub invariant_of-self-2 : goal.invariant_of-self-2
invariant_of-self-2 g c =
    let steps = g.F.Folder.steps in
    let content = g.B.Body.content in
    let inside = c.self.inside in
    let after = c.take_newest.new.self in
    let number = c.in-Some.field-0-0 in
    let part = c.in-Some.part in
    let old = steps inside.folder in
    let new = steps c.remove_dropped.new.self in
    let left = c.err-left.result in
    let named : part ≡ part_of after.process number = c.in-Some.ensures.name ∙ ap (λ (o : OutValue). part_of o.process number) c.in-Some.ensures.out in
    let is = removal_is c.remove_dropped.result left part old new c.remove_dropped.ensures c.err-left.ensures.value in
    let before = subst
    (λ (o : OutValue). IsLedger content (record { start = steps inside.start.value; steps = old; entries = map (λ e. (e.name.value, e.body.value)) inside.saved; flush = inside.flush; out = o.numbers; left = map (λ p. p.value) inside.left; process = o.process; number = inside.number }))
    c.in-Some.ensures.out c.self.invariant in
    simp c.note_left.ensures
    (swept_on content inside.flush _ _ _ (steps inside.start.value) old new after.process _ _ number part left before named c.know.ensures is)
