use Rattle.std.proofs.Common.{◌≡◌, ◌∷◌, [], ◌∙◌, get_or, ap, arith}
use Rattle.mx_folder.specs.Names.{part_of}
use Rattle.mx_folder.specs.Steps.{done}
use Rattle.mx_folder.specs.declared.steps.Step.TheVariants.{Created}
use Rattle.mx_save.specs.Ledgers.{LedgerValue}
use Rattle.mx_save.specs.Out.{OutValue}
use Rattle.mx_save.proofs.Calls.{part_created, unplaced_kept}
use Rattle.mx_save.proofs.Moments.{later_as}
use Rattle.mx_save.proofs.Outs.{taken_back}
use Rattle.mx_save.proofs.Runs.{made_on, more_refused, same_on}
use Rattle.mx_save.proofs.Steps.{none_left_refused}
use Rattle.mx_save.proofs.ledger.Ledger.make_next.Goals as goal

pub invariant_of-self : goal.invariant_of-self
invariant_of-self g c = simp c.in_default.ensures.refused c.self.invariant

pub invariant_of-self-in-Ok-create : goal.invariant_of-self-in-Ok-create
invariant_of-self-in-Ok-create g c =
    let steps = g.F.Folder.steps in
    let inside = c.self.inside in
    let number = c.next_number-number.result in
    let part = c.newest-name.result.now in
    let old = steps inside.folder in
    let new = steps c.create.new.self in
    let named : part ≡ part_of inside.out.process number = c.newest-name.ensures ∙ ap (λ (o : OutValue). part_of o.process (get_or o.numbers 0 0)) c.in-Ok.ensures.put in
    simp c.in-Ok.ensures.put
    (made_on g.B.Body.content inside.flush _ _ _ (steps inside.start.value) old new _ _ _ number part c.self.invariant named c.know.ensures
    (part_created c.create.result part old new c.create.ensures.noted)
    (more_refused c.create.result (Created part) old new c.create.ensures.noted (omega arith)))

pub invariant_of-self-in-Err : goal.invariant_of-self-in-Err
invariant_of-self-in-Err g c =
    let steps = g.F.Folder.steps in
    let inside = c.self.inside in
    let part = c.newest-name.result.now in
    let old = steps inside.folder in
    let new = steps c.create.new.self in
    let same : c.take.new.self ≡ inside.out = taken_back c.next_number-number.result inside.out c.put.new.self c.take.new.self c.in-Ok.ensures.put c.take.ensures.out in
    simp same
    (same_on g.B.Body.content inside.flush _ _ _ (steps inside.start.value) old new _ _ _ c.self.invariant
    (unplaced_kept part old new c.know.ensures (part_created c.create.result part old new c.create.ensures.noted))
    (none_left_refused _ part c.in-Err.error old new c.in-Err.ensures.noted)
    (more_refused c.create.result (Created part) old new c.create.ensures.noted (omega arith)))

pub returns-in-Ok-create-clause-later : goal.returns-in-Ok-create-clause-later
returns-in-Ok-create-clause-later g c =
    let steps = g.F.Folder.steps in
    later_as (steps c.self.inside.folder) (steps c.create.new.self) _ (done c.create.result (Created c.newest-name.result.now) ∷ [], c.create.ensures.noted)
    (ap (λ (l : LedgerValue g.row.B.Denot). l.steps) (c.self.view_is ∙ c.next_number-number.ensures.next))

pub returns-in-Err-clause-later : goal.returns-in-Err-clause-later
returns-in-Err-clause-later g c =
    let steps = g.F.Folder.steps in
    later_as (steps c.self.inside.folder) (steps c.create.new.self) _ (done c.create.result (Created c.newest-name.result.now) ∷ [], c.create.ensures.noted)
    (ap (λ (l : LedgerValue g.row.B.Denot). l.steps) (c.self.view_is ∙ c.next_number-number.ensures.next))
