use Rattle.std.proofs.Common.{arith, length, refl}
use Rattle.std.proofs.lemmas.Option.{slice_get_read}
use Rattle.std.proofs.lemmas.Grind.{common_steps}
use Rattle.mx_chain.proofs.followed.Hops.heads.Goals as goal

pub returns-in_err-get-in-Whole-clause-count : goal.returns-in_err-get-in-Whole-clause-count
returns-in_err-get-in-Whole-clause-count c = grind (arith, common_steps)

pub returns-in_err-get-in-Whole-clause-heads : goal.returns-in_err-get-in-Whole-clause-heads
returns-in_err-get-in-Whole-clause-heads c = grind (arith, common_steps)

pub returns-in_err-get-in-Heads-clause-count : goal.returns-in_err-get-in-Heads-clause-count
returns-in_err-get-in-Heads-clause-count c = grind (arith, common_steps)

pub returns-in_err-get-in-Heads-clause-heads : goal.returns-in_err-get-in-Heads-clause-heads
returns-in_err-get-in-Heads-clause-heads c = grind (arith, common_steps)

pub returns-in_ok-get-in-Whole-clause-count : goal.returns-in_ok-get-in-Whole-clause-count
returns-in_ok-get-in-Whole-clause-count c = grind (arith, common_steps)

pub returns-in_ok-get-in-Heads-clause-count : goal.returns-in_ok-get-in-Heads-clause-count
returns-in_ok-get-in-Heads-clause-count c = grind (arith, common_steps)

pub returns-in_ok-get-in-Whole-clause-heads : goal.returns-in_ok-get-in-Whole-clause-heads
returns-in_ok-get-in-Whole-clause-heads c =
    let at = c.in_ok-get-in-Whole.ensures.lookup in
    let found = slice_get_read c.deref.result.now (length c.deref.result.now) c.args.i c.in_ok-get-in-Whole.field-0.now refl at.3.0 at.1 in
    rw (← c.self.view_is, c.in-Whole.is, ← c.deref.ensures.value, found) c.heads_of.ensures

pub returns-in_ok-get-in-Heads-clause-heads : goal.returns-in_ok-get-in-Heads-clause-heads
returns-in_ok-get-in-Heads-clause-heads c =
    let at = c.in_ok-get-in-Heads.ensures.lookup in
    let found = slice_get_read c.deref-in-Heads.result.now (length c.deref-in-Heads.result.now) c.args.i c.in_ok-get-in-Heads.field-0.now refl at.3.0 at.1 in
    rw (← c.self.view_is, c.in-Heads.is, ← c.deref-in-Heads.ensures.value, found) c.heads.ensures
