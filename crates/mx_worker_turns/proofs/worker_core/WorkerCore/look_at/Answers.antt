use Rattle.std.proofs.Common.{◌≡◌, rules, Some}
use Rattle.mx_types.specs.declared.reply.Look.TheVariants as look
use Rattle.mx_worker_turns.proofs.Looking.{looks_gone, looks_on}
use Rattle.mx_worker_turns.proofs.worker_core.WorkerCore.look_at.Goals as goal

pub returns-then-is_gone-clause-looks : goal.returns-then-is_gone-clause-looks
returns-then-is_gone-clause-looks g c =
    let gone : c.look-seen.result ≡ Some look.Gone = search rules in
    rw (← c.self.view_is) (looks_gone _ _ _ _ _ _ _ _ (search rules) c.give_back.ensures.gives)

pub returns-clause-looks : goal.returns-clause-looks
returns-clause-looks g c = rw (← c.self.view_is) (looks_on _ _ _ _ c.look-seen.result _ _ _ (search rules) (search rules) (rw c.may_go.ensures at c.advance.ensures.advances))
