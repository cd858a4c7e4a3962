use Rattle.std.proofs.Common.{subst}
use Rattle.mx_append_log.specs.Log.{DecidesBeginning, Mark}
use Rattle.mx_types.specs.declared.event.Event.{Event}
use Rattle.mx_lock.proofs.engine.Engine.begins_with.Goals as goal

pub returns-clause-begins : goal.returns-clause-begins
returns-clause-begins g c =
    subst (λ (m : Mark Event). DecidesBeginning c.is_behind-2.result c.args.reader.now.seen m.entries) c.mark.ensures c.is_behind-2.ensures
