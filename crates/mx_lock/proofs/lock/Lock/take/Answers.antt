use Rattle.std.proofs.Common.{◌∙◌, ap}
use Rattle.crossbeam_channel.specs.Claims.{view}
use Rattle.mx_lock.specs.declared.key_view.KeyView.{KeyView}
use Rattle.mx_lock.specs.Engine.{content}
use Rattle.mx_lock.proofs.Keys.{pops}
use Rattle.mx_lock.proofs.lock.Lock.take.Goals as goal

pub recv_as-requires-clause-rule : goal.recv_as-requires-clause-rule
recv_as-requires-clause-rule g c =
    let is = c.loop.invariant.1 in
    (pops content c.loop.key.id (view c.loop.key) (ap (λ (k : KeyView). k.holding) is ∙ c.requires.free.0) (ap (λ (k : KeyView). k.told) is ∙ c.requires.free.1), λ items views h at. tt)
