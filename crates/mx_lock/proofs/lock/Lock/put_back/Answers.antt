use Rattle.std.proofs.Common.{◌≡◌, sym, subst}
use Rattle.crossbeam_channel.specs.Claims.{view}
use Rattle.crossbeam_channel.specs.Ends.{sends_on, ruled_capacity}
use Rattle.crossbeam_channel.specs.Fifo.{Pushes}
use Rattle.mx_lock.specs.declared.key_view.KeyView.{KeyView}
use Rattle.mx_lock.specs.Engine.{content}
use Rattle.mx_lock.specs.Lock.{Keeps, released}
use Rattle.mx_lock.proofs.Keys.{puts_back}
use Rattle.mx_lock.proofs.lock.Lock.put_back.Goals as goal

pub send_as-requires-clause-rule : goal.send_as-requires-clause-rule
send_as-requires-clause-rule g c =
    let inv = c.loop.invariant in
    let n = ruled_capacity (sends_on c.self.inside.into) in (
      subst (λ x. Pushes (Keeps content) n c.loop.key.id (view c.loop.key) x (λ w. w ≡ released (view c.loop.key))) (sym inv.2)
          (subst (λ (v : KeyView). Pushes (Keeps content) n c.loop.key.id v c.args.taken (λ w. w ≡ released v)) (sym inv.1)
          (puts_back content c.loop.key.id _ n c.args.taken c.requires.held.0 c.requires.held.1 c.requires.engine c.requires.same c.requires.queue)),
      λ items views h at. tt,
    )
