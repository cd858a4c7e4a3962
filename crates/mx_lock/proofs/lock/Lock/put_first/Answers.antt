use Rattle.std.proofs.Common.{◌≡◌, ◌∙◌, subst, sym}
use Rattle.crossbeam_channel.specs.Claims.{view}
use Rattle.crossbeam_channel.specs.Fifo.{Pushes}
use Rattle.crossbeam_channel.specs.Ends.{sends_on, ruled_capacity}
use Rattle.mx_lock.specs.declared.key_view.KeyView.{KeyView}
use Rattle.mx_lock.specs.Engine.{content}
use Rattle.mx_lock.specs.Lock.{Keeps, founded}
use Rattle.mx_lock.proofs.Keys.{founds}
use Rattle.mx_lock.proofs.lock.Lock.put_first.Goals as goal

pub send_as-requires-clause-rule : goal.send_as-requires-clause-rule
send_as-requires-clause-rule g c =
    let inv = c.loop.invariant in
    let n = ruled_capacity (sends_on c.self.inside.into) in (
      subst (λ x. Pushes (Keeps content) n c.loop.key.id (view c.loop.key) x (λ w. w ≡ founded (content x))) (sym inv.2)
          (subst (λ (v : KeyView). Pushes (Keeps content) n c.loop.key.id v c.args.engine (λ w. w ≡ founded (content c.args.engine))) (sym (inv.1 ∙ c.requires.first))
          (founds content n c.loop.key.id c.args.engine)),
      λ items views h at. tt,
    )
