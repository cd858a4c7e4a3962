-- Whose waker is left in a slot.
use Rattle.std.proofs.Common.{◌≡◌, refl, sym, ◌∙◌, ap, Option, Some, None, inl, inr}
use Rattle.std.specs.Prelude.{IsSomeAnd}
use Rattle.std.specs.Arc.{arc_value}
use Rattle.futures.specs.Task.{Lasting, Holds, Keeps, Wakes}
use Rattle.futures.specs.Slot.{IsLeftIn}
use Rattle.futures.specs.declared.task.context.Context.{Context}
use Rattle.futures.specs.declared.task.waker.Waker.{Waker}

-- it polls the same task
same_task : (old new : Context) → Keeps old new → record old { is_woken = new.is_woken; lacks_waker = new.lacks_waker; trail = new.trail; events = new.events } ≡ new
unfolding Holds
same_task old new keeps = keeps (Lasting.same_task old) refl

Wakes-same : (old new : Context) (waker : Waker) → Keeps old new → Wakes waker new → Wakes waker old
Wakes-same old new waker keeps wakes =
    let same = same_task old new keeps in (
      wakes.0 ∙ sym (ap (λ (cx : Context). cx.turn.task) same),
      wakes.1 ∙ sym (ap (λ (cx : Context). (arc_value cx.route.now).origin) same),
    )

in_slot : (old new : Context) (slot : Option Waker) → Keeps old new → IsSomeAnd slot (λ waker. Wakes waker new) → IsSomeAnd slot (λ waker. Wakes waker old)
in_slot old new None keeps left = left
in_slot old new (Some waker) keeps left = Wakes-same old new waker keeps left

-- what is left later in a poll is left in all of it
pub Left-later : (old mid new : Context) (slot : Option Waker) → Keeps old mid → IsLeftIn mid new slot → IsLeftIn old new slot
Left-later old mid new slot keeps (inl lacks) = inl lacks
Left-later old mid new slot keeps (inr left) = inr (in_slot old mid slot keeps left)
