use Rattle.std.proofs.Common.{◌≡◌, ◌+◌, ◌-◌, ◌∙◌, arith, sym, ap}
use Rattle.std.specs.Prelude.{suc}
use Rattle.std.specs.Option.{unwrap_or}
use Rattle.mx_types.specs.Limits.{most_handles}
use Rattle.mx_history.specs.Slots.{free_from}
use Rattle.mx_history.proofs.SlotLists.{free_from-taken, free_from-free, free_from-last, lowest_free-is}
use Rattle.mx_history.proofs.definitions.lowest_free.Goals as goal

pub loop-slot-init : goal.loop-slot-init
loop-slot-init c = record { same = lowest_free-is c.args.slots.now; within = omega arith }

pub loop-slot-preserved : goal.loop-slot-preserved
loop-slot-preserved c =
    let n = c.loop-slot.slot in
    let s = c.args.slots.now in
    let below = c.loop-slot.invariant.within in
    let e : most_handles - n ≡ suc (most_handles - (n + 1)) = omega arith in
    record {
      same = ap (λ o. unwrap_or o 255) (sym (free_from-taken n (most_handles - (n + 1)) s (sym c.has_slot.ensures ∙ c.if-has_slot.true)) ∙ ap (λ k. free_from n k s) (sym e)) ∙ c.loop-slot.invariant.same;
      within = omega arith;
    }

pub returns-else-has_slot : goal.returns-else-has_slot
returns-else-has_slot c =
    let n = c.loop-slot.slot in
    let s = c.args.slots.now in
    let below = c.loop-slot.invariant.within in
    let e : most_handles - n ≡ suc (most_handles - (n + 1)) = omega arith in
    ap (λ o. unwrap_or o 255) (sym (free_from-free n (most_handles - (n + 1)) s (sym c.has_slot.ensures ∙ c.if-has_slot.false)) ∙ ap (λ k. free_from n k s) (sym e)) ∙ c.loop-slot.invariant.same

pub returns-after-loop-slot : goal.returns-after-loop-slot
returns-after-loop-slot c =
    let n = c.loop-slot.slot in
    let s = c.args.slots.now in
    let below = c.loop-slot.invariant.within in
    let at : n ≡ 255 = omega arith in
    at ∙ sym (free_from-last s) ∙ ap (λ m. unwrap_or (free_from m (most_handles - m) s) 255) (sym at) ∙ c.loop-slot.invariant.same
