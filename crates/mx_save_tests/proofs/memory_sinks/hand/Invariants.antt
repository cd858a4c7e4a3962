use Rattle.std.proofs.Common.{◌≡◌, ◌≤◌, ◌-◌, [], length, Some, None}
use Rattle.mx_save_tests.proofs.memory_sinks.hand.Given as goal

-- the outlet takes content, and was handed so many bytes
abbrev pub invariant-loop-handed : goal.invariant-loop-handed
invariant-loop-handed g l =
    record {
      within : l.handed ≤ length l.body;
      none_left : g.D.Delivery.left l.outlet ≡ [];
      flows : g.D.Delivery.flows l.outlet ≡ Some None;
    }

abbrev pub decreases-loop-handed : goal.decreases-loop-handed
decreases-loop-handed g l = length l.body - l.handed
