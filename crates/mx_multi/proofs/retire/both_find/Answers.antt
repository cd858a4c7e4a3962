use Rattle.std.proofs.Common.{◌⊎◌, inr, Bool, true, false, MatchBool}
use Rattle.mx_multi.proofs.retire.both_find.Goals as goal

-- where the first holds, both hold as the second does
second : (A B P Q : Type 0) (b : Bool) → A → MatchBool b B Q → MatchBool b (A × B) (P ⊎ Q)
second A B P Q true a h = (a, h)
second A B P Q false a h = inr h

pub returns : goal.returns
returns g c = second _ _ _ _ c.all_find-2.result c.if-not-all_find.ensures c.all_find-2.ensures
