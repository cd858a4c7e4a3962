-- A worker's gate in a run.
use Rattle.std.specs.Prelude.{◌≡◌, Bool, true, false, List, [], ◌∷◌, ◌++◌, filter}
use Rattle.mx_gate.specs.Said.{Said, opened}

-- what contracts see of it: the gate within, and all that it said in the run
pub record RunGateState (G : Type 0) : Type 0 where
  pub gate : G
  pub said : List Said

-- a link that was opened, or why it couldn't be
abbrev pub is_opening : Said → Bool
is_opening (opened endpoint answer) = true
is_opening _ = false

-- these, in order
abbrev pub openings : List Said → List Said
openings said = filter is_opening said

-- A gate that had said all that before a run said this in the run by a gate within. What was opened in the run, or couldn't be, is what the gate
-- within opened since, or couldn't, in order.
pub record OpensWithin {G : Type 0} (said : G → List Said) (before : List Said) (gate : G) (in_run : List Said) : Type 0 where
  pub since : List Said
  pub begins : said gate ≡ before ++ since
  pub opened_is : openings in_run ≡ openings since

-- it said this, and opened nothing else
pub record OpensOnce (old new : List Said) (one : Said) : Type 0 where
  pub rest : List Said
  pub noted : new ≡ old ++ one ∷ rest
  pub none : openings rest ≡ []
