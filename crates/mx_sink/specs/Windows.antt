-- Content on its way to a delivery.
use Rattle.std.specs.Prelude.{ℕ, List}

-- The content, in order; and of how many bytes its memory is, that of the content among them.
pub record WindowValue : Type 0 where
  pub items : List ℕ
  pub memory : ℕ
