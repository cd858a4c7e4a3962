-- What is handed on of a hop in one turn.
use Rattle.std.specs.Prelude.{◌≡◌, ℕ, ◌<◌, ◌≤◌, ◌==◌, not, ◌&&◌, Bool, List, [], length, take, if◌then◌else◌}
use Rattle.mx_exchange.specs.Exchanges.{TellsSending}

-- what is handed on of the content so far: nothing where it is dropped
abbrev pub passed : Bool → List ℕ → List ℕ
passed drops content = if drops then [] else content

-- Whether the content is dropped, where the turn has added some behind so many bytes: as it was before, unless it has added some; then by
-- the final head of the wire.
pub record DropsSo (most : ℕ) (dropped : Bool) (wire : List ℕ) (before : ℕ) (was : List ℕ) (drops : Bool) : Type 0 where
  pub none : length was ≤ before → drops ≡ dropped
  pub some : before < length was → (sends : Bool) × TellsSending wire sends × (drops ≡ (not (most == 0) && sends))

-- and where it is dropped what was added is taken out again
pub record SettlesContent (most : ℕ) (dropped : Bool) (wire : List ℕ) (before : ℕ) (was is : List ℕ) (drops : Bool) : Type 0 where
  pub decides : DropsSo most dropped wire before was drops
  pub rest : is ≡ (if drops then take before was else was)
