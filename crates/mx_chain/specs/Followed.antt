-- Private: the hops that a transfer followed, as memory has them.
use Rattle.std.specs.Prelude.{◌≡◌, Bool, true, false, List, [], ◌∷◌, None}
use Rattle.mx_exchange.specs.Exchanges.{HopValue}
use Rattle.mx_chain.specs.declared.followed.Kept.{Kept}
use Rattle.mx_chain.specs.declared.followed.Kept.TheVariants as kept

-- the hops, in their order, with all their bytes; memory has their heads alone where `heads_alone` is true
pub record FollowedHops : Type 0 where
  pub all : List HopValue
  pub heads_alone : Bool

-- the responses of these hops are held
abbrev pub AreHeld : List HopValue → Type 0
AreHeld [] = Unit {0}
AreHeld (o ∷ hops) = (o.limit ≡ None) × AreHeld hops

abbrev pub followed_of : Kept → FollowedHops
followed_of (kept.Whole hops) = record { all = hops.items; heads_alone = false }
followed_of (kept.Heads hops) = record { all = hops.items; heads_alone = true }

-- where memory has all bytes of them their responses are held
abbrev pub AreKept : Kept → Type 0
AreKept (kept.Whole hops) = AreHeld hops.items
AreKept (kept.Heads hops) = Unit {0}
