-- The order of addresses loses none.
use Rattle.std.proofs.Common.{◌≡◌, ◌+◌, ◌<◌, length, Bool, true, false, not, cond, List, [], ◌∷◌, arith, length-append}
use Rattle.std.specs.List.{filter}
use Rattle.std.specs.declared.net.SocketAddr.{SocketAddr}
use Rattle.mx_names.specs.Addresses.{is_v4, in_order}

one_more : {X : Type 0} (x : X) (some rest : List X) (b : Bool) → length (cond b (x ∷ some) some) + length (cond (not b) (x ∷ rest) rest) ≡ length some + length rest + 1
one_more x some rest true = omega arith
one_more x some rest false = omega arith

none_lost : {X : Type 0} (p : X → Bool) (xs : List X) → length (filter p xs) + length (filter (λ x. not (p x)) xs) ≡ length xs
none_lost p [] = omega arith
none_lost p (x ∷ xs) = omega (arith, one_more x (filter p xs) (filter (λ y. not (p y)) xs) (p x), none_lost p xs)

pub in_order_some : (addresses : List SocketAddr) → 0 < length addresses → 0 < length (in_order addresses)
in_order_some addresses some =
    omega (arith, some, none_lost is_v4 addresses, length-append (filter is_v4 addresses) (filter (λ address. not (is_v4 address)) addresses))
