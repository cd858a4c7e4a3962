-- The laws of addresses.
use Rattle.std.proofs.Common.{◌≡◌, true, false, List, [], ◌∷◌, ◌++◌, refl, ap}
use Rattle.std.specs.Prelude.{Some, None, cond, MatchOption}
use Rattle.std.specs.List.{find}
use Rattle.std.specs.Option.{option_or}
use Rattle.std.specs.declared.net.SocketAddr.{SocketAddr}
use Rattle.mx_names.specs.Addresses.{is_v4}
use Rattle.mx_gate.specs.Laws.{NoneIsV4, IsFirst, FirstIsChosen}

-- y is an IPv4 address of the list, with none before it
record IsFirstV4 (xs : List SocketAddr) (y : SocketAddr) : Type 0 where
  before : List SocketAddr
  after : List SocketAddr
  place : xs ≡ before ++ y ∷ after
  none_before : NoneIsV4 before
  is : is_v4 y ≡ true

found : (xs : List SocketAddr) → MatchOption (find is_v4 xs) (NoneIsV4 xs) (IsFirstV4 xs)
found [] = tt
found (x ∷ xs) = elim (is_v4 x) as (λ b. is_v4 x ≡ b → MatchOption (cond b (Some x) (find is_v4 xs)) (NoneIsV4 (x ∷ xs)) (IsFirstV4 (x ∷ xs))) [
  | true ↦ λ is. record { before = []; after = xs; place = refl; none_before = tt; is = is }
  | false ↦ λ isnt. elim (find is_v4 xs) as (λ o. MatchOption o (NoneIsV4 xs) (IsFirstV4 xs) → MatchOption o (NoneIsV4 (x ∷ xs)) (IsFirstV4 (x ∷ xs))) [
    | None ↦ λ none. (isnt, none)
    | Some y ↦ λ first. record {
      before = x ∷ first.before;
      after = first.after;
      place = ap (λ ys. x ∷ ys) first.place;
      none_before = (isnt, first.none_before);
      is = first.is;
    }
  ] (found xs)
] refl

pub first_is_chosen : FirstIsChosen
first_is_chosen [] = refl
first_is_chosen (x ∷ xs) = elim (find is_v4 (x ∷ xs)) as (λ o. MatchOption o (NoneIsV4 (x ∷ xs)) (IsFirstV4 (x ∷ xs)) → MatchOption (option_or o (Some x)) ((x ∷ xs) ≡ []) (IsFirst (x ∷ xs))) [
  | None ↦ λ none. record { before = []; after = xs; place = refl; none_before = tt; none_at_all = λ _. (refl, none.1) }
  | Some y ↦ λ first. record {
    before = first.before;
    after = first.after;
    place = first.place;
    none_before = first.none_before;
    none_at_all = λ isnt. absurd (let is = first.is in cc);
  }
] (found (x ∷ xs))
