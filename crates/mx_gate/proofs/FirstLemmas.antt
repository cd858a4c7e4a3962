-- The first of the addresses that are dialled.
use Rattle.std.proofs.Common.{◌≡◌, ℕ, ◌<◌, ◌+◌, true, false, not, List, [], ◌∷◌, ◌++◌, ◌⊎◌, inl, inr, length, take, get_or, refl, ap, sym, subst, ◌∙◌}
use Rattle.std.proofs.lemmas.List.{take_more}
use Rattle.std.proofs.lemmas.List.Elements.{AllZip-push}
use Rattle.std.specs.Prelude.{Some, cond}
use Rattle.std.specs.List.{find, filter, slice_get}
use Rattle.std.specs.Option.{option_or}
use Rattle.std.specs.declared.net.SocketAddr.{SocketAddr}
use Rattle.std.specs.declared.net.IpAddr.{IpAddr}
use Rattle.std.specs.Net.Grammar.{IsIpText}
use Rattle.std.specs.Net.Socket.{socket_ip, socket_port, socket_flowinfo, socket_scope_id}
use Rattle.std.specs.Net.ToAddrs.{IsHostAndPort}
use Rattle.mx_request.specs.Endpoint.{HostAndPort}
use Rattle.mx_names.specs.Addresses.{is_v4, in_order}
use Rattle.mx_names.specs.Hosts.{unbracketed}
use Rattle.mx_gate.specs.Addresses.{chosen}
use Rattle.mx_gate.specs.Gates.{FoundState, SocketGateState}
use Rattle.mx_gate.specs.Dials.{IsAt, AreAt, IsAddressOf, spelled, looked_up, AreAddressesOf, one_spelled, all_looked_up, Dials, NotesFirst}

find_first : (xs : List SocketAddr) → find is_v4 xs ≡ slice_get (filter is_v4 xs) 0
find_first [] = refl
find_first (x ∷ xs) = elim (is_v4 x) as (λ b. cond b (Some x) (find is_v4 xs) ≡ slice_get (cond b (x ∷ filter is_v4 xs) (filter is_v4 xs)) 0) [
  | true ↦ refl
  | false ↦ find_first xs
]

all_others : (xs : List SocketAddr) → filter is_v4 xs ≡ [] → filter (λ a. not (is_v4 a)) xs ≡ xs
all_others [] none = refl
all_others (x ∷ xs) none = elim (is_v4 x) as (λ b. cond b (x ∷ filter is_v4 xs) (filter is_v4 xs) ≡ [] → cond (not b) (x ∷ filter (λ a. not (is_v4 a)) xs) (filter (λ a. not (is_v4 a)) xs) ≡ x ∷ xs) [
  | true ↦ λ t. absurd (cc)
  | false ↦ λ f. ap (λ l. x ∷ l) (all_others xs f)
] none

by_front : (front xs : List SocketAddr) → filter is_v4 xs ≡ front
    → option_or (slice_get front 0) (slice_get xs 0) ≡ slice_get (front ++ filter (λ a. not (is_v4 a)) xs) 0
by_front [] xs is = ap (λ l. slice_get l 0) (sym (all_others xs is))
by_front (y ∷ ys) xs is = refl

-- the address that is chosen is first
pub chosen_first : (xs : List SocketAddr) → chosen xs ≡ slice_get (in_order xs) 0
chosen_first xs = ap (λ o. option_or o (slice_get xs 0)) (find_first xs) ∙ by_front (filter is_v4 xs) xs refl

-- the first of the same addresses at a port
record FirstAt (asked : ℕ) (ones : List SocketAddr) (first : SocketAddr) : Type 0 where
  one : SocketAddr
  first_one : slice_get ones 0 ≡ Some one
  at : IsAt asked one first

first_at : (asked : ℕ) (ones : List SocketAddr) (first : SocketAddr) (rest : List SocketAddr) → AreAt asked ones (first ∷ rest) → FirstAt asked ones first
first_at asked [] first rest all = absurd all
first_at asked (one ∷ ones) first rest all = record { one = one; first_one = refl; at = all.0 }

first_of : (e : HostAndPort) (first : SocketAddr) (rest all : List SocketAddr) (was is : List FoundState)
    → AreAddressesOf e all was is → all ≡ first ∷ rest → IsAddressOf e first was is
first_of e first rest all was is (one_spelled a one host same) begins =
    spelled (subst (λ b. IsHostAndPort (unbracketed e.host) e.port b) (ap (λ l. get_or l 0 a) (sym one ∙ begins)) host) same
first_of e first rest all was is (all_looked_up none f) begins =
    let at = first_at e.port (in_order f.found) first rest (subst (λ l. AreAt e.port (in_order f.found) l) begins f.all) in
    looked_up none (record {
      found = f.found;
      more = f.more;
      gave = f.gave;
      choice = record { one = at.one; first = chosen_first f.found ∙ at.first_one; at = at.at };
    })

pub dials : (e : HostAndPort) (old new : SocketGateState) (all : List SocketAddr)
    → AreAddressesOf e all old.found new.found → NotesFirst all old.dialled new.dialled → Dials e old new
dials e old new all of n = record { address = n.first; of = first_of e n.first n.rest all old.found new.found of n.all; dialled = n.dialled }

pub dials_or_none : (e : HostAndPort) (old new : SocketGateState) (all : List SocketAddr)
    → AreAddressesOf e all old.found new.found → (new.dialled ≡ old.dialled) ⊎ NotesFirst all old.dialled new.dialled
    → (new.dialled ≡ old.dialled) ⊎ Dials e old new
dials_or_none e old new all of (inl same) = inl same
dials_or_none e old new all of (inr n) = inr (dials e old new all of n)

-- the first was noted
pub notes_first : (xs was is : List SocketAddr) (first : SocketAddr) → slice_get xs 0 ≡ Some first → is ≡ was ++ first ∷ [] → NotesFirst xs was is
notes_first [] was is first at noted = absurd (cc)
notes_first (x ∷ xs) was is first at noted = record { first = x; rest = xs; all = refl; dialled = noted ∙ ap (λ a. was ++ a ∷ []) (let same : x ≡ first = cc in sym same) }

-- one address more of a list at a port
pub all_at_more : (asked : ℕ) (xs ys zs : List SocketAddr) (i : ℕ) (d y : SocketAddr)
    → i < length xs → AreAt asked (take i xs) ys → IsAt asked (get_or xs i d) y → zs ≡ ys ++ y ∷ [] → AreAt asked (take (i + 1) xs) zs
all_at_more asked xs ys zs i d y lt all at is =
    subst (λ l. AreAt asked (take (i + 1) xs) l) (sym is)
    (subst (λ l. AreAt asked l (ys ++ y ∷ [])) (sym (take_more xs i d lt)) (AllZip-push (IsAt asked) (take i xs) ys (get_or xs i d) y all at))

-- the one address of a host that spells it
pub are_spelled : (e : HostAndPort) (all : List SocketAddr) (was is : List FoundState) (a : SocketAddr) (ip : IpAddr)
    → all ≡ a ∷ [] → socket_ip a ≡ ip → socket_port a ≡ e.port → socket_flowinfo a ≡ 0 → socket_scope_id a ≡ 0 → IsIpText (unbracketed e.host) ip → is ≡ was
    → AreAddressesOf e all was is
are_spelled e all was is a ip one same port flowinfo scope text none =
    one_spelled a one (subst (λ i. IsIpText (unbracketed e.host) i) (sym same) text, (port, flowinfo, scope)) none
