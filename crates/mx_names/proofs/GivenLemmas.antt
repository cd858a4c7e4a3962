-- What std's lookup gives.
use Rattle.std.proofs.Common.{◌≡◌, ◌∙◌, ℕ, List, [], ◌∷◌, refl, sym}
use Rattle.std.specs.Prelude.{Ok, Err}
use Rattle.std.specs.Array.Iter.{array_steps, array_into_iter_items}
use Rattle.std.specs.Iterator.{DrainsIf}
use Rattle.std.specs.Iterator.Adapters.{take_steps, take_source, take_count}
use Rattle.std.specs.declared.io.Error.{Error}
use Rattle.std.specs.declared.net.SocketAddr.{SocketAddr}
use Rattle.std.specs.Net.ToAddrs.{HostAddrs, host_addrs, GivesHostAndPort}
use Rattle.std.proofs.lemmas.Iterator.{YieldsList, YieldsList-from_take, items_from_drains}
use Rattle.std.proofs.lemmas.Iterator.Consumers.{YieldsList-from_shown}
use Rattle.std.proofs.lemmas.List.{map-id}
use Rattle.mx_types.specs.declared.code.Code.{Code}
use Rattle.mx_types.specs.declared.code.Code.TheVariants as codes
use Rattle.mx_names.specs.System.{SystemGives}

yields : (it : HostAddrs) → YieldsList (take_steps array_steps) (λ x. x) it (host_addrs it)
yields it = YieldsList-from_take (take_count it) (YieldsList-from_shown array_steps (λ x. x) array_into_iter_items (λ s t h. h.0) (λ s x t h. h) (take_source it)) refl

-- all that came
all_came : (it : HostAddrs) (xs : List SocketAddr) → DrainsIf (take_steps array_steps) (Unit {0}) it xs → xs ≡ host_addrs it
all_came it xs drains = sym (map-id xs) ∙ items_from_drains xs drains (yields it)

-- all that came are the host's
pub is_given : (host : List ℕ) (it : HostAddrs) (xs all : List SocketAddr)
    → GivesHostAndPort host 0 (Ok it) → DrainsIf (take_steps array_steps) (Unit {0}) it xs → all ≡ xs → SystemGives host (Ok all)
is_given host it xs all gives drains same ip text =
    let one = gives ip text in
    (one.0, same ∙ all_came it xs drains ∙ one.1, one.2)

-- none came, so the host spells no address
pub none_given : (host : List ℕ) (it : HostAddrs) (xs all : List SocketAddr) (failed : Code)
    → GivesHostAndPort host 0 (Ok it) → DrainsIf (take_steps array_steps) (Unit {0}) it xs → all ≡ xs → all ≡ [] → SystemGives host (Err failed)
none_given host it xs all failed gives drains same none ip text =
    let one = gives ip text in
    let nothing : [] ≡ one.0 ∷ [] = sym none ∙ same ∙ all_came it xs drains ∙ one.1 in
    absurd cc

-- the lookup failed, so the host spells no address
pub unfound : (host : List ℕ) (error : Error) (failed : Code) → GivesHostAndPort host 0 (Err error) → SystemGives host (Err failed)
unfound host error failed gives ip text = absurd (gives ip text)

pub out_of_memory : (host : List ℕ) → SystemGives host (Err codes.OutOfMemory)
out_of_memory host ip text = refl
