-- A table of hosts, with one more in it.
use Rattle.std.proofs.Common.{◌≡◌, ◌≢◌, ℕ, List, [], ◌∷◌, Some, None, String, ap, sym, ◌∙◌, cond, true, false, refl}
use Rattle.std.specs.Prelude.{Option, bytes_eq, map, option_map}
use Rattle.std.specs.BTreeMap.{BTreeMap, UpdatesBy, get_by_text, is_at}
use Rattle.std.specs.Cmp.Lexicographic.{slice_cmp}
use Rattle.std.specs.Ordering.{nat_cmp}
use Rattle.std.specs.String.{string_cmp, string_bytes}
use Rattle.std.specs.declared.net.SocketAddr.{SocketAddr}
use Rattle.std.proofs.lemmas.Map.Text.{btree_map_updates_text}
use Rattle.std.specs.Map.{lookup}
use Rattle.mx_embedded.specs.Hosts.{given, table_of}

-- a map of texts where one key was updated, seen through a function of its values
pub updated : {X Y A : Type 0} (old new : BTreeMap (String A) X) (bs : List ℕ) (w : Option X) (f : X → Y)
    → UpdatesBy string_cmp (λ k. slice_cmp nat_cmp bs (string_bytes k)) old new w
    → (h : List ℕ) → option_map f (get_by_text new h) ≡ cond (bytes_eq bs h) (option_map f w) (option_map f (get_by_text old h))
updated old new bs w f updates h =
    ap (option_map f) (btree_map_updates_text bs old new w updates h)
    ∙ elim (bytes_eq bs h) as (λ b. option_map f (cond b w (get_by_text old h)) ≡ cond b (option_map f w) (option_map f (get_by_text old h))) [
      | true ↦ refl
      | false ↦ refl
    ]

-- what stands at a host of the table, by what the map has
module _ {A X : Type 0} (f : X → List SocketAddr) (host : List ℕ) where
  seen_at : (entries : List (String A × X)) → option_map f (lookup (is_at (λ k. slice_cmp nat_cmp host (string_bytes k))) entries)
      ≡ table_of (map (λ e. (string_bytes e.0, f e.1)) entries) host
  seen_at [] = refl
  seen_at (e ∷ entries) = elim (is_at (λ k. slice_cmp nat_cmp host (string_bytes k)) e.0)
      as (λ b. option_map f (cond b (Some e.1) (lookup (is_at (λ k. slice_cmp nat_cmp host (string_bytes k))) entries))
      ≡ cond b (Some (f e.1)) (table_of (map (λ e. (string_bytes e.0, f e.1)) entries) host)) [
        | true ↦ refl
        | false ↦ seen_at entries
      ]

  pub seen : (m : BTreeMap (String A) X) → option_map f (get_by_text m host) ≡ table_of (map (λ e. (string_bytes e.0, f e.1)) m.entries) host
  seen m = seen_at m.entries

-- a table where one host was updated
pub put_in : {A X : Type 0} (f : X → List SocketAddr) (old new : BTreeMap (String A) X) (host : List ℕ) (w : Option X)
    → UpdatesBy string_cmp (λ k. slice_cmp nat_cmp host (string_bytes k)) old new w
    → (h : List ℕ) → table_of (map (λ e. (string_bytes e.0, f e.1)) new.entries) h
    ≡ cond (bytes_eq host h) (option_map f w) (table_of (map (λ e. (string_bytes e.0, f e.1)) old.entries) h)
put_in f old new host w updates h = rw (sym (seen f h new), sym (seen f h old)) (updated old new host w f updates h)

-- addresses of which there is one are given
pub are_given : (addresses : List SocketAddr) → addresses ≢ [] → given addresses ≡ Some addresses
are_given [] none = absurd (none refl)
are_given (a ∷ addresses) some = refl
