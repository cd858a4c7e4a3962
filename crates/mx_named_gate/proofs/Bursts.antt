-- The table of a gate's log has for each endpoint as many links as were opened to it, as far as that matters.
use Rattle.std.proofs.Common.{◌≡◌, ◌∙◌, ◌≤◌, ◌<◌, ◌+◌, ◌*◌, ◌%◌, ℕ, zero, suc, ap, sym, subst, refl, arith, inl, inr, List, [], ◌∷◌, length, Bool, true, false}
use Rattle.std.specs.Prelude.{◌⊎◌, ◌==◌, bytes_eq, Ok, Err, nat_lt, fold, slice_index, slice_set, if◌then◌else◌}
use Rattle.std.proofs.lemmas.Bool.{and_parts, eqb-true, ltb-true, ltb-false}
use Rattle.std.proofs.lemmas.List.{get_or-set_same, length-replicate, length-set}
use Rattle.std.proofs.lemmas.Nat.{mod_below}
use Rattle.std.proofs.lemmas.Slice.Eq.{bytes_eq-Decides}
use Rattle.mx_request.specs.Endpoint.{HostAndPort, is_same_endpoint}
use Rattle.mx_gate.specs.Said.{Said, told, asked, opened, lacked, waited}
use Rattle.mx_named_gate.specs.Pace.{Burst, Pace, add_byte, first_pace, goes_on, is_renewed, most_new, one_more, opens_one, paces, place_of, places, zeros}
use Rattle.mx_named_gate.specs.Laws.{AllowsPaced}

-- the table has at least as many for the endpoint, or as many as matter
record Ties (e : HostAndPort) (p : Pace) (b : Burst) : Type 0 where
  moment : p.moment ≡ b.moment
  since : p.since ≡ b.since
  waited : p.has_waited ≡ b.has_waited
  size : length p.opened ≡ places
  most : (b.links ≤ slice_index p.opened (place_of e)) ⊎ (most_new ≤ slice_index p.opened (place_of e))

bytes_within : (sum : ℕ) (bytes : List ℕ) → sum < 64 → fold add_byte sum bytes < 64
bytes_within sum [] lt = lt
bytes_within sum (b ∷ bytes) lt = bytes_within (add_byte sum b) bytes (mod_below (sum * 31 + b) 64 (omega arith))

place_within : (e : HostAndPort) → place_of e < 64
place_within e = bytes_within (e.port % 64) e.host (mod_below e.port 64 (omega arith))

same_endpoint : (a b : HostAndPort) → is_same_endpoint a b ≡ true → a ≡ b
same_endpoint a b t =
    let parts = and_parts (a.port == b.port) (bytes_eq a.host b.host) t in
    let host = (bytes_eq-Decides a.host b.host).0 parts.1 in
    let port : a.port ≡ b.port = eqb-true a.port b.port parts.0 in
    λ i. record { host = host i; port = port i }

-- no place has fewer after one more of any
set_keeps : (t : List ℕ) (i j : ℕ) → slice_index t j ≤ slice_index (slice_set t i (slice_index t i + 1)) j
set_keeps [] i j = omega arith
set_keeps (x ∷ t) zero zero = omega arith
set_keeps (x ∷ t) zero (suc j) = omega arith
set_keeps (x ∷ t) (suc i) zero = omega arith
set_keeps (x ∷ t) (suc i) (suc j) = set_keeps t i j

keeps : (t : List ℕ) (i j : ℕ) → slice_index t j ≤ slice_index (one_more i t) j
keeps t i j = go (nat_lt (slice_index t i) most_new)
  where
    go : (b : Bool) → slice_index t j ≤ slice_index (if b then slice_set t i (slice_index t i + 1) else t) j
    go true = set_keeps t i j
    go false = omega arith

-- its own place has one more, unless it has as many as matter
raises : (t : List ℕ) (i n : ℕ) → i < length t → (n ≤ slice_index t i) ⊎ (most_new ≤ slice_index t i)
    → (n + 1 ≤ slice_index (one_more i t) i) ⊎ (most_new ≤ slice_index (one_more i t) i)
raises t i n within most = go (nat_lt (slice_index t i) most_new) refl
  where
    go : (b : Bool) → nat_lt (slice_index t i) most_new ≡ b
        → (n + 1 ≤ slice_index (if b then slice_set t i (slice_index t i + 1) else t) i)
        ⊎ (most_new ≤ slice_index (if b then slice_set t i (slice_index t i + 1) else t) i)
    go true is =
        let more = get_or-set_same t i (slice_index t i + 1) 0 within in
        elim most [
          | inl h ↦ inl (subst (λ x. n + 1 ≤ x) (sym more) (omega (arith, h)))
          | inr h ↦ absurd (omega (arith, h, ltb-true (slice_index t i) most_new is))
        ]
    go false is = inr (ltb-false (slice_index t i) most_new is)

sized : (t : List ℕ) (i : ℕ) → length (one_more i t) ≡ length t
sized t i = go (nat_lt (slice_index t i) most_new)
  where
    go : (b : Bool) → length (if b then slice_set t i (slice_index t i + 1) else t) ≡ length t
    go true = length-set t i (slice_index t i + 1)
    go false = refl

-- each thing that a gate says keeps it so
on_told : (e : HostAndPort) (m : ℕ) (p : Pace) (b : Burst) (renewed : Bool) → Ties e p b
    → Ties e (if renewed then record { moment = m; since = m; has_waited = false; opened = zeros } else record p { moment = m; has_waited = false })
    (if renewed then record { moment = m; since = m; has_waited = false; links = 0 } else record b { moment = m; has_waited = false })
on_told e m p b true is = record { moment = refl; since = refl; waited = refl; size = length-replicate {A = ℕ} 64 0; most = inl (omega arith) }
on_told e m p b false is = record { moment = refl; since = is.since; waited = refl; size = is.size; most = is.most }

counted : (e f : HostAndPort) (t : List ℕ) (n : ℕ) (b : Bool) → is_same_endpoint e f ≡ b → length t ≡ places
    → (n ≤ slice_index t (place_of e)) ⊎ (most_new ≤ slice_index t (place_of e))
    → (n + (if b then 1 else 0) ≤ slice_index (one_more (place_of f) t) (place_of e)) ⊎ (most_new ≤ slice_index (one_more (place_of f) t) (place_of e))
counted e f t n true same size most =
    subst (λ i. (n + 1 ≤ slice_index (one_more i t) (place_of e)) ⊎ (most_new ≤ slice_index (one_more i t) (place_of e)))
    (ap place_of (same_endpoint e f same))
    (raises t (place_of e) n (let lt = place_within e in omega (arith, lt, size)) most)
counted e f t n false other size most =
    let more = keeps t (place_of f) (place_of e) in
    elim most [
      | inl h ↦ inl (omega (arith, h, more))
      | inr h ↦ inr (omega (arith, h, more))
    ]

on_opened : (e f : HostAndPort) (p : Pace) (b : Burst) → Ties e p b
    → Ties e (opens_one f p) (record b { links = b.links + (if is_same_endpoint e f then 1 else 0) })
on_opened e f p b is = record {
  moment = is.moment;
  since = is.since;
  waited = is.waited;
  size = sized p.opened (place_of f) ∙ is.size;
  most = counted e f p.opened b.links (is_same_endpoint e f) refl is.size is.most;
}

step : (e : HostAndPort) (s : Said) (p : Pace) (b : Burst) → Ties e p b → Ties e (paces p s) (goes_on e b s)
step e (told m) p b is =
    let renewed : is_renewed p.has_waited p.moment p.since m ≡ is_renewed b.has_waited b.moment b.since m =
    ap (λ w. is_renewed w p.moment p.since m) is.waited ∙ ap (λ x. is_renewed b.has_waited x p.since m) is.moment
    ∙ ap (λ x. is_renewed b.has_waited b.moment x m) is.since in
    subst (λ r. Ties e (paces p (told m))
    (if r then record { moment = m; since = m; has_waited = false; links = 0 } else record b { moment = m; has_waited = false })) renewed
    (on_told e m p b (is_renewed p.has_waited p.moment p.since m) is)
step e (asked f can) p b is = is
step e (opened f (Ok number)) p b is = on_opened e f p b is
step e (opened f (Err code)) p b is = is
step e (lacked lacks) p b is = is
step e (waited ms stop) p b is = record { moment = is.moment; since = is.since; waited = refl; size = is.size; most = is.most }

all : (e : HostAndPort) (said : List Said) (p : Pace) (b : Burst) → Ties e p b → Ties e (fold paces p said) (fold (goes_on e) b said)
all e [] p b is = is
all e (s ∷ said) p b is = all e said (paces p s) (goes_on e b s) (step e s p b is)

pub allows_paced : AllowsPaced
allows_paced e said may =
    let start : Burst = record { moment = 0; since = 0; has_waited = false; links = 0 } in
    let ties = all e said first_pace start (record {
      moment = refl;
      since = refl;
      waited = refl;
      size = length-replicate {A = ℕ} 64 0;
      most = inl (omega arith);
    }) in
    let room = ltb-true (slice_index (fold paces first_pace said).opened (place_of e)) most_new may in
    elim ties.most [
      | inl h ↦ omega (arith, h, room)
      | inr h ↦ absurd (omega (arith, h, room))
    ]
