-- The claims of a player, each at a place by its ticket.
use Rattle.std.proofs.Common.{◌≡◌, ℕ, ◌+◌, ◌<◌, ◌≤◌, ◌∙◌, sym, refl, ap, List, [], ◌∷◌, ◌++◌, length, length-append, set, true, false, cond, arith}
use Rattle.std.specs.Prelude.{suc, zero, ◌==◌, ◌||◌, Option, Some, None, IfNone, IfSome, slice_index_or}
use Rattle.std.proofs.lemmas.Bool.{eq-eqb, false≢true, ne_eqb}
use Rattle.std.proofs.lemmas.List.{length-set}
use Rattle.mx_types.specs.declared.names.Ticket.{Ticket}
use Rattle.mx_types.specs.Origin.{no_request}
use Rattle.mx_journal.specs.Core.{Claimed}
use Rattle.mx_journal.specs.History.{same_ticket, has_ticket}
use Rattle.mx_run_local.specs.Turns.{without_claim}
use Rattle.mx_run_local.specs.Players.{Kept, tickets_at, AreAtTheirPlaces}

differ_below : (a b : ℕ) → a < b → (a == b) ≡ false
differ_below a b lt = ne_eqb a b (λ e. omega (arith, lt, e))

differ_above : (a b : ℕ) → b < a → (a == b) ≡ false
differ_above a b lt = ne_eqb a b (λ e. omega (arith, lt, e))

-- a ticket below the first place, or above the last, has no claim
pub below : (n : ℕ) (xs : List (Option Claimed)) (t : Ticket) → AreAtTheirPlaces n xs → t.0 < n → has_ticket t (tickets_at xs) ≡ false
below n [] t h lt = refl
below n (None ∷ xs) t h lt = below (n + 1) xs t h (omega (arith, lt))
below n (Some claim ∷ xs) t h lt =
    ap (λ b. b || has_ticket t (tickets_at xs)) (differ_below t.0 claim.ticket.0 (omega (arith, lt, h.0)))
    ∙ below (n + 1) xs t h.2 (omega (arith, lt))

pub above : (n : ℕ) (xs : List (Option Claimed)) (t : Ticket) → AreAtTheirPlaces n xs → n + length xs ≤ t.0 → has_ticket t (tickets_at xs) ≡ false
above n [] t h le = refl
above n (None ∷ xs) t h le = above (n + 1) xs t h (omega (arith, le))
above n (Some claim ∷ xs) t h le =
    ap (λ b. b || has_ticket t (tickets_at xs)) (differ_above t.0 claim.ticket.0 (omega (arith, le, h.0)))
    ∙ above (n + 1) xs t h.2 (omega (arith, le))

-- what is at the place of a ticket, and what is left without it
pub record IsEmpty (n : ℕ) (xs : List (Option Claimed)) (t : Ticket) (i : ℕ) : Type 0 where
  pub has : has_ticket t (tickets_at xs) ≡ false
  pub same : tickets_at (set xs i None) ≡ tickets_at xs
  pub places : AreAtTheirPlaces n (set xs i None)

pub record IsTaken (n : ℕ) (xs : List (Option Claimed)) (t : Ticket) (i : ℕ) (claim : Claimed) : Type 0 where
  pub its : claim.ticket ≡ t
  pub origin : claim.origin ≡ no_request
  pub has : has_ticket t (tickets_at xs) ≡ true
  pub rest : tickets_at (set xs i None) ≡ without_claim t (tickets_at xs)
  pub count : length (tickets_at xs) ≡ length (tickets_at (set xs i None)) + 1
  pub gone : has_ticket t (tickets_at (set xs i None)) ≡ false
  pub places : AreAtTheirPlaces n (set xs i None)

same_ticket_is : (t u : Ticket) → t.0 ≡ u.0 → same_ticket t u ≡ true
same_ticket_is t u e = eq-eqb t.0 u.0 e

ticket_is : (t u : Ticket) → t.0 ≡ u.0 → t ≡ u
ticket_is t u e = let T : ℕ → Ticket = λ n. record { 0 = n } in ap T e

pub empty : (n : ℕ) (xs : List (Option Claimed)) (t : Ticket) (i : ℕ) (d : Option Claimed) → AreAtTheirPlaces n xs → t.0 ≡ n + i
    → i < length xs → slice_index_or xs i d ≡ None → IsEmpty n xs t i
empty n [] t i d h at lt is = absurd (omega (arith, lt))
empty n (None ∷ xs) t zero d h at lt is = record { has = below (n + 1) xs t h (omega (arith, at)); same = refl; places = h }
empty n (Some claim ∷ xs) t zero d h at lt is = cc
empty n (None ∷ xs) t (suc i) d h at lt is =
    let r = empty (n + 1) xs t i d h (omega (arith, at)) (omega (arith, lt)) is in
    record { has = r.has; same = r.same; places = r.places }
empty n (Some claim ∷ xs) t (suc i) d h at lt is =
    let r = empty (n + 1) xs t i d h.2 (omega (arith, at)) (omega (arith, lt)) is in
    let other = differ_above t.0 claim.ticket.0 (omega (arith, at, h.0)) in
    record {
      has = ap (λ b. b || has_ticket t (tickets_at xs)) other ∙ r.has;
      same = ap (λ z. claim.ticket ∷ z) r.same;
      places = (h.0, h.1, r.places);
    }

pub taken : (n : ℕ) (xs : List (Option Claimed)) (t : Ticket) (i : ℕ) (d : Option Claimed) (claim : Claimed) → AreAtTheirPlaces n xs → t.0 ≡ n + i
    → i < length xs → slice_index_or xs i d ≡ Some claim → IsTaken n xs t i claim
taken n [] t i d claim h at lt is = absurd (omega (arith, lt))
taken n (None ∷ xs) t zero d claim h at lt is = cc
taken n (Some c ∷ xs) t zero d claim h at lt is =
    let e : c ≡ claim = cc in
    let same : same_ticket t c.ticket ≡ true = same_ticket_is t c.ticket (omega (arith, at, h.0)) in
    record {
      its = ap (λ (x : Claimed). x.ticket) (sym e) ∙ ticket_is c.ticket t (omega (arith, at, h.0));
      origin = ap (λ (x : Claimed). x.origin) (sym e) ∙ h.1;
      has = ap (λ b. b || has_ticket t (tickets_at xs)) same;
      rest = sym (ap (λ b. cond b (tickets_at xs) (c.ticket ∷ without_claim t (tickets_at xs))) same);
      count = omega arith;
      gone = below (n + 1) xs t h.2 (omega (arith, at));
      places = h.2;
    }
taken n (None ∷ xs) t (suc i) d claim h at lt is =
    let r = taken (n + 1) xs t i d claim h (omega (arith, at)) (omega (arith, lt)) is in
    record { its = r.its; origin = r.origin; has = r.has; rest = r.rest; count = r.count; gone = r.gone; places = r.places }
taken n (Some c ∷ xs) t (suc i) d claim h at lt is =
    let r = taken (n + 1) xs t i d claim h.2 (omega (arith, at)) (omega (arith, lt)) is in
    let other = differ_above t.0 c.ticket.0 (omega (arith, at, h.0)) in
    record {
      its = r.its;
      origin = r.origin;
      has = ap (λ b. b || has_ticket t (tickets_at xs)) other ∙ r.has;
      rest = ap (λ z. c.ticket ∷ z) r.rest ∙ sym (ap (λ b. cond b (tickets_at xs) (c.ticket ∷ without_claim t (tickets_at xs))) other);
      count = omega (arith, r.count);
      gone = ap (λ b. b || has_ticket t (tickets_at (set xs i None))) other ∙ r.gone;
      places = (h.0, h.1, r.places);
    }

-- the claim of the next addition comes after the others
pub kept : (xs : List (Option Claimed)) (claim : Claimed) → tickets_at (xs ++ Some claim ∷ []) ≡ tickets_at xs ++ claim.ticket ∷ []
kept [] claim = refl
kept (None ∷ xs) claim = kept xs claim
kept (Some c ∷ xs) claim = ap (λ z. c.ticket ∷ z) (kept xs claim)

pub kept_places : (n : ℕ) (xs : List (Option Claimed)) (claim : Claimed) → AreAtTheirPlaces n xs → claim.ticket.0 ≡ n + length xs
    → claim.origin ≡ no_request → AreAtTheirPlaces n (xs ++ Some claim ∷ [])
kept_places n [] claim h next origin = (omega (arith, next), origin, tt)
kept_places n (None ∷ xs) claim h next origin = kept_places (n + 1) xs claim h (omega (arith, next)) origin
kept_places n (Some c ∷ xs) claim h next origin = (h.0, h.1, kept_places (n + 1) xs claim h.2 (omega (arith, next)) origin)

-- a claim is in its empty place again
pub record IsAgain (n : ℕ) (xs : List (Option Claimed)) (i : ℕ) (claim : Claimed) : Type 0 where
  pub count : length (tickets_at (set xs i (Some claim))) ≡ length (tickets_at xs) + 1
  pub places : AreAtTheirPlaces n (set xs i (Some claim))

pub again : (n : ℕ) (xs : List (Option Claimed)) (i : ℕ) (claim : Claimed) → AreAtTheirPlaces n xs → claim.ticket.0 ≡ n + i → i < length xs
    → has_ticket claim.ticket (tickets_at xs) ≡ false → claim.origin ≡ no_request → IsAgain n xs i claim
again n [] i claim h at lt gone origin = absurd (omega (arith, lt))
again n (None ∷ xs) zero claim h at lt gone origin = record { count = omega arith; places = (omega (arith, at), origin, h) }
again n (Some c ∷ xs) zero claim h at lt gone origin =
    let same : same_ticket claim.ticket c.ticket ≡ true = same_ticket_is claim.ticket c.ticket (omega (arith, at, h.0)) in
    absurd (false≢true (sym gone ∙ ap (λ b. b || has_ticket claim.ticket (tickets_at xs)) same))
again n (None ∷ xs) (suc i) claim h at lt gone origin =
    let r = again (n + 1) xs i claim h (omega (arith, at)) (omega (arith, lt)) gone origin in
    record { count = r.count; places = r.places }
again n (Some c ∷ xs) (suc i) claim h at lt gone origin =
    let other = differ_above claim.ticket.0 c.ticket.0 (omega (arith, at, h.0)) in
    let r = again (n + 1) xs i claim h.2 (omega (arith, at)) (omega (arith, lt)) (sym (ap (λ b. b || has_ticket claim.ticket (tickets_at xs)) other) ∙ gone) origin in
    record { count = omega (arith, r.count); places = (h.0, h.1, r.places) }

-- a place has one claim at most
pub few_kept : (xs : List (Option Claimed)) → length (tickets_at xs) ≤ length xs
few_kept [] = omega arith
few_kept (None ∷ xs) = omega (arith, few_kept xs)
few_kept (Some c ∷ xs) = omega (arith, few_kept xs)

-- what `take`, `keep` and `keep_again` leave, and give
abbrev pub view_of : ℕ → List (Option Claimed) → ℕ → Kept
view_of n xs space = record { first = n; made = length xs; tickets = tickets_at xs; space = space }

pub record Took (n : ℕ) (xs : List (Option Claimed)) (t : Ticket) (i : ℕ) (given : Option Claimed) (after : Option Claimed) : Type 0 where
  pub places : AreAtTheirPlaces n (set xs i after)
  pub none : IfNone given ((has_ticket t (tickets_at xs) ≡ false) × (tickets_at (set xs i after) ≡ tickets_at xs))
  pub some : IfSome given (λ claim. (has_ticket t (tickets_at xs) ≡ true) × (tickets_at (set xs i after) ≡ without_claim t (tickets_at xs)))
  pub its : IfSome given (λ claim. (claim.ticket ≡ t) × (claim.origin ≡ no_request))
  pub once : IfSome given (λ claim. (length (tickets_at xs) ≡ length (tickets_at (set xs i after)) + 1) × (has_ticket t (tickets_at (set xs i after)) ≡ false))

pub took : (n : ℕ) (xs : List (Option Claimed)) (t : Ticket) (i : ℕ) (now given after : Option Claimed) → AreAtTheirPlaces n xs → t.0 ≡ n + i → i < length xs
    → now ≡ slice_index_or xs i now → given ≡ now → after ≡ None → Took n xs t i given after
took n xs t i now None after h at lt is e f =
    let r = empty n xs t i now h at lt (sym is ∙ sym e) in
    record { places = rw f r.places; none = (r.has, rw f r.same); some = tt; its = tt; once = tt }
took n xs t i now (Some claim) after h at lt is e f =
    let r = taken n xs t i now claim h at lt (sym is ∙ sym e) in
    record { places = rw f r.places; none = tt; some = (r.has, rw f r.rest); its = (r.its, r.origin); once = (rw f r.count, rw f r.gone) }

same_view : (n : ℕ) (xs ys : List (Option Claimed)) (ts : List Ticket) (space : ℕ) → length ys ≡ length xs → tickets_at ys ≡ ts
    → view_of n ys space ≡ record { first = n; made = length xs; tickets = ts; space = space }
same_view n xs ys ts space e f = rw (e, f) refl

pub took_none : (n : ℕ) (xs : List (Option Claimed)) (t : Ticket) (i : ℕ) (given after : Option Claimed) (space : ℕ) (p : Kept) → Took n xs t i given after
    → p ≡ view_of n xs space → IfNone given ((has_ticket t p.tickets ≡ false) × (view_of n (set xs i after) space ≡ p))
took_none n xs t i None after space p h is =
    rw is (h.none.0, same_view n xs (set xs i after) (tickets_at xs) space (length-set xs i after) h.none.1)
took_none n xs t i (Some claim) after space p h is = tt

pub took_some : (n : ℕ) (xs : List (Option Claimed)) (t : Ticket) (i : ℕ) (given after : Option Claimed) (space : ℕ) (p : Kept) → Took n xs t i given after
    → p ≡ view_of n xs space
    → IfSome given (λ claim. (has_ticket t p.tickets ≡ true) × (view_of n (set xs i after) space ≡ record p { tickets = without_claim t p.tickets }))
took_some n xs t i None after space p h is = tt
took_some n xs t i (Some claim) after space p h is =
    rw is (h.some.0, same_view n xs (set xs i after) (without_claim t (tickets_at xs)) space (length-set xs i after) h.some.1)

pub kept_view : (n : ℕ) (xs ys : List (Option Claimed)) (claim : Claimed) (space after : ℕ) (p : Kept) → ys ≡ xs ++ Some claim ∷ [] → after ≡ space
    → p ≡ view_of n xs space → view_of n ys after ≡ record p { made = p.made + 1; tickets = p.tickets ++ claim.ticket ∷ [] }
kept_view n xs ys claim space after p e f is =
    let longer : length (xs ++ Some claim ∷ []) ≡ length xs + 1 = omega (arith, length-append xs (Some claim ∷ [])) in
    rw (is, e, f, longer, kept xs claim) refl
