-- The origins of additions, and what is of them.
use Rattle.std.proofs.Common.{◌≡◌, ℕ, ◌+◌, ◌-◌, ◌≤◌, ◌∙◌, sym, refl, ap, subst, List, [], ◌∷◌, ◌++◌, length, length-append, replicate, Bool, true, map, arith}
use Rattle.std.specs.Prelude.{zero, suc, not, Some, None, slice_get, slice_set}
use Rattle.std.specs.List.{AllByRecursion, filter}
use Rattle.std.specs.Option.{option_to_list}
use Rattle.std.proofs.lemmas.Bool.{false≢true}
use Rattle.std.proofs.lemmas.List.{length-replicate, map-set, set-append_right, take-append-le}
use Rattle.mx_types.specs.Limits.{greatest_ticket}
use Rattle.mx_types.specs.Origin.{no_request}
use Rattle.mx_types.specs.declared.names.HandleId.{HandleId}
use Rattle.mx_types.specs.declared.names.Ticket.{Ticket}
use Rattle.mx_types.specs.declared.event.Who.{Who}
use Rattle.mx_types.specs.declared.event.What.{What}
use Rattle.mx_types.specs.declared.event.What.TheVariants as what
use Rattle.mx_types.specs.declared.event.Event.{Event}
use Rattle.mx_types.specs.declared.origin.Origin.{Origin}
use Rattle.mx_history.specs.History.{Addition, Opening, addition_of, made_by, past, removes}
use Rattle.mx_history.specs.Answers.{next_ticket}
use Rattle.mx_history.specs.Table.{Counts}
use Rattle.mx_journal.specs.Core.{AreOwn, IsBegun, KeepsOrigins, OriginList, origin_of}
use Rattle.mx_journal.specs.Replies.{is_pausing}
use Rattle.mx_history.specs.Laws.{then}
use Rattle.mx_history.proofs.Lists.{Each-map, Each-append, Each-filter}
use Rattle.mx_history.proofs.Histories.{beyond-then, tickets}
use Rattle.mx_history.proofs.Tickets.{tickets-then}

-- 1. Lists of origins.

stands_later : (xs more : List Origin) (i : ℕ) (y : Origin) → slice_get xs i ≡ Some y → slice_get (xs ++ more) i ≡ Some y
stands_later [] more i y e = cc
stands_later (x ∷ xs) more zero y e = e
stands_later (x ∷ xs) more (suc i) y e = stands_later xs more i y e

stands_last : (xs : List Origin) (y : Origin) → slice_get (xs ++ y ∷ []) (length xs) ≡ Some y
stands_last [] y = refl
stands_last (x ∷ xs) y = stands_last xs y

-- what is of its addition stays so as additions come
pub own_later : {X : Type 0} (origin : X → Origin) (origins more : List Origin) (xs : List (Ticket × X)) → AreOwn origin origins xs → AreOwn origin (origins ++ more) xs
own_later {X} origin origins more xs own =
    Each-map (λ (x : Ticket × X). slice_get origins x.0.0 ≡ Some (origin x.1)) (λ (x : Ticket × X). slice_get (origins ++ more) x.0.0 ≡ Some (origin x.1))
    (λ x e. stands_later origins more x.0.0 (origin x.1) e) xs own

pub own_filter : {X : Type 0} (origin : X → Origin) (origins : List Origin) (p : Ticket × X → Bool) (xs : List (Ticket × X)) → AreOwn origin origins xs → AreOwn origin origins (filter p xs)
own_filter {X} origin origins p xs own =
    Each-filter p (λ (x : Ticket × X). slice_get origins x.0.0 ≡ Some (origin x.1)) (λ (x : Ticket × X). slice_get origins x.0.0 ≡ Some (origin x.1)) (λ x _ e. e) xs own

-- with one more at the end
pub own_pushed : {X : Type 0} (origin : X → Origin) (origins : List Origin) (xs : List (Ticket × X)) (t : Ticket) (x : X) → AreOwn origin origins xs → origin_of t origins ≡ Some (origin x)
    → AreOwn origin origins (xs ++ (t, x) ∷ [])
own_pushed {X} origin origins xs t x own e = Each-append (λ (y : Ticket × X). slice_get origins y.0.0 ≡ Some (origin y.1)) xs ((t, x) ∷ []) own (e, tt)

-- a list that begins with the tickets of no work, with another origin after those
pub set_behind : {X : Type 0} (f : X → Origin) (n : ℕ) (xs : List X) (i : ℕ) (x : X) (o : Origin) → n ≤ i → f x ≡ o
    → replicate n no_request ++ map f (slice_set xs (i - n) x) ≡ slice_set (replicate n no_request ++ map f xs) i o
set_behind f n xs i x o le is =
    ap (λ zs. replicate n no_request ++ zs) (map-set f xs (i - n) x)
    ∙ sym (set-append_right (replicate n no_request) (map f xs) n i (f x) (length-replicate n no_request) le)
    ∙ ap (slice_set (replicate n no_request ++ map f xs) i) is

-- 2. Events.

-- the tickets that are added had work, where that of a new addition has
since-then : (begun : ℕ) (j : List Event) (w : Who) (e : What) → AllByRecursion (λ t. begun ≤ t.0) (tickets j) → AllByRecursion (λ t. begun ≤ t.0) (map (λ (a : Addition). a.ticket) (option_to_list (addition_of e)))
    → AllByRecursion (λ t. begun ≤ t.0) (tickets (then j w e))
since-then begun j w e old new =
    subst (AllByRecursion (λ t. begun ≤ t.0)) (sym (tickets-then j w e))
    (Each-append (λ t. begun ≤ t.0) (filter (λ t. not (removes t e)) (tickets j)) (map (λ (a : Addition). a.ticket) (option_to_list (addition_of e)))
    (Each-filter (λ t. not (removes t e)) (λ t. begun ≤ t.0) (λ t. begun ≤ t.0) (λ t _ le. le) (tickets j) old) new)

-- with an addition under the next ticket
pub origins-added : {Q : Type 0} (origin : Q → Origin) (opening : Opening) (j : List Event) (w : Who) (h : HandleId) (t : Ticket) (origins : OriginList) (queue : List (Ticket × Q)) (work : Q)
    → KeepsOrigins origin opening j origins queue → t.0 ≡ (next_ticket opening j).0
    → KeepsOrigins origin opening (then j w (what.Added h t)) (record { begun = origins.begun; all = origins.all ++ origin work ∷ [] }) (queue ++ (t, work) ∷ [])
origins-added origin opening j w h t origins queue work k new =
    let long = length-append origins.all (origin work ∷ []) in
    let last : slice_get (origins.all ++ origin work ∷ []) t.0 ≡ Some (origin work) =
    ap (slice_get (origins.all ++ origin work ∷ [])) (new ∙ sym k.each) ∙ stands_last origins.all (origin work) in
    record {
      each = omega (arith, new, long, k.each, beyond-then j w (what.Added h t));
      own = Each-append (λ x. slice_get (origins.all ++ origin work ∷ []) x.0.0 ≡ Some (origin x.1)) queue ((t, work) ∷ []) (own_later origin origins.all (origin work ∷ []) queue k.own) (last, tt);
      begins = omega (arith, long, k.begins);
      since = since-then origins.begun j w (what.Added h t) k.since (omega (arith, new, k.each, k.begins), tt);
    }

adds_none : (e : What) → past e ≡ 0 → addition_of e ≡ None
adds_none (what.Added h t) none = absurd (omega (arith, none))
adds_none (what.Removed h t) none = refl
adds_none (what.Done t c n) none = refl
adds_none (what.Read t) none = refl
adds_none (what.Paused t) none = refl
adds_none (what.Resumed t) none = refl
adds_none what.Wake none = refl

-- with another event, and a queue that is of these origins
pub origins-then : {Q : Type 0} (origin : Q → Origin) (opening : Opening) (j : List Event) (w : Who) (e : What) (origins : OriginList) (old new : List (Ticket × Q))
    → KeepsOrigins origin opening j origins old → past e ≡ 0 → AreOwn origin origins.all new → KeepsOrigins origin opening (then j w e) origins new
origins-then origin opening j w e origins old new k none own = record {
  each = omega (arith, k.each, none, beyond-then j w e);
  own = own;
  begins = k.begins;
  since = since-then origins.begun j w e k.since
      (subst (λ o. AllByRecursion (λ t. origins.begun ≤ t.0) (map (λ (a : Addition). a.ticket) (option_to_list o))) (sym (adds_none e none)) tt);
}

pub pausing_adds_none : (e : What) → is_pausing e ≡ true → past e ≡ 0
pausing_adds_none (what.Paused t) p = refl
pausing_adds_none (what.Resumed t) p = refl
pausing_adds_none (what.Added h t) p = absurd (false≢true p)
pausing_adds_none (what.Removed h t) p = refl
pausing_adds_none (what.Done t c n) p = refl
pausing_adds_none (what.Read t) p = refl
pausing_adds_none what.Wake p = refl

-- what was kept of older history is still there
pub begun-then : (opening : Opening) (j : List Event) (w : Who) (e : What) (before : Counts) → IsBegun opening j before → past e ≤ greatest_ticket + 1 → IsBegun opening (then j w e) before
begun-then opening j w e before b few = record {
  first = b.first;
  given = omega (arith, b.given, few, beyond-then j w e);
  begun = omega (arith, b.begun, length-append j (record { who = w; what = e } ∷ []));
  makers = λ v is. b.makers v is ∙ ap (made_by v) (sym (take-append-le opening.from j (record { who = w; what = e } ∷ []) b.begun));
}
