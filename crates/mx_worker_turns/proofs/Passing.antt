-- Going through a list, one after another.
use Rattle.std.proofs.Common.{◌≡◌, ℕ, ◌+◌, ◌≤◌, ◌<◌, Bool, true, false, List, [], ◌∷◌, ◌++◌, length, map, zero, suc, get_or, take, drop, below_more, ap, ◌∙◌, refl, sym, subst, arith, Option, Some, None}
use Rattle.std.specs.Prelude.{All, MatchOption}
use Rattle.std.specs.List.{remove}
use Rattle.std.proofs.lemmas.List.{take-append-drop, map-append}
use Rattle.std.proofs.lemmas.List.Elements.{All-map}
use Rattle.std.proofs.Math.Seq.{drop-cons}
use Rattle.mx_types.specs.Limits.{most_transfers}
use Rattle.mx_link.specs.declared.answers.Answer.{Answer}
use Rattle.mx_turn.specs.Workers.{Held, SetAside, Worker, in_hand}
use Rattle.mx_turn.specs.Turn.{Each, Retries, GivesBack, LooksAt, IsLate, GoesThrough, through, due, asks_time, next}
use Rattle.mx_turn.proofs.Within.{retries_step, gives_step, looks_step}
use Rattle.mx_gate.specs.Said.{Said, told}
use Rattle.mx_exchange.specs.Exchanges.{IsDue}
use Rattle.mx_turn.specs.Engines.{HeldView}
use Rattle.mx_worker_turns.specs.WorkerSteps.{beside}
use Rattle.mx_worker_turns.specs.Picks.{Bounds, IsBounded, NoneIsLate, IsOneDue, TakesDue, Picks, due_now, due_then, first_now, first_then}

pub none_left : {X : Type 0} (xs : List X) → length xs ≡ 0 → xs ≡ []
none_left [] e = refl
none_left (x ∷ xs) e = absurd (omega (arith, e))

-- one step more before the rest, of what the items are seen as
pub each_next : {Y X W : Type 0} (see : Y → X) (Step : X → W → W → Type 0) (xs ys : List Y) (x : Y) (w mid v : W) → xs ≡ x ∷ ys → Step (see x) w mid → Each Step (map see ys) mid v → Each Step (map see xs) w v
each_next see Step xs ys x w mid v e one rest = subst (λ zs. Each Step (map see zs) w v) (sym e) (mid, one, rest)

pub each_end : {Y X W : Type 0} (see : Y → X) (Step : X → W → W → Type 0) (xs : List Y) (w : W) → length xs ≡ 0 → Each Step (map see xs) w w
each_end see Step xs w e = subst (λ zs. Each Step (map see zs) w w) (sym (none_left xs e)) refl

pub retries_fits : {L : Type 0} (e : SetAside) (w v : Worker L) (n k : ℕ) → Retries e w v → n ≡ k + 1 → n + in_hand w ≤ most_transfers → k + in_hand v ≤ most_transfers
retries_fits e w v n k r is f = let x = retries_step e w v k r (omega (arith, is, f)) in omega (arith, x)

pub gives_fits : {L : Type 0} (h : Held L) (w v : Worker L) (n k : ℕ) → GivesBack h w v → n ≡ k + 1 → n + in_hand w ≤ most_transfers → k + in_hand v ≤ most_transfers
gives_fits h w v n k g e f = let x = gives_step h w v k g (omega (arith, e, f)) in omega (arith, x)

module _ {L : Type 0} (history : L → List Answer) (token_of : L → ℕ) (now : ℕ) where
  pub looks_fits : (h : Held L) (w v : Worker L) (n k : ℕ) → LooksAt history token_of now h w v → n ≡ k + 1 → n + in_hand w ≤ most_transfers → k + in_hand v ≤ most_transfers
  looks_fits h w v n k g e f = let x = looks_step history token_of now h w v k g (omega (arith, e, f)) in omega (arith, x)

abbrev seen : {L : Type 0} → HeldView L → Held L
seen k = k.held

module _ {L : Type 0} (history : L → List Answer) (token_of : L → ℕ) (last : ℕ) (v : Worker L) where
  goes_due : (now : ℕ) (is_new : Bool) (xs ys : List (HeldView L)) (h : HeldView L) (w mid : Worker L) → IsOneDue now xs h ys → LooksAt history token_of now h.held w mid → GoesThrough history token_of last v now false (map seen ys) mid
      → GoesThrough history token_of last v now is_new (map seen xs) w
  goes_due now is_new xs ys h w mid d looks rest =
      let before : map seen xs ≡ map seen d.earlier ++ seen h ∷ map seen d.later = ap (map seen) d.before ∙ map-append seen d.earlier (h ∷ d.later) in
      let after : map seen ys ≡ map seen d.earlier ++ map seen d.later = ap (map seen) d.after ∙ map-append seen d.earlier d.later in
      subst (λ zs. GoesThrough history token_of last v now is_new zs w) (sym before)
      (due now is_new (map seen d.earlier) (map seen d.later) h.held d.late looks (subst (λ zs. GoesThrough history token_of last v now false zs mid) after rest))

  none_late : (now : ℕ) (xs : List (HeldView L)) → NoneIsLate now xs → All (λ k. ¬ (IsLate now k)) (map seen xs)
  none_late now xs none = All-map (λ k. ¬ (IsLate now k)) seen xs none

  goes_first : (now : ℕ) (xs ys : List (HeldView L)) (h : HeldView L) (w mid : Worker L) → NoneIsLate now xs → xs ≡ h ∷ ys → LooksAt history token_of now h.held w mid → GoesThrough history token_of last v now false (map seen ys) mid
      → GoesThrough history token_of last v now true (map seen xs) w
  goes_first now xs ys h w mid none e looks rest =
      subst (λ zs. GoesThrough history token_of last v now true zs w) (sym (ap (map seen) e))
      (next now h.held (map seen ys) (subst (λ zs. All (λ k. ¬ (IsLate now k)) zs) (ap (map seen) e) (none_late now xs none)) looks rest)

  asks_first : (now then : ℕ) (is_new : Bool) (xs : List (HeldView L)) (w : Worker L) (was is : List Said) → is_new ≡ false → NoneIsLate now xs → is ≡ was ++ told then ∷ []
      → GoesThrough history token_of last v then true (map seen xs) (beside w is) → GoesThrough history token_of last v now is_new (map seen xs) (beside w was)
  asks_first now then is_new xs w was is old none e rest =
      subst (λ b. GoesThrough history token_of last v now b (map seen xs) (beside w was)) (sym old)
      (asks_time now then (map seen xs) (none_late now xs none) (subst (λ (s : List Said). GoesThrough history token_of last v then true (map seen xs) (beside w s)) e rest))

  at_same : (now then : ℕ) (is_new : Bool) (zs : List (Held L)) (w : Worker L) (was is : List Said) → then ≡ now → is ≡ was → GoesThrough history token_of last v then is_new zs (beside w is) → GoesThrough history token_of last v now is_new zs (beside w was)
  at_same now then is_new zs w was is e f rest =
      subst (λ (s : List Said). GoesThrough history token_of last v now is_new zs (beside w s)) f (subst (λ n. GoesThrough history token_of last v n is_new zs (beside w is)) e rest)

  pub goes_next : (now then : ℕ) (is_new : Bool) (xs ys : List (HeldView L)) (h : HeldView L) (w mid : Worker L) (was is : List Said) → Picks now then is_new xs h ys was is → LooksAt history token_of then h.held (beside w is) mid
      → GoesThrough history token_of last v then false (map seen ys) mid → GoesThrough history token_of last v now is_new (map seen xs) (beside w was)
  goes_next now then is_new xs ys h w mid was is (due_now d e f) looks rest =
      at_same now then is_new (map seen xs) w was is e f (goes_due then is_new xs ys h (beside w is) mid (subst (λ n. IsOneDue n xs h ys) (sym e) d) looks rest)
  goes_next now then is_new xs ys h w mid was is (due_then old none e d) looks rest =
      asks_first now then is_new xs w was is old none e (goes_due then true xs ys h (beside w is) mid d looks rest)
  goes_next now then is_new xs ys h w mid was is (first_now new none first e f) looks rest =
      subst (λ b. GoesThrough history token_of last v now b (map seen xs) (beside w was)) (sym new)
      (at_same now then true (map seen xs) w was is e f (goes_first then xs ys h (beside w is) mid (subst (λ n. NoneIsLate n xs) (sym e) none) first looks rest))
  goes_next now then is_new xs ys h w mid was is (first_then old none e still first) looks rest =
      asks_first now then is_new xs w was is old none e (goes_first then xs ys h (beside w is) mid still first looks rest)

pub goes_end : {L : Type 0} (history : L → List Answer) (token_of : L → ℕ) (now : ℕ) (is_new : Bool) (xs : List (HeldView L)) (w : Worker L) → length xs ≡ 0 → GoesThrough history token_of now w now is_new (map (λ (k : HeldView L). k.held) xs) w
goes_end {L} history token_of now is_new xs w e = subst (λ xs. GoesThrough history token_of now w now is_new (map (λ (k : HeldView L). k.held) xs) w) (sym (none_left xs e)) (through is_new)

-- none is due before the bound of all
pub none_before : {L : Type 0} (least : Option ℕ) (now : ℕ) (xs : List (HeldView L)) → All (IsBounded least) xs → ¬ (IsDue least now) → NoneIsLate now xs
none_before least now xs all early = λ i d lt. not_yet least _ (all i d lt) early where
  not_yet : (least deadline : Option ℕ) → Bounds least deadline → ¬ (IsDue least now) → ¬ (IsDue deadline now)
  not_yet least None bound early = λ due_so. due_so
  not_yet None (Some d) bound early = absurd bound
  not_yet (Some l) (Some d) bound early = λ due_so. early (omega (arith, bound, due_so))

-- an item in its place, whatever the default
in_place : {X : Type 0} (xs : List X) (i : ℕ) (x d : X) → i < length xs → x ≡ get_or xs i x → get_or xs i d ≡ x
in_place [] i x d lt e = absurd (omega (arith, lt))
in_place (y ∷ ys) zero x d lt e = sym e
in_place (y ∷ ys) (suc i) x d lt e = in_place ys i x d (omega (arith, lt)) e

module _ {L : Type 0} (now : ℕ) (xs : List (HeldView L)) where
  pub none_yet : (i : ℕ) (h : HeldView L) → i < length xs → h ≡ get_or xs i h → ¬ (IsLate now h.held) → ((k : ℕ) (d : HeldView L) → k < i → ¬ (IsLate now (get_or xs k d).held))
      → (k : ℕ) (d : HeldView L) → k < i + 1 → ¬ (IsLate now (get_or xs k d).held)
  none_yet i h lt at not_late early k d below = below_more _ _ (λ j less. early j d less) (λ late_so. not_late (subst (λ (x : HeldView L). IsLate now x.held) (in_place xs i h d lt at) late_so)) k below

  pub takes_due : (i : ℕ) (h at : HeldView L) (ys : List (HeldView L)) → i < length xs → at ≡ get_or xs i at → IsLate now at.held → h ≡ get_or xs i h → ys ≡ remove xs i → IsOneDue now xs h ys
  takes_due i h at ys lt at_is d h_is e =
      let same : at ≡ h = sym (in_place xs i at h lt at_is) ∙ sym h_is in
      record {
        earlier = take i xs;
        later = drop (suc i) xs;
        before = sym (take-append-drop i xs) ∙ ap (λ (zs : List (HeldView L)). take i xs ++ zs) (drop-cons xs i h lt ∙ ap (λ (x : HeldView L). x ∷ drop (suc i) xs) (sym h_is));
        after = e;
        late = subst (λ (x : HeldView L). IsLate now x.held) same d;
      }

  pub takes_some : {B : Type 0} (of : HeldView L → B) (b : B) (i : ℕ) (r : Option (HeldView L)) (at : HeldView L) (ys : List (HeldView L)) → i < length xs → at ≡ get_or xs i at → IsLate now at.held
      → MatchOption r ⊥ (λ h. (h ≡ get_or xs i h) × (of h ≡ b)) → ys ≡ remove xs i → TakesDue now xs r ys
  takes_some of b i None at ys lt at_is d some items = absurd some
  takes_some of b i (Some h) at ys lt at_is d some items = takes_due i h at ys lt at_is d some.0 items
