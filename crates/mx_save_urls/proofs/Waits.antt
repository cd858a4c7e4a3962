-- Who is in the waiting list, one step further.
use Rattle.std.proofs.Common.{◌≡◌, ◌≢◌, ◌∙◌, refl, ap, sym, subst, ℕ, suc, zero, List, [], ◌∷◌, ◌++◌, Bool, true, false, inl, inr, arith}
use Rattle.std.specs.Prelude.{◌⊎◌, All, IfNone, Option, Some, None, if◌then◌else◌, slice_get, slice_set}
use Rattle.std.proofs.lemmas.List.Elements.{All-head, All-tail}
use Rattle.mx_fetch.proofs.Lists.{cases}
use Rattle.mx_save_rules.specs.Waits.{Adds, PopsDue}
use Rattle.mx_save_rules.specs.declared.waiting.Wait.{Wait}
use Rattle.mx_save_book.specs.Books.{IsClosed, LeavesSlot, StandsAt}
use Rattle.mx_save_book.specs.declared.job.Job.{Job}
use Rattle.mx_save_book.specs.declared.job.Slot.{Slot}
use Rattle.mx_save_book.specs.declared.job.Slot.TheVariants as slot
use Rattle.mx_save_urls.specs.Works.{AreBroughtOn, IsListed, OthersAreBroughtOn}

-- where all slots are free, nobody waits
pub none_waiting : (slots : List Slot) → All (λ s. s ≡ slot.Free) slots → AreBroughtOn slots []
none_waiting [] free i job is = absurd (cc)
none_waiting (s ∷ ss) free zero job is =
    let same : s ≡ slot.Waiting job = cc in
    let bad : slot.Free ≡ slot.Waiting job = sym (All-head (λ t. t ≡ slot.Free) s ss free) ∙ same in absurd (cc)
none_waiting (s ∷ ss) free (suc i) job is = none_waiting ss (All-tail (λ t. t ≡ slot.Free) s ss free) i job is

pub others : (at : ℕ) (slots : List Slot) (ws : List Wait) → AreBroughtOn slots ws → OthersAreBroughtOn at slots ws
others at slots ws all i job apart here = all i job here

-- a slot has something new
pub others_set : (old new : List Slot) (ws : List Wait) (at : ℕ) (v : Slot) → new ≡ slice_set old at v → OthersAreBroughtOn at old ws → OthersAreBroughtOn at new ws
others_set old new ws at v is all i job apart here =
    elim (cases old at i v (slot.Waiting job) (ap (λ l. slice_get l i) (sym is) ∙ here)) [
      | inl c ↦ absurd (apart c.0)
      | inr c ↦ all i job apart c.1
    ]

pub all_set : (old new : List Slot) (ws : List Wait) (at : ℕ) (v : Slot) → new ≡ slice_set old at v → ((job : Job) → v ≢ slot.Waiting job)
    → OthersAreBroughtOn at old ws → AreBroughtOn new ws
all_set old new ws at v is other all i job here =
    elim (cases old at i v (slot.Waiting job) (ap (λ l. slice_get l i) (sym is) ∙ here)) [
      | inl c ↦ absurd (other job c.1)
      | inr c ↦ all i job c.0 c.1
    ]

pub all_freed : (old new : List Slot) (ws : List Wait) (at : ℕ) → new ≡ slice_set old at slot.Free → OthersAreBroughtOn at old ws → AreBroughtOn new ws
all_freed old new ws at is all = all_set old new ws at slot.Free is (λ job e. cc) all

-- its URL is to be tried again, or has ended
pub closed_on : (old new : List Slot) (ws : List Wait) (at : ℕ) → IsClosed old new at → AreBroughtOn old ws → OthersAreBroughtOn at new ws
closed_on old new ws at closed all = others_set old new ws at closed.left closed.is (others at old ws all)

pub left_none : (old new : List Slot) (ws : List Wait) (at : ℕ) (delay : Option ℕ) → LeavesSlot old new at delay → AreBroughtOn old ws → IfNone delay (AreBroughtOn new ws)
left_none old new ws at None left all = all_freed old new ws at left (others at old ws all)
left_none old new ws at (Some delay) left all = tt

-- a URL stands in the slot, and is skipped then, or isn't
pub stands_others : (old new : List Slot) (ws : List Wait) (at : ℕ) (text : List ℕ) → StandsAt old new at text → AreBroughtOn old ws → OthersAreBroughtOn at new ws
stands_others old new ws at text s all = others_set old new ws at (slot.Waiting s.job) s.is (others at old ws all)

pub skipped_others : (mid new : List Slot) (ws : List Wait) (at : ℕ) (skipped : Bool) → new ≡ (if skipped then slice_set mid at slot.Free else mid) → OthersAreBroughtOn at mid ws
    → OthersAreBroughtOn at new ws
skipped_others mid new ws at true is all = others_set mid new ws at slot.Free is all
skipped_others mid new ws at false is all = subst (λ l. OthersAreBroughtOn at l ws) (sym is) all

pub skipped_none : (mid new : List Slot) (ws : List Wait) (at : ℕ) (skipped : Bool) → skipped ≡ true → new ≡ (if skipped then slice_set mid at slot.Free else mid)
    → OthersAreBroughtOn at mid ws → AreBroughtOn new ws
skipped_none mid new ws at true e is all = all_freed mid new ws at is all
skipped_none mid new ws at false e is all = let bad : false ≡ true = e in absurd (cc)

-- one is added to the list
listed_on : (earlier later : List Wait) (w : Wait) (i : ℕ) → IsListed (earlier ++ later) i → IsListed (earlier ++ w ∷ later) i
listed_on [] later w i h = inr h
listed_on (v ∷ vs) later w i h =
    elim h [
      | inl e ↦ inl e
      | inr t ↦ inr (listed_on vs later w i t)
    ]

listed_now : (earlier later : List Wait) (w : Wait) → IsListed (earlier ++ w ∷ later) w.job
listed_now [] later w = inl refl
listed_now (v ∷ vs) later w = inr (listed_now vs later w)

same_or_other : (i j : ℕ) → (i ≡ j) ⊎ (i ≢ j)
same_or_other zero zero = inl refl
same_or_other zero (suc j) = inr (λ e. omega (arith, e))
same_or_other (suc i) zero = inr (λ e. omega (arith, e))
same_or_other (suc i) (suc j) =
    elim (same_or_other i j) [
      | inl e ↦ inl (ap suc e)
      | inr n ↦ inr (λ e. n (omega (arith, e)))
    ]

pub waits_more : (slots : List Slot) (old new : List Wait) (w : Wait) → Adds old new w → OthersAreBroughtOn w.job slots old → AreBroughtOn slots new
waits_more slots old new w adds all i job here =
    let P : List Wait → Type 0 = λ ws. IsListed ws i in
    elim (same_or_other i w.job) [
      | inl e ↦ subst P (sym adds.is) (subst (IsListed (adds.earlier ++ w ∷ adds.later)) (sym e) (listed_now adds.earlier adds.later w))
      | inr n ↦ subst P (sym adds.is) (listed_on adds.earlier adds.later w i (subst P adds.kept (all i job n here)))
    ]

-- one is taken from it
pub waits_less : (slots : List Slot) (old new : List Wait) (now at : ℕ) → PopsDue now old (Some at) new → AreBroughtOn slots old → OthersAreBroughtOn at slots new
waits_less slots old new now at popped all i job apart here =
    let P : List Wait → Type 0 = λ ws. IsListed ws i in
    elim (subst P popped.2 (all i job here)) [
      | inl e ↦ absurd (apart (sym e))
      | inr t ↦ t
    ]
