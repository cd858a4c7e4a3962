-- The work of a run, one URL further.
use Rattle.std.proofs.Common.{◌≡◌, ◌∙◌, refl, ap, sym, subst, ℕ, suc, zero, List, [], ◌∷◌, ◌++◌, Bool, true, false, inl, inr, append_assoc}
use Rattle.std.specs.Prelude.{Option, Some, None, MatchOption, if◌then◌else◌, slice_get, slice_set}
use Rattle.mx_request.specs.Request.{RequestValue}
use Rattle.mx_fetch.proofs.Lists.{cases}
use Rattle.mx_save_book.specs.Books.{IsJobFor, StandsAt, is_unadded}
use Rattle.mx_save_book.specs.Jobs.{Asks, job_at, job_of}
use Rattle.mx_save_rules.specs.declared.asking.Asking.{Asking}
use Rattle.mx_save_book.specs.declared.job.Slot.{Slot}
use Rattle.mx_save_book.specs.declared.job.Slot.TheVariants as slot
use Rattle.mx_save_urls.specs.Feeds.{Gives, IsFed, IsUsedUp, Keeps}
use Rattle.mx_save_urls.specs.Works.{AddsNone}

-- what was read, and what is left
pub fed_first : (given : Option (List (List ℕ))) (urls : List (List ℕ)) → urls ≡ [] → IsFed given urls given false
fed_first given urls none all is = (all, is, ap (λ l. l ++ all) (sym none), λ bad. absurd (cc))

pub fed_kept : (given : Option (List (List ℕ))) (urls : List (List ℕ)) (left now : Option (List (List ℕ))) (is_read : Bool) → IsFed given urls left is_read → Keeps left now → IsFed given urls now is_read
fed_kept given urls left now is_read fed keeps all is = let f = fed all is in (f.0, keeps f.0 f.1, f.2, f.3)

pub fed_ended : (given : Option (List (List ℕ))) (urls : List (List ℕ)) (left now : Option (List (List ℕ))) (is_read : Bool) → IsFed given urls left is_read
    → Keeps left now → IsUsedUp left → IsFed given urls now true
fed_ended given urls left now is_read fed keeps none all is = let f = fed all is in (f.0, keeps f.0 f.1, f.2, λ e. none f.0 f.1)

pub fed_none : {X : Type 0} (given : Option (List (List ℕ))) (urls : List (List ℕ)) (left now : Option (List (List ℕ))) (is_read : Bool) (bytes : X → List ℕ) → IsFed given urls left is_read
    → Gives left None bytes now → IsFed given urls now is_read
fed_none given urls left now is_read bytes fed gives all is =
    let f = fed all is in
    let g = gives f.0 f.1 in
    (g.0, g.1, f.2 ∙ ap (λ l. urls ++ l) g.2, λ e. sym g.2 ∙ f.3 e)

pub fed_more : {X : Type 0} (given : Option (List (List ℕ))) (urls more : List (List ℕ)) (left now : Option (List (List ℕ))) (is_read : Bool) (bytes : X → List ℕ) (x : X) → IsFed given urls left is_read
    → Gives left (Some x) bytes now → more ≡ urls ++ bytes x ∷ [] → IsFed given more now is_read
fed_more given urls more left now is_read bytes x fed gives grown all is =
    let f = fed all is in
    let g = gives f.0 f.1 in (
      g.0,
      g.1,
      f.2 ∙ ap (λ l. urls ++ l) g.2 ∙ sym (append_assoc urls (bytes x ∷ []) g.0) ∙ ap (λ l. l ++ g.0) (sym grown),
      λ e. let none : bytes x ∷ g.0 ≡ [] = sym g.2 ∙ f.3 e in absurd (cc),
    )

-- what was put into a slot that is there is in it
there : (slots : List Slot) (i : ℕ) (old v : Slot) → slice_get slots i ≡ Some old → job_at (slice_set slots i v) i ≡ job_of v
there [] i old v is = absurd (cc)
there (s ∷ ss) zero old v is = refl
there (s ∷ ss) (suc i) old v is = there ss i old v is

pub adds_none : (slots : List Slot) (i : ℕ) (v : Slot) → is_unadded v ≡ true → AddsNone slots (slice_set slots i v)
adds_none slots i v unadded j job ticket number is =
    elim (cases slots i j v (slot.Added job ticket number) is) [
      | inl c ↦ let bad : false ≡ true = sym (ap is_unadded c.1) ∙ unadded in absurd (cc)
      | inr c ↦ c.1
    ]

pub adds_same : (old new : List Slot) → new ≡ old → AddsNone old new
adds_same old new same j job ticket number is = ap (λ l. slice_get l j) (sym same) ∙ is

pub adds_then : (a b c : List Slot) → AddsNone a b → AddsNone b c → AddsNone a c
adds_then a b c h k j job ticket number is = h j job ticket number (k j job ticket number is)

pub adds_standing : (old new : List Slot) (at : ℕ) (text : List ℕ) → StandsAt old new at text → AddsNone old new
adds_standing old new at text s = subst (AddsNone old) (sym s.is) (adds_none old at (slot.Waiting s.job) refl)

-- a URL that is in a slot since has its request
pub stands_for : (asking : Asking) (old new : List Slot) (at : ℕ) (text : List ℕ) (request : RequestValue) → slice_get old at ≡ Some slot.Free → StandsAt old new at text
    → Asks asking text request → IsJobFor asking new at request
stands_for asking old new at text request free s asked = record {
  job = s.job;
  there = ap (λ l. job_at l at) s.is ∙ there old at slot.Free (slot.Waiting s.job) free;
  asked = subst (λ t. Asks asking t request) (sym s.url) asked;
}

-- what follows where something is there, and where a skip was none
pub match_some : {X : Type 0} (P Q : Type 0) (o : Option X) (x : X) → o ≡ Some x → MatchOption o P (λ _. Q) → Q
match_some P Q None x is h = absurd (cc)
match_some P Q (Some y) x is h = h

pub skipped_on : (a b : List Slot) (at : ℕ) (skipped : Bool) → b ≡ (if skipped then slice_set a at slot.Free else a) → AddsNone a b
skipped_on a b at true is = subst (AddsNone a) (sym is) (adds_none a at slot.Free refl)
skipped_on a b at false is = adds_same a b is

pub not_skipped : (a b : List Slot) (at : ℕ) (skipped : Bool) → skipped ≡ false → b ≡ (if skipped then slice_set a at slot.Free else a) → b ≡ a
not_skipped a b at true e is = let bad : true ≡ false = e in absurd (cc)
not_skipped a b at false e is = is
