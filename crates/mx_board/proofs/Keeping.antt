-- Each step keeps the rule of the published versions.
use Rattle.std.proofs.Common.{◌≡◌, ◌≢◌, ◌<◌, ℕ, List, [], ◌∷◌, ◌++◌, length, length-append, refl, ap, sym, subst, ◌∙◌, ⊎_elim, true, arith}
use Rattle.std.specs.Prelude.{slice_set}
use Rattle.std.proofs.lemmas.Bool.{and_parts}
use mathlib.Core.Option.{some, some-ne-none}
use mathlib.Core.List.{IsPrefix}
use lib.ListN.{get_elem?}
use Rattle.left_right.specs.Register.{Admits, Turns, TurnsAt, Forks, Merges}
use Rattle.atomic_table.proofs.Lists.{at_set, at_snoc}
use Rattle.mx_append_log.specs.Log.{Mark}
use Rattle.mx_append_log.proofs.Prefixes.{prefix_self, prefix_trans}
use Rattle.mx_types.specs.declared.event.Event.{Event}
use Rattle.mx_history.specs.History.{may_follow, is_legal}
use Rattle.mx_history.specs.Table.{table_after}
use Rattle.mx_history.proofs.Snoc.{legal-snoc}
use Rattle.mx_history.proofs.Follows.{table_follows}
use Rattle.mx_board.specs.declared.view.ReaderView.{ReaderView}
use Rattle.mx_board.specs.declared.operation.Operation.{Operation}
use Rattle.mx_board.specs.Board.{mark_of}
use Rattle.mx_board.specs.Published.{Shown, first_view, view_of, IsSound, Agrees, Keeps, CaughtUp, IsWaiting, shown_by}

abbrev pub CatchesUp : ReaderView → Shown → Shown → ReaderView → Type 0
CatchesUp v x y w = CaughtUp v y w

abbrev All : Shown → List ReaderView → Type 0
All x views = (place : ℕ) (v : ReaderView) → get_elem? views place ≡ some v → Agrees x v

new : (x : Shown) → Agrees x first_view
new x = record { later = (x.1.entries, refl); book = λ e. absurd (cc (e)) }

seen : (x : Shown) → Agrees x (view_of x.1)
seen x = record { later = prefix_self x.1.entries; book = λ _. refl }

set_all : (x : Shown) (views : List ReaderView) (place : ℕ) (w : ReaderView) → Agrees x w → All x views → All x (slice_set views place w)
set_all x views place w a all j u e = ⊎_elim (λ (t : (j ≡ place) × (w ≡ u)). subst (Agrees x) t.1 a) (λ (t : (j ≢ place) × (get_elem? views j ≡ some u)). all j u t.1) (at_set views place j w u e)

snoc_all : (x : Shown) (views : List ReaderView) (w : ReaderView) → Agrees x w → All x views → All x (views ++ w ∷ [])
snoc_all x views w a all j u e = ⊎_elim (λ was. all j u was) (λ (same : w ≡ u). subst (Agrees x) same a) (at_snoc views w u j e)

pub begins : (x : Shown) → IsSound x → Keeps x (first_view ∷ [])
begins x sound = (sound, snoc_all x [] first_view (new x) (λ j u e. absurd (some-ne-none u (sym e))))

pub admits : Admits Keeps first_view
admits x views h = (h.0, snoc_all x views first_view (new x) h.1)

pub forks : (place : ℕ) (v : ReaderView) → Forks Keeps place v v v
forks place v x views h at = let a = h.1 place v at in (h.0, snoc_all x (slice_set views place v) v a (set_all x views place v a h.1))

pub merges : (place : ℕ) (v : ReaderView) (other : ℕ) (w : ReaderView) → Merges Keeps place v other w w first_view
merges place v other w x views h at apart there =
    let a : Agrees x w = ⊎_elim (λ (t : (other ≡ place) × (w ≡ w)). absurd (apart t.0)) (λ (t : (other ≢ place) × (get_elem? views other ≡ some w)). h.1 other w t.1) (at_set views place other w w there) in
    (h.0, set_all x (slice_set views place w) other first_view (new x) (set_all x views place w a h.1))

grown : (x y : Shown) (u : ReaderView) → IsPrefix x.1.entries y.1.entries → x.1.book ≡ y.1.book → Agrees x u → Agrees y u
grown x y u up same a = record { later = prefix_trans u.seen x.1.entries y.1.entries a.later up; book = λ t. a.book t ∙ same }

-- the published journal grows, and the place that steps has then seen it
pub grows : (place : ℕ) (v : ReaderView) (x y : Shown) → IsPrefix x.1.entries y.1.entries → x.1.book ≡ y.1.book → IsSound y → TurnsAt Keeps place v x y CatchesUp
grows place v x y up same sound views h at =
    let all : All y views = λ j u e. grown x y u up same (h.1 j u e) in
    (view_of y.1, (sound, set_all y views place (view_of y.1) (seen y) all), (all place v at, sound, refl))

pub reads : (place : ℕ) (v : ReaderView) → Turns Keeps place v (λ x. x) CatchesUp
reads place v x views h at = grows place v x x (prefix_self x.1.entries) refl h.0 views h at

-- what the published version becomes
pub record Follows (x y : Shown) (events : List Event) : Type 0 where
  pub up : IsPrefix x.1.entries y.1.entries
  pub whole : y.1.entries ≡ events
  pub book : x.1.book ≡ y.1.book
  pub sound : IsSound y

pub follows : (x : Shown) (ops : List Operation) (events : List Event) → IsSound x → IsWaiting ops x.1 events → is_legal events ≡ true → length events < 4294967295 → Follows x (shown_by x ops) events
follows x [] events sound wait legal few = record { up = prefix_self x.1.entries; whole = sym wait; book = refl; sound = sound }
follows x (o ∷ []) events sound wait legal few =
    let all : events ≡ x.1.entries ++ o.event ∷ [] = wait.1 in
    let parts = and_parts (is_legal x.1.entries) (may_follow x.1.entries o.event.what) (sym (legal-snoc x.1.entries o.event) ∙ ap is_legal (sym all) ∙ legal) in
    let t = table_follows x.1.entries x.0 o.event sound.table sound.sized parts.1 (omega (arith, few, ap length all, length-append x.1.entries (o.event ∷ []))) in
    let P : Mark Event → Type 0 = λ m. Follows x (table_after x.0 o.event, mark_of (m.entries ++ o.event ∷ []) m.book) events in
    subst P (sym wait.0) (record { up = (o.event ∷ [], refl); whole = sym all; book = refl; sound = record { table = t.0; sized = t.1 } })
follows x (o ∷ p ∷ ops) events sound wait legal few = absurd wait

pub publishes : (place : ℕ) (v : ReaderView) (x y : Shown) (ops : List Operation) (events : List Event) → IsSound x → IsWaiting ops x.1 events → is_legal events ≡ true → length events < 4294967295 → y ≡ shown_by x ops → TurnsAt Keeps place v x y CatchesUp
publishes place v x y ops events sound wait legal few is =
    let f = follows x ops events sound wait legal few in
    subst (λ z. TurnsAt Keeps place v x z CatchesUp) (sym is) (grows place v x (shown_by x ops) f.up f.book f.sound)
