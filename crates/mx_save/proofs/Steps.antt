-- What single steps leave.
use Rattle.std.proofs.Common.{◌≡◌, ◌≢◌, ℕ, ◌≤◌, Bool, true, false, cond, List, [], ◌∷◌, get_or, Option, Some, None, Result, Ok, Err, refl, ap, sym, ◌∙◌, arith, inl, inr}
use Rattle.std.specs.Prelude.{◌⊎◌}
use Rattle.std.specs.Str.{bytes_eq}
use Rattle.std.proofs.lemmas.Bool.{cond-true, cond-false, false_from_ne_true, cases_Bool}
use Rattle.std.proofs.lemmas.Slice.Eq.{bytes_eq-Decides}
use Rattle.mx_folder.specs.Safe.{IsSafeName, IsPartName}
use Rattle.mx_folder.specs.declared.errors.FolderError.{FolderError}
use Rattle.mx_folder.specs.declared.steps.FolderCall.{FolderCall}
use Rattle.mx_folder.specs.declared.steps.Step.{Step}
use Rattle.mx_folder.specs.declared.steps.Step.TheVariants.{Created, Placed, Removed, Refused}
use Rattle.mx_folder.specs.Steps.{done, refusals}
use Rattle.mx_folder.specs.Files.{File, holding, file}
use Rattle.mx_save.specs.Bodies.{FilesAreKept, IsGone, IsOnlyPart, IsBeforeOrAfter, LeavesOnly}

pub same_name : (name : List ℕ) → bytes_eq name name ≡ true
same_name name = (bytes_eq-Decides name name).1 refl

pub other_name : (name part : List ℕ) → name ≢ part → bytes_eq name part ≡ false
other_name name part differ = false_from_ne_true (bytes_eq name part) (λ e. differ ((bytes_eq-Decides name part).0 e))

-- no file has the name of a part
pub not_part : (name part : List ℕ) → IsSafeName name → IsPartName part → name ≢ part
not_part name part safe hidden e = safe.shown (ap (λ l. get_or l 0 0) e ∙ hidden.hidden)

-- steps on the part alone
pub only_now : (part : List ℕ) (old : List Step) → IsOnlyPart part old old
only_now part old found name differ = refl

pub only_created : (part : List ℕ) (old between : List Step) → IsOnlyPart part old between → IsOnlyPart part old (Created part ∷ between)
only_created part old between h found name differ = cond-false (bytes_eq name part) _ (file found between name) (other_name name part differ) ∙ h found name differ

pub only_removed : (part : List ℕ) (old between : List Step) → IsOnlyPart part old between → IsOnlyPart part old (Removed part ∷ between)
only_removed part old between h found name differ = cond-false (bytes_eq name part) _ (file found between name) (other_name name part differ) ∙ h found name differ

-- the same of a call that may be refused
pub only_done : {T : Type 0} (result : Result T FolderError) (step : Step) (part : List ℕ) (old between : List Step) → IsOnlyPart part old between → IsOnlyPart part old (step ∷ between) → IsOnlyPart part old (done result step ∷ between)
only_done (Ok x) step part old between h g = g
only_done (Err e) step part old between h g = h

-- refused calls are counted
pub done_grows : {T : Type 0} (result : Result T FolderError) (step : Step) (steps : List Step) → refusals steps ≤ refusals (step ∷ steps) → refusals steps ≤ refusals (done result step ∷ steps)
done_grows (Ok x) step steps h = h
done_grows (Err e) step steps h = omega arith

-- a part gets its name
pub before_or_after_placed : (part final body : List ℕ) (flushed : Bool) (old between : List Step) → IsOnlyPart part old between
    → IsBeforeOrAfter part final body flushed old (Placed part final body flushed ∷ between)
before_or_after_placed part final body flushed old between only found name differ =
    let other : file found between name ≡ file found old name = only found name differ in
    let here = Some (holding body flushed) in
    let there = cond (bytes_eq name part) None (file found between name) in
    elim (cases_Bool (bytes_eq name final)) [
      | inl is ↦ inr ((bytes_eq-Decides name final).0 is, cond-true (bytes_eq name final) here there is)
      | inr not ↦ inl (cond-false (bytes_eq name final) here there not ∙ cond-false (bytes_eq name part) None (file found between name) (other_name name part differ) ∙ other)
    ]

pub only_is_before : (part final body : List ℕ) (flushed : Bool) (old moment : List Step) → IsOnlyPart part old moment → IsBeforeOrAfter part final body flushed old moment
only_is_before part final body flushed old moment only found name differ = inl (only found name differ)

pub kept_from_only : (part : List ℕ) (old new : List Step) → IsPartName part → IsOnlyPart part old new → FilesAreKept old new
kept_from_only part old new hidden only found name safe = only found name (not_part name part safe hidden)

-- each other name of a part holds what it held
abbrev pub PartsAreKept : List ℕ → List Step → List Step → Type 0
PartsAreKept part old new = (found : List ℕ → Option File) (name : List ℕ) → IsPartName name → name ≢ part → file found new name ≡ file found old name

pub parts_from_only : (part : List ℕ) (old new : List Step) → IsOnlyPart part old new → PartsAreKept part old new
parts_from_only part old new only found name hidden differ = only found name differ

pub parts_from_placed : (part final body : List ℕ) (flushed : Bool) (old new : List Step) → IsSafeName final → IsBeforeOrAfter part final body flushed old new
    → PartsAreKept part old new
parts_from_placed part final body flushed old new safe placed found name hidden differ =
    elim (placed found name differ) [
      | inl e ↦ e
      | inr p ↦ absurd (not_part final name safe hidden (sym p.0))
    ]

-- parts that are there
pub name_cases : (name part : List ℕ) → (name ≡ part) ⊎ (name ≢ part)
name_cases name part =
    elim (cases_Bool (bytes_eq name part)) [
      | inl is ↦ inl ((bytes_eq-Decides name part).0 is)
      | inr not ↦ inr (λ e. let is : bytes_eq name part ≡ true = (bytes_eq-Decides name part).1 e in cc)
    ]

pub gone_removed : (part : List ℕ) (old : List Step) → IsGone part (Removed part ∷ old)
gone_removed part old found = cond-true (bytes_eq part part) None (file found old part) (same_name part)

pub none_left_refused : (asked : FolderCall) (part : List ℕ) (error : FolderError) (old new : List Step) → new ≡ Refused asked part error ∷ old → LeavesOnly [] old new
none_left_refused asked part error old new e found name hidden = inl (ap (λ l. file found l name) e)

pub one_left : (part : List ℕ) (old new : List Step) → IsOnlyPart part old new → LeavesOnly (part ∷ []) old new
one_left part old new only found name hidden =
    elim (name_cases name part) [
      | inl is ↦ inr (inr (0, omega arith, sym is))
      | inr differ ↦ inl (only found name differ)
    ]
