-- What calls of a folder leave, one after the other.
use Rattle.std.proofs.Common.{◌≡◌, ◌≢◌, ℕ, ◌≤◌, ◌<◌, ◌+◌, length, List, [], ◌∷◌, ◌++◌, Result, Bool, Option, Some, None, refl, ap, sym, subst, ◌∙◌, arith}
use Rattle.std.proofs.lemmas.List.{length-append}
use Rattle.mx_folder.specs.Safe.{IsPartName}
use Rattle.mx_folder.specs.declared.errors.FolderError.{FolderError}
use Rattle.mx_folder.specs.declared.steps.FolderCall.{FolderCall}
use Rattle.mx_folder.specs.declared.steps.FolderCall.TheVariants as call
use Rattle.mx_folder.specs.declared.steps.Step.{Step}
use Rattle.mx_folder.specs.declared.steps.Step.TheVariants.{Created, Placed, Removed, Looked, FolderFlushed, Refused}
use Rattle.mx_folder.specs.Parts.{PartValue, told, told_of}
use Rattle.mx_folder.specs.Steps.{done, refusals, refused_calls}
use Rattle.mx_folder.specs.Moments.{AtEachMoment}
use Rattle.mx_save.specs.Bodies.{FilesAreKept, IsGone, IsOnlyPart, IsBeforeOrAfter, left_of}
use Rattle.mx_save.specs.Tries.{refusal_of, removal_of, removed_by}
use Rattle.mx_save.specs.declared.error.SaveError.{SaveError}
use Rattle.mx_save.specs.declared.error.SaveError.TheVariants as error
use Rattle.mx_save.proofs.Moments.{at_once, weaker, one_more}
use Rattle.mx_save.proofs.Steps.{only_now, only_done, only_created, only_removed, before_or_after_placed, only_is_before, kept_from_only, gone_removed}

abbrev pub PartMoments : List ℕ → List Step → List Step → Type 0
PartMoments part old new = AtEachMoment (IsOnlyPart part old) old new

-- the last moment
pub at_end : (P : List Step → Type 0) (old new : List Step) → AtEachMoment P old new → P new
at_end P old new all = all.each new all.later ([], refl)

part_step : (part : List ℕ) (old between new : List Step) (step : Step) → PartMoments part old between → new ≡ step ∷ between
    → (IsOnlyPart part old between → IsOnlyPart part old (step ∷ between)) → PartMoments part old new
part_step part old between new step before e f =
    one_more (IsOnlyPart part old) old between new step before e (subst (IsOnlyPart part old) (sym e) (f (at_end (IsOnlyPart part old) old between before)))

pub part_created : {T : Type 0} (result : Result T FolderError) (part : List ℕ) (old new : List Step) → new ≡ done result (Created part) ∷ old → PartMoments part old new
part_created result part old new e =
    part_step part old old new (done result (Created part)) (at_once (IsOnlyPart part old) old (only_now part old)) e
    (λ h. only_done result (Created part) part old old h (only_created part old old h))

-- what was refused to a part that came back
pub part_told : (part name : List ℕ) (calls : List (FolderCall × FolderError)) (old between : List Step) → PartMoments part old between → PartMoments part old (told name calls ++ between)
part_told part name [] old between before = before
part_told part name (c ∷ calls) old between before =
    part_step part old (told name calls ++ between) (told name (c ∷ calls) ++ between) (Refused c.0 name c.1) (part_told part name calls old between before) refl (λ h. h)

only_removal : (left : Option FolderError) (part : List ℕ) (old between : List Step) → IsOnlyPart part old between → IsOnlyPart part old (removed_by left part ∷ between)
only_removal None part old between h = only_removed part old between h
only_removal (Some e) part old between h = h

-- its removal
pub part_removed : (left : Option FolderError) (part : List ℕ) (v : PartValue) (old between new : List Step) → PartMoments part old between → v.name ≡ part
    → new ≡ removed_by left v.name ∷ (told_of v ++ between) → PartMoments part old new
part_removed left part v old between new before is e =
    part_step part old (told_of v ++ between) new (removed_by left part) (part_told part v.name v.refused old between before)
    (e ∙ ap (λ n. removed_by left n ∷ (told_of v ++ between)) is) (λ h. only_removal left part old (told_of v ++ between) h)

-- nothing was done yet
pub nothing_yet : (part : List ℕ) (old : List Step) → PartMoments part old old
nothing_yet part old = at_once (IsOnlyPart part old) old (only_now part old)

-- a part that couldn't get its name was removed
pub part_unplaced : (w : FolderError) (left : Option FolderError) (part : List ℕ) (v u : PartValue) (old between new : List Step) → u.name ≡ part
    → between ≡ Refused call.Place v.name w ∷ (told_of v ++ old) → new ≡ removed_by left u.name ∷ (told_of u ++ between) → PartMoments part old new
part_unplaced w left part v u old between new is first last =
    let refused = part_step part old (told_of v ++ old) between (Refused call.Place v.name w) (part_told part v.name v.refused old old (nothing_yet part old)) first (λ h. h) in
    part_removed left part u old between new refused is last

-- a save that ended before the part had its name
pub unplaced : (part final body : List ℕ) (flushed : Bool) (old new : List Step) → PartMoments part old new → AtEachMoment (IsBeforeOrAfter part final body flushed old) old new
unplaced part final body flushed old new parts =
    weaker (IsBeforeOrAfter part final body flushed old) (IsOnlyPart part old) old new (λ moment h. only_is_before part final body flushed old moment h) parts

pub unplaced_kept : (part : List ℕ) (old new : List Step) → IsPartName part → PartMoments part old new → AtEachMoment (FilesAreKept old) old new
unplaced_kept part old new hidden parts = weaker (FilesAreKept old) (IsOnlyPart part old) old new (λ moment h. kept_from_only part old moment hidden h) parts

-- a save that ended with its name
pub placed : (part final body : List ℕ) (flushed : Bool) (old between new : List Step) → PartMoments part old between → new ≡ Placed part final body flushed ∷ between
    → AtEachMoment (IsBeforeOrAfter part final body flushed old) old new
placed part final body flushed old between new parts e =
    one_more (IsBeforeOrAfter part final body flushed old) old between new (Placed part final body flushed) (unplaced part final body flushed old between parts) e
    (subst (IsBeforeOrAfter part final body flushed old) (sym e)
    (before_or_after_placed part final body flushed old between (at_end (IsOnlyPart part old) old between parts)))

-- a part that was removed is gone
removal_gone : (left : Option FolderError) (part : List ℕ) (between : List Step) → left ≡ None → IsGone part (removed_by left part ∷ between)
removal_gone None part between is = gone_removed part between
removal_gone (Some e) part between is = absurd (cc)

pub removed_gone : (left : Option FolderError) (part : List ℕ) (v : PartValue) (old new : List Step) → v.name ≡ part → new ≡ removed_by left v.name ∷ (told_of v ++ old)
    → left ≡ None → IsGone part new
removed_gone left part v old new is e none =
    let now : new ≡ removed_by left part ∷ (told_of v ++ old) = e ∙ ap (λ n. removed_by left n ∷ (told_of v ++ old)) is in
    subst (IsGone part) (sym now) (removal_gone left part (told_of v ++ old) none)

-- refusals are the refused calls
pub refusals_are : (steps : List Step) → refusals steps ≡ length (refused_calls steps)
refusals_are [] = refl
refusals_are (Created p ∷ steps) = refusals_are steps
refusals_are (Placed p n b f ∷ steps) = refusals_are steps
refusals_are (Removed p ∷ steps) = refusals_are steps
refusals_are (Looked n k ∷ steps) = refusals_are steps
refusals_are (FolderFlushed ∷ steps) = refusals_are steps
refusals_are (Refused c n e ∷ steps) = omega (arith, refusals_are steps)

one_refusal : (part : List ℕ) (e : SaveError) → e ≢ error.OutOfMemory → length (refusal_of part e) ≡ 1
one_refusal part (error.Create w) known = refl
one_refusal part (error.Write w) known = refl
one_refusal part (error.Flush w) known = refl
one_refusal part (error.Place w) known = refl
one_refusal part error.OutOfMemory known = absurd (known refl)

removal_length : (part : List ℕ) (left : Option FolderError) → length (removal_of part left) ≡ length (left_of part left)
removal_length part None = refl
removal_length part (Some e) = refl

counts : (part : List ℕ) (e : SaveError) (left : Option FolderError) (old new : List Step) → e ≢ error.OutOfMemory
    → refused_calls new ≡ (removal_of part left ++ refusal_of part e) ++ refused_calls old → refusals new ≡ refusals old + length (left_of part left) + 1
counts part e left old new known calls =
    omega (
      arith,
      refusals_are old,
      refusals_are new,
      ap length calls,
      length-append (removal_of part left ++ refusal_of part e) (refused_calls old),
      length-append (removal_of part left) (refusal_of part e),
      one_refusal part e known,
      removal_length part left,
    )

pub refusals_grow : (part : List ℕ) (e : SaveError) (left : Option FolderError) (old new : List Step) → e ≢ error.OutOfMemory
    → refused_calls new ≡ (removal_of part left ++ refusal_of part e) ++ refused_calls old → refusals old < refusals new
refusals_grow part e left old new known calls = omega (arith, counts part e left old new known calls)

pub refused_once : (part : List ℕ) (e : SaveError) (left : Option FolderError) (old new : List Step) → e ≢ error.OutOfMemory
    → refused_calls new ≡ (removal_of part left ++ refusal_of part e) ++ refused_calls old → refusals old + length (left_of part left) ≤ refusals new
refused_once part e left old new known calls = omega (arith, counts part e left old new known calls)

-- a part that is left costs a refusal
told_more : (part : List ℕ) (calls : List (FolderCall × FolderError)) (old : List Step) → refusals old ≤ refusals (told part calls ++ old)
told_more part [] old = omega arith
told_more part (c ∷ calls) old = omega (arith, told_more part calls old)

removal_more : (left : Option FolderError) (part : List ℕ) (old : List Step) → refusals old + length (left_of part left) ≤ refusals (removed_by left part ∷ old)
removal_more None part old = omega arith
removal_more (Some e) part old = omega arith

pub removed_more : (left : Option FolderError) (v : PartValue) (old new : List Step) → new ≡ removed_by left v.name ∷ (told_of v ++ old)
    → refusals old + length (left_of v.name left) ≤ refusals new
removed_more left v old new e = omega (arith, ap refusals e, removal_more left v.name (told_of v ++ old), told_more v.name v.refused old)

pub same_refusals : (old new : List Step) → refused_calls new ≡ refused_calls old → refusals new ≡ refusals old
same_refusals old new calls = omega (arith, refusals_are old, refusals_are new, ap length calls)

-- a part that has its name
pub placed_is : (part final content : List ℕ) (flush : Bool) (v : PartValue) (between new : List Step) → v.name ≡ part → v.bytes ≡ content → v.flushed ≡ flush → v.refused ≡ []
    → new ≡ Placed v.name final v.bytes v.flushed ∷ (told_of v ++ between) → new ≡ Placed part final content flush ∷ between
placed_is part final content flush v between new named bytes flushed none now =
    now ∙ ap (λ n. Placed n final v.bytes v.flushed ∷ (told n v.refused ++ between)) named ∙ ap (λ c. Placed part final v.bytes v.flushed ∷ (told part c ++ between)) none
    ∙ ap (λ b. Placed part final b v.flushed ∷ between) bytes ∙ ap (λ f. Placed part final content f ∷ between) flushed
