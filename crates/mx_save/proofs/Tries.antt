-- What the folder refuses of a save, one try after the other.
use Rattle.std.proofs.Common.{◌≡◌, ℕ, suc, ◌<◌, true, List, [], ◌∷◌, ◌++◌, Option, Some, None, Result, Ok, Err, refl, ap, ◌∙◌}
use Rattle.std.specs.Prelude.{IfErr}
use Rattle.mx_folder.specs.Names.{part_of}
use Rattle.mx_folder.specs.Steps.{refused_calls}
use Rattle.mx_folder.specs.declared.errors.FolderError.{FolderError}
use Rattle.mx_folder.specs.declared.errors.FolderError.TheVariants as why
use Rattle.mx_folder.specs.declared.steps.FolderCall.TheVariants as call
use Rattle.mx_folder.specs.declared.steps.Step.{Step}
use Rattle.mx_folder.specs.declared.steps.Step.TheVariants.{Refused}
use Rattle.mx_save.specs.declared.error.SaveError.{SaveError}
use Rattle.mx_save.specs.declared.error.SaveError.TheVariants as error
use Rattle.mx_save.specs.Ledgers.{LedgerValue, is_taken, is_there, most_parts}
use Rattle.mx_save.specs.Tries.{AreTried, IsRefusedBy, IsRefusedOnce, next_number, number_after, refusal_of, removal_of, taken_parts}

pub err_weaker : {A E : Type 0} (P Q : E → Type 0) (r : Result A E) → ((x : E) → P x → Q x) → IfErr r P → IfErr r Q
err_weaker P Q (Ok a) f p = tt
err_weaker P Q (Err x) f p = f x p

-- so many parts were tried, the names of all of which were taken
pub record AreTaken {B : Type 0} (old new : LedgerValue B) (taken : ℕ) : Type 0 where
  pub process : new.process ≡ old.process
  pub number : new.number ≡ number_after taken old.number
  pub calls : refused_calls new.steps ≡ taken_parts old.process old.number taken ++ refused_calls old.steps

pub taken_none : {B : Type 0} (l : LedgerValue B) → AreTaken l l 0
taken_none l = record { process = refl; number = refl; calls = refl }

there_is : (w : FolderError) → is_there w ≡ true → w ≡ why.AlreadyThere
there_is why.AlreadyThere is = refl
there_is why.NotThere is = absurd (cc)
there_is why.Denied is = absurd (cc)
there_is why.Full is = absurd (cc)
there_is why.TooManyOpen is = absurd (cc)
there_is why.TooLarge is = absurd (cc)
there_is why.NotOpen is = absurd (cc)
there_is why.OutOfMemory is = absurd (cc)
there_is why.Failed is = absurd (cc)

-- one try found the name of its part taken
taken_once : {B : Type 0} (mid new : LedgerValue B) (e : SaveError) (part : Option (List ℕ)) (left : Option FolderError) → IsRefusedOnce mid new e part left → is_taken e left ≡ true
    → refused_calls new.steps ≡ Refused call.Create (part_of mid.process mid.number) why.AlreadyThere ∷ refused_calls mid.steps
taken_once mid new (error.Create w) (Some part) None once is =
    once.2 ∙ ap (λ q. Refused call.Create q w ∷ refused_calls mid.steps) once.1
    ∙ ap (λ x. Refused call.Create (part_of mid.process mid.number) x ∷ refused_calls mid.steps) (there_is w is)
taken_once mid new (error.Create w) None None once is = absurd (let no : error.Create w ≡ error.OutOfMemory = once.0 in cc)
taken_once mid new (error.Create w) part (Some l) once is = absurd (cc)
taken_once mid new (error.Write w) part left once is = absurd (cc)
taken_once mid new (error.Flush w) part left once is = absurd (cc)
taken_once mid new (error.Place w) part left once is = absurd (cc)
taken_once mid new error.OutOfMemory part left once is = absurd (cc)

pub taken_more : {B : Type 0} (old mid new : LedgerValue B) (taken : ℕ) (e : SaveError) (part : Option (List ℕ)) (left : Option FolderError) → AreTaken old mid taken
    → (new.process ≡ mid.process) × (new.number ≡ next_number mid.number) → IsRefusedOnce mid new e part left → is_taken e left ≡ true → AreTaken old new (suc taken)
taken_more old mid new taken e part left before next once is = record {
  process = next.0 ∙ before.process;
  number = next.1 ∙ ap next_number before.number;
  calls = taken_once mid new e part left once is
      ∙ ap (λ p. Refused call.Create (part_of p mid.number) why.AlreadyThere ∷ refused_calls mid.steps) before.process
      ∙ ap (λ n. Refused call.Create (part_of old.process n) why.AlreadyThere ∷ refused_calls mid.steps) before.number
      ∙ ap (λ l. Refused call.Create (part_of old.process (number_after taken old.number)) why.AlreadyThere ∷ l) before.calls;
}

-- the last try
last_tried : {B : Type 0} (old mid new : LedgerValue B) (taken : ℕ) (part : List ℕ) (refused : List Step) → taken < most_parts → AreTaken old mid taken
    → (new.process ≡ mid.process) × (new.number ≡ next_number mid.number) → part ≡ part_of mid.process mid.number
    → refused_calls new.steps ≡ refused ++ refused_calls mid.steps → AreTried old new part refused
last_tried old mid new taken part refused few before next named calls = record {
  taken = taken;
  few = few;
  process = next.0 ∙ before.process;
  number = next.1 ∙ ap next_number before.number;
  part = named ∙ ap (λ p. part_of p mid.number) before.process ∙ ap (part_of old.process) before.number;
  calls = calls ∙ ap (λ l. refused ++ l) before.calls;
}

pub refused_last : {B : Type 0} (old mid new : LedgerValue B) (taken : ℕ) (e : SaveError) (part : Option (List ℕ)) (left : Option FolderError) → taken < most_parts
    → AreTaken old mid taken → (new.process ≡ mid.process) × (new.number ≡ next_number mid.number) → IsRefusedOnce mid new e part left → IsRefusedBy old new e part left
refused_last old mid new taken e None left few before next once =
    (once.0, once.1, part_of mid.process mid.number, last_tried old mid new taken (part_of mid.process mid.number) [] few before next refl once.2)
refused_last old mid new taken e (Some part) left few before next once =
    (once.0, last_tried old mid new taken part (removal_of part left ++ refusal_of part e) few before next once.1 once.2)
