-- What is said of a URL that failed: its code, and words.
use Rattle.std.specs.Prelude.{◌≡◌, ◌≢◌, ℕ, List, ◌++◌, codes, Option, Some}
use Rattle.mx_types.specs.declared.code.Code.{Code}
use Rattle.mx_types.specs.declared.code.Code.TheVariants as code
use Rattle.mx_folder.specs.declared.errors.FolderError.{FolderError}
use Rattle.mx_folder.specs.declared.errors.FolderError.TheVariants as folder
use Rattle.mx_save.specs.Words.{left_text}
use Rattle.mx_save.specs.declared.error.SaveError.{SaveError}
use Rattle.mx_save.specs.declared.error.SaveError.TheVariants as unsaved
use Rattle.mx_save_rules.specs.Ends.{EndValue, failed_end}
use Rattle.mx_save_rules.specs.declared.code.SaveCode.{SaveCode}
use Rattle.mx_save_rules.specs.declared.code.SaveCode.TheVariants as save
use Rattle.mx_save_rules.specs.declared.end.Transferred.{Transferred}
use Rattle.mx_reason.specs.declared.reason.Reason.{Reason}
use Rattle.mx_chain.specs.Outcomes.{OutcomeValue}
use Rattle.mx_text.specs.Failures.{IsFlowingWhy}
use Rattle.mx_text.specs.Words.{told_text}

-- the words of the code of a transfer that failed, and what its bytes show
abbrev pub IsToldOf : OutcomeValue → List ℕ → Type 0
IsToldOf outcome text = (reason : Option Reason) × IsFlowingWhy outcome reason × (text ≡ told_text outcome.code reason)

-- rule save-failures
-- where it is whole, that its status isn't one of success
pub record IsSaid (outcome : OutcomeValue) (text : List ℕ) : Type 0 where
  pub whole : outcome.code ≡ code.Ok → text ≡ codes "the status of the response isn't 2xx"
  pub failed : outcome.code ≢ code.Ok → IsToldOf outcome text

-- rule save-failures
-- the same of one that ends since its part is left: where it is whole, that its body isn't saved
pub record IsUnsavedSaid (outcome : OutcomeValue) (text : List ℕ) : Type 0 where
  pub whole : outcome.code ≡ code.Ok → text ≡ codes "its body isn't saved"
  pub failed : outcome.code ≢ code.Ok → IsToldOf outcome text

-- the words are these of a whole response, else those of the code and the reason; and then those of a part that is left
pub record IsSaidBy (of_whole : List ℕ) (c : Code) (reason : Option Reason) (part : List ℕ) (left : Option FolderError) (text : List ℕ) : Type 0 where
  pub whole : c ≡ code.Ok → text ≡ of_whole ++ left_text part left
  pub failed : c ≢ code.Ok → text ≡ told_text c reason ++ left_text part left

-- a failed end with these words
pub record IsFailedWith
    (of_whole url : List ℕ) (told_code : SaveCode) (t : Transferred) (c : Code) (reason : Option Reason) (part : List ℕ) (left : Option FolderError)
    (e : EndValue) : Type 0 where
  pub text : List ℕ
  pub said : IsSaidBy of_whole c reason part left text
  pub is : e ≡ failed_end url told_code t (Some text)

-- the code of a refusal of the folder: 27 where it is out of memory, and else 23
abbrev pub folder_code : FolderError → SaveCode
folder_code folder.OutOfMemory = save.Transfer code.OutOfMemory
folder_code _ = save.WriteError

-- the code of a body that wasn't saved
abbrev pub unsaved_code : SaveError → SaveCode
unsaved_code (unsaved.Create e) = folder_code e
unsaved_code (unsaved.Write e) = folder_code e
unsaved_code (unsaved.Flush e) = folder_code e
unsaved_code (unsaved.Place e) = folder_code e
unsaved_code unsaved.OutOfMemory = save.Transfer code.OutOfMemory
