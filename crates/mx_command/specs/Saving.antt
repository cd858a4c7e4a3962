-- What a command line of `save` may ask for.
use Rattle.std.specs.Prelude.{◌≡◌, ◌≢◌, ℕ, ◌^◌, ◌≤◌, ◌<◌, true, [], IfSome}
use Rattle.mx_types.specs.Limits.{IsHistory}
use Rattle.mx_run_io.specs.Options.{are_within}
use Rattle.mx_command.specs.declared.save.Save.{Save}
use Rattle.mx_command.specs.declared.save.SaveNumbers.{SaveNumbers}

-- rule save-limit: Each body has the limit of bytes that is asked for, 1 to 9,223,372,036,854,775,807, or none.
--
-- a limit of the bytes of a body
abbrev pub IsBodyLimit : ℕ → Type 0
IsBodyLimit limit = (1 ≤ limit) × (limit < 2 ^ 63)

-- each number is within its limits
pub record AreSaveNumbers (n : SaveNumbers) : Type 0 where
  pub options : are_within n.options ≡ true
  pub history : IsHistory n.history
  pub most_bytes : IfSome n.most_bytes IsBodyLimit

-- rule save-folder-name: The folder of the files has a name: an empty one would stand for the root of the file system.
--
-- what `save` may be asked for
pub record IsSaveAsked (save : Save) : Type 0 where
  pub numbers : AreSaveNumbers save.numbers
  pub folder : save.into.now ≢ []
