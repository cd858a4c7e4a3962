-- What the system refuses.
use Rattle.std.specs.Prelude.{◌≡◌, ◌⊎◌, ℤ, pos, IsSomeAnd}
use Rattle.std.specs.IoError.{raw_os_error}
use Rattle.std.specs.declared.io.Error.{Error}

-- as many files are open as may be: by the system (ENFILE), by the process (EMFILE)
abbrev pub IsFileLimit : ℤ → Type 0
IsFileLimit number = (number ≡ pos 23) ⊎ (number ≡ pos 24)

-- rule gate-file-limit: A connection that can't be begun since the system or the process has as many open files as it may have is known by
-- its error number.
abbrev pub MeetsFileLimit : Error → Type 0
MeetsFileLimit error = IsSomeAnd (raw_os_error error) IsFileLimit
