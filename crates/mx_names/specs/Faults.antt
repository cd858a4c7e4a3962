-- The codes of what the system refuses.
use Rattle.std.specs.Prelude.{Bool, true, false, if◌then◌else◌}
use Rattle.std.specs.IoError.{error_kind}
use Rattle.std.specs.declared.io.Error.{Error}
use Rattle.std.specs.declared.io.ErrorKind.{ErrorKind}
use Rattle.std.specs.declared.io.ErrorKind.TheVariants as kind
use Rattle.mx_types.specs.declared.code.Code.{Code}
use Rattle.mx_types.specs.declared.code.Code.TheVariants as code

-- memory was refused (ENOMEM)
abbrev pub is_memory : ErrorKind → Bool
is_memory kind.OutOfMemory = true
is_memory _ = false

-- rule gate-codes: A lookup that fails is 6, a connection that can't be made 7, and out of memory 27, whatever was asked for.
abbrev pub fault_code : Code → Error → Code
fault_code other error = if is_memory (error_kind error) then code.OutOfMemory else other
