-- The numbers of the codes with which a URL ends (libcurl-errors(3)).
use Rattle.std.specs.Prelude.{ℕ}
use Rattle.mx_types.specs.Code.{code_number}
use Rattle.mx_save_rules.specs.declared.code.SaveCode.{SaveCode}
use Rattle.mx_save_rules.specs.declared.code.SaveCode.TheVariants as code

abbrev pub save_number : SaveCode → ℕ
save_number (code.Transfer c) = code_number c
save_number code.HttpReturnedError = 22
save_number code.WriteError = 23
