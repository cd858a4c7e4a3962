use Rattle.std.proofs.Common.{◌≡◌, ◌++◌, take, map}
use Rattle.std.specs.String.{string_bytes}
use Rattle.mx_folder.specs.Names.{kept}
use Rattle.mx_folder.proofs.names.add_kept.Given as goal

-- the bytes so far, each as it is kept
abbrev pub invariant-loop-b : goal.invariant-loop-b
invariant-loop-b l = string_bytes l.name ≡ string_bytes l.fn.name ++ map kept (take l.b-index l.bytes)
