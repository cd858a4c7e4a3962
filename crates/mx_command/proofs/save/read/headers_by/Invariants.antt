use Rattle.std.proofs.Common.{map, take}
use Rattle.mx_command.specs.Given.{AreHeadersBy}
use Rattle.mx_command.proofs.save.read.headers_by.Given as goal

-- the header fields of the texts so far
abbrev pub invariant-loop-text : goal.invariant-loop-text
invariant-loop-text l = AreHeadersBy (map (λ t. t.now) (take l.text-index l.texts)) l.headers.items
