use Rattle.std.proofs.Common.{◌≡◌, ℕ, ◌+◌, ◌≤◌}
use Rattle.mx_folder.specs.Moments.{IsLater}
use Rattle.mx_folder.specs.Steps.{refusals}
use Rattle.mx_save.specs.Bodies.{FilesAreKept}
use Rattle.mx_save.specs.Ledgers.{most_parts}
use Rattle.mx_save.proofs.Tries.{AreTaken}
use Rattle.mx_save.proofs.ledger.Ledger.make_part.Given as goal

-- no part was made so far, no file was changed, and each try was refused
abbrev pub invariant-loop-tried : goal.invariant-loop-tried
invariant-loop-tried g l = record {
  entries : l.self.entries ≡ l.fn.self.entries;
  start : l.self.start ≡ l.fn.self.start;
  flush : l.self.flush ≡ l.fn.self.flush;
  out : l.self.out ≡ l.fn.self.out;
  left : l.self.left ≡ l.fn.self.left;
  files : FilesAreKept l.fn.self.steps l.self.steps;
  later : IsLater l.fn.self.steps l.self.steps;
  grows : refusals l.fn.self.steps + l.tried ≤ refusals l.self.steps + 1;
  within : l.tried ≤ most_parts;
  taken : ℕ;
  counted : taken + 1 ≡ l.tried;
  tries : AreTaken l.fn.self l.self taken;
}
