use Rattle.std.proofs.Common.{◌++◌, take, sym, append-nil}
use Rattle.std.proofs.KnownBytes.{Appends-trans}
use Rattle.mx_run_local.proofs.gather.gather.Goals as goal

pub returns-clause-bytes : goal.returns-clause-bytes
returns-clause-bytes g c = record {
  front = take c.args.held c.args.buffer.now ++ c.args.piece.now;
  written = Appends-trans _ _ _ _ _ c.in_ok-write_all.ensures.bytes c.in_ok-write_all-2.ensures.bytes;
  is = sym (append-nil (take c.args.held c.args.buffer.now ++ c.args.piece.now));
}
