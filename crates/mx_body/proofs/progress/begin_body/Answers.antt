use Rattle.std.proofs.Common.{sym, arith}
use Rattle.mx_head.specs.Limits.{most_bytes}
use Rattle.mx_body.specs.declared.chunked.place.ChunkedPlace.TheVariants.{Start}
use Rattle.mx_body.proofs.ChunkedRun.{place_after-nil, parts_begun-nil}
use Rattle.mx_body.proofs.progress.begin_body.Goals as goal

pub go_on_chunked-requires-clause-read : goal.go_on_chunked-requires-clause-read
go_on_chunked-requires-clause-read c = record {
  within = omega (arith, c.new-reader.ensures.read);
  place = rw (c.new-reader.ensures.read, c.new-reader.ensures.place) (place_after-nil most_bytes Start);
  parts = rw (c.new-reader.ensures.parts, c.new-reader.ensures.read) (sym (parts_begun-nil most_bytes Start _));
}
