use Rattle.std.proofs.Common.{length, take, false, ◌-◌, ◌≡◌, ◌≤◌}
use Rattle.mx_head.specs.Limits.{most_bytes}
use Rattle.mx_body.specs.declared.chunked.place.ChunkedPlace.TheVariants.{Start}
use Rattle.mx_body.specs.ChunkedPlace.{place_after, parts_begun, is_settled}
use Rattle.mx_body.proofs.chunked.reader.ChunkedReader.read_on.Given as goal

abbrev pub invariant-loop-read : goal.invariant-loop-read
invariant-loop-read l = record {
  within : l.read ≤ length l.body;
  place : place_after most_bytes Start (take l.read l.body) ≡ l.place;
  parts : l.self.parts.items ≡ parts_begun most_bytes Start l.self.at (take l.read l.body);
  goes_on : is_settled l.place ≡ false;
  counted : l.count ≤ length l.self.parts.items;
  front : take l.count l.self.parts.items ≡ l.initial.self.parts.items;
  at_stays : l.self.at ≡ l.initial.self.at;
  place_stays : l.self.place ≡ l.initial.self.place;
  read_stays : l.self.read ≡ l.initial.self.read;
}

abbrev pub decreases-loop-read : goal.decreases-loop-read
decreases-loop-read l = length l.body - l.read
