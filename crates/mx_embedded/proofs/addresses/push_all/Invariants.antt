use Rattle.std.proofs.Common.{◌++◌, List, length}
use denote.Text.{Utf8}
use denote.Shadow.{shadow}
use Rattle.std.specs.List.{AllZip, Contains, slice_split}
use Rattle.std.specs.declared.net.SocketAddr.{SocketAddr}
use Rattle.std.specs.Net.ToAddrs.{IsHostAndPort}
use Rattle.std.specs.Prelude.{ℕ}
use Rattle.mx_embedded.specs.Hosts.{is_comma}
use Rattle.mx_embedded.proofs.addresses.push_all.Given as goal

-- what is left gives the rest of the addresses, and its pieces are of the text
abbrev pub invariant-loop-piece : goal.invariant-loop-piece
invariant-loop-piece l =
    shadow (Utf8 l.rest)
    × ((more : List SocketAddr) → AllZip (λ piece address. IsHostAndPort piece 0 address) (slice_split is_comma l.rest) more
    → AllZip (λ piece address. IsHostAndPort piece 0 address) (slice_split is_comma l.fn.text) (l.all.items ++ more))
    × ((piece : List ℕ) → Contains (slice_split is_comma l.rest) piece → Contains (slice_split is_comma l.fn.text) piece)

abbrev pub decreases-loop-piece : goal.decreases-loop-piece
decreases-loop-piece l = length l.rest
