use Rattle.std.proofs.Common.{◌≡◌, length, take}
use Rattle.std.specs.List.{All}
use Rattle.std.specs.Net.Socket.{socket_port}
use Rattle.mx_host.proofs.host.decode_all.Given as goal

abbrev pub invariant-loop-at : goal.invariant-loop-at
invariant-loop-at l =
    All (λ address. socket_port address ≡ l.fn.port) (take l.at l.found)
    × (length l.found ≡ length l.fn.found)
