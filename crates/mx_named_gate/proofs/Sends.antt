-- A gate that waits for no name may go to another thread, where threads may share its runtime and its resolver's lookup. `search` finds it
-- for what the gate is made of, so each step is here.
use denote.RattleType.{RattleType}
use denote.Ref.{NamedLft}
use denote.Param.Send.{IsSend, IsSync, struct_send, struct_sync, shr_send, sendable}
use denote.Struct.Declared.{shape}
use Rattle.std.proofs.Crossing.{crosses}
use Rattle.mx_names.specs.declared.lookup.Lookup as lookup
use Rattle.mx_names.specs.contracts.names.Names as Names
use Rattle.mx_names.specs.contracts.names.Names.TheInside as NamesInside
use Rattle.mx_names.specs.contracts.resolver.Shared as Shared
use Rattle.mx_names.specs.contracts.resolver.Resolver as Resolver
use Rattle.mx_gate.specs.contracts.sockets.SocketGate as SocketGate
use Rattle.mx_named_gate.specs.contracts.bell.NameBell as NameBell
use Rattle.mx_named_gate.specs.contracts.named.Kept as Kept
use Rattle.mx_named_gate.specs.contracts.named.NamedGate as NamedGate
use Rattle.mx_named_gate.specs.contracts.named.NamedGate.TheInside as Inside

gate_send : (x : NamedLft) (R : RattleType) → IsSync R → IsSend (SocketGate.the_row x R)
gate_send x R r = search (sendable, crosses) depth 40 fits 20000

bell_send : IsSend NameBell.the_row
bell_send = search (sendable, crosses) depth 40 fits 20000

names_inside : (L : RattleType) (g : lookup.Ghosts L.Denot) → IsSend L → IsSend (NamesInside.the_field L g).row
names_inside L g s = struct_send (shape (NamesInside.the_type L g)) (search (sendable, crosses) depth 40 fits 20000, (search (sendable, crosses) depth 40, tt))

names_send : (L : RattleType) (g : lookup.Ghosts L.Denot) → IsSend L → IsSend (Names.the_row L g)
names_send L g s =
    let a = names_inside L g s in
    search (sendable) depth 40 fits 20000

shared_send : (L : RattleType) (g : lookup.Ghosts L.Denot) → IsSend L → IsSend (Shared.the_field L NameBell.the_row g).row
shared_send L g s = struct_send (shape (Shared.the_type L NameBell.the_row g)) (
  search (names_send, sendable, crosses) depth 40,
  (search (bell_send, sendable, crosses) depth 40, (search (sendable, crosses) depth 40, (search (sendable, crosses) depth 40, (s, (search (sendable, crosses) depth 40, tt))))),
)

shared_sync : (L : RattleType) (g : lookup.Ghosts L.Denot) → IsSend L → IsSync L → IsSync (Shared.the_field L NameBell.the_row g).row
shared_sync L g s y = struct_sync (shape (Shared.the_type L NameBell.the_row g)) (
  search (names_send, sendable, crosses) depth 40,
  (search (bell_send, sendable, crosses) depth 40, (search (sendable, crosses) depth 40, (search (sendable, crosses) depth 40, (y, (search (sendable, crosses) depth 40, tt))))),
)

resolver_field : (L : RattleType) (g : lookup.Ghosts L.Denot) → IsSend L → IsSync L → IsSend (Resolver.the_field L NameBell.the_row g).row
resolver_field L g s y =
    let a = shared_send L g s in
    let b = shared_sync L g s y in
    struct_send (shape (Resolver.the_type L NameBell.the_row g)) (search (sendable, crosses) depth 40, tt)

kept_send : (L : RattleType) (g : lookup.Ghosts L.Denot) → IsSend L → IsSend (Kept.the_row L g)
kept_send L g s = search (sendable, crosses) depth 40 fits 20000

inside_field : (x : NamedLft) (R L : RattleType) (g : lookup.Ghosts L.Denot) → IsSync R → IsSend L → IsSync L → IsSend (Inside.the_field x R L g).row
inside_field x R L g r s y = struct_send (shape (Inside.the_type x R L g)) (
  shr_send x.mir x.lft R r,
  (gate_send x R r, (resolver_field L g s y, (search (sendable, crosses) depth 40, (kept_send L g s, (search (sendable, crosses) depth 40, (search (sendable, crosses) depth 40, tt)))))),
)

pub named_send : (x : NamedLft) (R L : RattleType) (g : lookup.Ghosts L.Denot) → IsSync R → IsSend L → IsSync L → IsSend (NamedGate.the_row x R L g)
named_send x R L g r s y =
    let a = inside_field x R L g r s y in
    search (sendable) depth 40 fits 20000
