-- A link of a socket gate may go to another thread where threads may share their runtime. `search` doesn't look into it from a call's
-- type, so each step is here.
use denote.RattleType.{RattleType}
use denote.Ref.{NamedLft}
use denote.Param.Send.{IsSend, IsSync, sendable}
use Rattle.std.proofs.Crossing.{crosses}
use Rattle.mx_link.specs.declared.links.Link as link
use Rattle.mx_link.specs.declared.streams.Stream as stream
use Rattle.mx_link.specs.contracts.sockets.TcpSocket as TcpSocket
use Rattle.mx_link.specs.contracts.streams.StreamLink as StreamLink
use Rattle.mx_gate.specs.declared.dialling.Dial as dial
use Rattle.mx_gate.specs.contracts.dialling.DialLink as DialLink
use Rattle.mx_gate.specs.contracts.ready.ReadyLink as ReadyLink
use Rattle.mx_gate.specs.contracts.sockets.SocketDial as SocketDial

tcp_send : (g : stream.Ghosts TcpSocket.the_row.Denot) → IsSend (StreamLink.the_row TcpSocket.the_row g)
tcp_send g = search (sendable, crosses) depth 40 fits 20000

socket_dial_send : (x : NamedLft) (R : RattleType) → IsSync R → IsSend (SocketDial.the_row x R)
socket_dial_send x R r = search (sendable, crosses) depth 40 fits 20000

dial_send : (D L : RattleType) (g : dial.Ghosts D.Denot L.Denot) (h : link.Ghosts L.Denot) → IsSend D → IsSend L → IsSend (DialLink.the_row D L g h)
dial_send D L g h s t = search (sendable, crosses) depth 40 fits 20000

ready_send : (L : RattleType) (g : link.Ghosts L.Denot) → IsSend L → IsSend (ReadyLink.the_row L g)
ready_send L g s = search (sendable, crosses) depth 40 fits 20000

pub link_send : (x : NamedLft) (R : RattleType) (s : stream.Ghosts TcpSocket.the_row.Denot)
    (d : dial.Ghosts (SocketDial.the_row x R).Denot (StreamLink.the_row TcpSocket.the_row s).Denot)
    (l : link.Ghosts (StreamLink.the_row TcpSocket.the_row s).Denot)
    (r : link.Ghosts (DialLink.the_row (SocketDial.the_row x R) (StreamLink.the_row TcpSocket.the_row s) d l).Denot)
    → IsSync R → IsSend (ReadyLink.the_row (DialLink.the_row (SocketDial.the_row x R) (StreamLink.the_row TcpSocket.the_row s) d l) r)
link_send x R s d l r y =
    ready_send (DialLink.the_row (SocketDial.the_row x R) (StreamLink.the_row TcpSocket.the_row s) d l) r
    (dial_send (SocketDial.the_row x R) (StreamLink.the_row TcpSocket.the_row s) d l (socket_dial_send x R y) (tcp_send s))
