-- A line may go to another thread where its link may. `search` finds it for what a line is made of, so each step is here.
use denote.RattleType.{RattleType}
use denote.Param.Send.{IsSend, struct_send, sendable}
use denote.Struct.Declared.{shape}
use Rattle.std.proofs.Crossing.{crosses}
use Rattle.mx_link.specs.declared.links.Link as link
use Rattle.mx_line.specs.contracts.lines.Line as Line
use Rattle.mx_line.specs.contracts.lines.Line.TheInside as LineInside

line_inside : (L : RattleType) (g : link.Ghosts L.Denot) → IsSend L → IsSend (LineInside.the_field L g).row
line_inside L g s = struct_send (shape (LineInside.the_type L g)) (search (sendable, crosses) depth 40, (search (sendable, crosses) depth 40, (search (sendable, crosses) depth 40, (search (sendable, crosses) depth 40, (search (sendable, crosses) depth 40, (search (sendable, crosses) depth 40, (search (sendable, crosses) depth 40, (search (sendable, crosses) depth 40, (search (sendable, crosses) depth 40, tt)))))))))

pub line_send : (L : RattleType) (g : link.Ghosts L.Denot) → IsSend L → IsSend (Line.the_row L g)
line_send L g s =
    let a = line_inside L g s in
    search (sendable) depth 40 fits 20000
