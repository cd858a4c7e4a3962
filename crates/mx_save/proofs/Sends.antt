-- A part that a ledger made may go to another thread where its file may.
use denote.RattleType.{RattleType}
use denote.Param.Send.{IsSend, struct_send, sendable}
use denote.Struct.Declared.{shape}
use Rattle.std.proofs.Crossing.{crosses}
use Rattle.mx_folder.specs.declared.folders.PartFile as part
use Rattle.mx_save.specs.contracts.made.Made as Made
use Rattle.mx_save.specs.contracts.made.Made.TheInside as Inside

inside_field : (P : RattleType) (g : part.Ghosts P.Denot) → IsSend P → IsSend (Inside.the_field P g).row
inside_field P g s = struct_send (shape (Inside.the_type P g)) (search (sendable, crosses) depth 40, (search (sendable, crosses) depth 40, (s, tt)))

pub made_send : (P : RattleType) (g : part.Ghosts P.Denot) → IsSend P → IsSend (Made.the_row P g)
made_send P g s =
    let a = inside_field P g s in
    search (sendable) depth 40 fits 20000
