-- How the executable definitions return the values of the definitions.
use Rattle.std.specs.Prelude.{ℕ}
use Rattle.mx_types.specs.declared.code.Code.{Code}
use Rattle.mx_types.specs.declared.names.HandleId.{HandleId}
use Rattle.mx_types.specs.declared.names.Ticket.{Ticket}
use Rattle.mx_history.specs.History.{Addition, Message}

abbrev pub addition_pair : Addition → HandleId × Ticket
addition_pair a = (a.handle, a.ticket)

abbrev pub message_parts : Message → Ticket × Code × ℕ
message_parts m = (m.ticket, m.code, m.size)
