-- What a note of a gate says.
use Rattle.mx_gate.specs.Said.{Said, told, asked, opened, lacked, waited}
use Rattle.mx_gate.specs.declared.said.Note.{Note}
use Rattle.mx_gate.specs.declared.said.Note.TheVariants as note

abbrev pub said_by : Note → Said
said_by (note.Told moment) = told moment
said_by (note.Asked endpoint can) = asked endpoint.value can
said_by (note.Opened endpoint answer) = opened endpoint.value answer
said_by (note.Lacked files) = lacked files
said_by (note.Waited wait_ms stop) = waited wait_ms stop
