-- Private: the two modes of a reader.
use Rattle.std.specs.Prelude.{None}
use Rattle.mx_body.specs.Decoder.{Decoded}
use Rattle.mx_reader.specs.Judgements.{judgement_of}
use Rattle.mx_reader.specs.Readers.{ReaderValue}
use Rattle.mx_reader.specs.declared.reader.Mode.{Mode}
use Rattle.mx_reader.specs.declared.reader.Mode.TheVariants as mode

-- what contracts see of each mode
abbrev pub held : Decoded → ReaderValue
held d = record { method = d.method; limit = None; wire = d.wire; ended = d.ended; kept = d.wire; judgement = judgement_of d.verdict }

abbrev pub value_of : Mode → ReaderValue
value_of (mode.Held d) = held d
value_of (mode.Flowing r) = r
