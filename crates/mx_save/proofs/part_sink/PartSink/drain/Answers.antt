use Rattle.std.proofs.Common.{◌∙◌, ap, drop}
use Rattle.std.proofs.lemmas.List.{take_rest}
use Rattle.mx_save.specs.PartSinks.{got_of}
use Rattle.mx_save.proofs.Writes.{got_on}
use Rattle.mx_save.proofs.part_sink.PartSink.drain.Goals as goal

pub returns-in-Some-clause-got : goal.returns-in-Some-clause-got
returns-in-Some-clause-got g c =
    got_on (g.P.PartFile.value c.self.inside.part).bytes c.self.inside.buffer.items c.self.inside.start c.append_until-written.result.0 _
    (g.P.PartFile.value c.append_until-written.new.part).bytes c.append_until-written.ensures.bytes
    (take_rest c.deref.result.now c.self.inside.start ∙ ap (drop c.self.inside.start) c.deref.ensures.value)
    ∙ ap got_of c.self.view_is
