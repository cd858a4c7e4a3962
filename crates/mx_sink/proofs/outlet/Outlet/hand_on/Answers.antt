use Rattle.std.proofs.Common.{◌∙◌, ap, drop}
use Rattle.std.proofs.lemmas.List.{take_rest}
use Rattle.mx_sink.specs.Outlets.{handed_of}
use Rattle.mx_sink.proofs.Puts.{handed_on}
use Rattle.mx_sink.proofs.outlet.Outlet.hand_on.Goals as goal

pub returns-clause-handed : goal.returns-clause-handed
returns-clause-handed g c =
    let got = g.S.Sink.got in
    handed_on (got c.self.inside.sink) c.self.inside.left.items c.self.inside.start c.put_all-taken.result.0 _ (got c.put_all-taken.new.sink) c.put_all-taken.ensures.got
    (take_rest c.as_slice.result.now c.self.inside.start ∙ ap (drop c.self.inside.start) c.as_slice.ensures)
    ∙ ap (handed_of got) c.self.view_is
