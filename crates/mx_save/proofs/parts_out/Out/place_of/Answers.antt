use Rattle.std.proofs.Common.{◌≡◌, ◌<◌, ◌∙◌, length, map, get_or, ap, arith, sym, subst}
use Rattle.std.specs.List.{Contains}
use Rattle.mx_save.specs.Out.{OutValue}
use Rattle.mx_save.proofs.Outs.{none_further, number_at, place_within}
use Rattle.mx_save.proofs.parts_out.Out.place_of.Goals as goal

pub loop-self-preserved : goal.loop-self-preserved
loop-self-preserved c =
    let parts = c.self.inside.parts.items in
    let numbers = map (λ part. part.number) parts in
    let number = c.args.number in
    let place = c.loop-self.place in
    let has = subst (λ (o : OutValue). Contains o.numbers number) (sym c.self.view_is) c.requires in
    let within : place < length numbers = place_within number numbers place has c.loop-self.invariant.1 in
    let at : get_or numbers place 0 ≡ c.index.result.now.number =
    number_at parts place c.index.result.now within ∙ sym (ap (λ part. part.number) c.index.ensures) in
    (omega (arith, within), none_further number numbers place c.loop-self.invariant.1 (λ e. c.loop-self-test.true (sym at ∙ e)))

pub returns-clause-there : goal.returns-clause-there
returns-clause-there c =
    let parts = c.self.inside.parts.items in
    let numbers = map (λ part. part.number) parts in
    let number = c.args.number in
    let place = c.loop-self.place in
    let has = subst (λ (o : OutValue). Contains o.numbers number) (sym c.self.view_is) c.requires in
    let within : place < length numbers = place_within number numbers place has c.loop-self.invariant.1 in
    sym (ap (λ (o : OutValue). get_or o.numbers place 0) c.self.view_is)
    ∙ number_at parts place c.index.result.now within ∙ sym (ap (λ part. part.number) c.index.ensures) ∙ c.loop-self-test.false
