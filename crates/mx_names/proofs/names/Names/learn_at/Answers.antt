use Rattle.std.proofs.Common.{◌≡◌, ◌&&◌, Bool, ap, sym, subst, ◌∙◌}
use Rattle.std.specs.Prelude.{Some}
use Rattle.std.specs.List.{position, slice_index_or, slice_set}
use Rattle.mx_names.specs.Names.{HostState, Learns, IsTable, is_of, is_under_way, IsOutcome}
use Rattle.mx_names.proofs.Tables.{learns_at, learns_table}
use Rattle.mx_names.proofs.names.Names.learn_at.Goals as goal

learns : goal.returns
learns g c =
    let items = c.self.inside.entries.items in
    let was = c.index_mut.result.now in
    let p : HostState → Bool = λ state. is_of c.args.finding.host state && is_under_way state in
    let at : position p items ≡ Some c.args.place = subst (λ states. position p states ≡ Some c.args.place) (sym c.self.view_is) c.requires in
    let out = c.into_outcome-outcome.ensures.is in
    let there = c.index_mut.ensures.value in
    let learnt : c.learn.new.self ≡ record { host = (slice_index_or items c.args.place was).host; learnt = Some (record { outcome = c.args.finding.outcome; moment = c.args.now }) } =
    c.learn.ensures ∙ (λ i. record { host = (there i).host; learnt = Some (record { outcome = out i; moment = c.args.now }) }) in
    subst (λ states. Learns c.args.finding.host c.args.finding.outcome c.args.now states (slice_set items c.args.place c.learn.new.self)) c.self.view_is
    (learns_at c.args.finding.host c.args.finding.outcome c.args.now items (slice_set items c.args.place c.learn.new.self) c.args.place was at (ap (slice_set items c.args.place) learnt))

pub returns : goal.returns
returns g c = learns g c

pub invariant_of-self : goal.invariant_of-self
invariant_of-self g c =
    let gives = g.L.Lookup.gives in
    let out = c.into_outcome-outcome.ensures in
    learns_table gives c.args.finding.host c.args.finding.outcome c.args.now c.args.self.now (slice_set c.self.inside.entries.items c.args.place c.learn.new.self)
    (subst (λ outcome. IsOutcome gives c.args.finding.host outcome) out.is out.of)
    (learns g c)
    (subst (IsTable gives) c.self.view_is c.self.invariant)
