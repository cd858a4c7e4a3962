use Rattle.std.proofs.Common.{List, ℕ, ◌++◌, ap, subst, ◌∙◌}
use Rattle.std.proofs.lemmas.List.{take_rest}
use Rattle.mx_reader.specs.Readers.{ReaderValue, IsFedBy, HandsOn}
use Rattle.mx_reader.specs.Flowing.{flowing}
use Rattle.mx_reader.proofs.StateLemmas.{fed_so, fed_piece, handed_piece}
use Rattle.mx_reader.proofs.flowing.FlowingReader.take.Goals as goal

pub invariant_of-self-2 : goal.invariant_of-self-2
invariant_of-self-2 c =
    let r = c.self.inside in
    fed_so r.stream c.feed.new.self r.behind c.note_all.new.noted c.args.piece.now _ _ c.in_ok-stand.taken r.ended r.keep r.is_all r.fed c.saturating_add-self-inside.result
    r.stand c.stand_by-self-inside.result c.keeps_by-self-inside.result c.in_ok-stand.stand c.self.invariant
    (ap (λ (v : ReaderValue). v.judgement.stand) c.self.view_is ∙ c.requires) c.feed.ensures.exact c.in_ok-stand.ensures.taken
    (c.note_all.ensures ∙ ap (λ (t : List ℕ). r.behind ++ t) (take_rest c.args.piece.now c.in_ok-stand.taken))
    c.in_ok-stand.ensures.stand c.keeps_by-self-inside.ensures c.stand_by-self-inside.ensures c.saturating_add-self-inside.ensures

pub returns-clause-exact : goal.returns-clause-exact
returns-clause-exact c = (invariant_of-self-2 c).reader

pub returns-clause-fed : goal.returns-clause-fed
returns-clause-fed c =
    let r = c.self.inside in
    let going = c.self.invariant.goes_on (ap (λ (v : ReaderValue). v.judgement.stand) c.self.view_is ∙ c.requires) in
    subst (λ (v : ReaderValue). IsFedBy v (flowing c.feed.new.self c.note_all.new.noted c.stand_by-self-inside.result r.ended c.keeps_by-self-inside.result) c.args.piece.now) c.self.view_is
    (fed_piece r.stream c.feed.new.self r.behind c.note_all.new.noted c.args.piece.now _ _ c.in_ok-stand.taken r.ended r.keep r.is_all r.fed 0
    r.stand c.stand_by-self-inside.result c.keeps_by-self-inside.result c.in_ok-stand.ensures.taken (c.self.invariant.none_behind going.more)
    (c.note_all.ensures ∙ ap (λ (t : List ℕ). r.behind ++ t) (take_rest c.args.piece.now c.in_ok-stand.taken)))

pub returns-clause-handed : goal.returns-clause-handed
returns-clause-handed c =
    let r = c.self.inside in
    subst (λ (v : ReaderValue). HandsOn v (flowing c.feed.new.self c.note_all.new.noted c.stand_by-self-inside.result r.ended c.keeps_by-self-inside.result) c.args.out.now.items c.feed.new.out.items) c.self.view_is
    (handed_piece r.stream c.feed.new.self r.behind c.note_all.new.noted c.args.piece.now c.args.out.now.items c.feed.new.out.items c.in_ok-stand.taken r.ended r.keep r.is_all r.fed 0
    r.stand c.stand_by-self-inside.result c.keeps_by-self-inside.result c.in_ok-stand.ensures.taken)
