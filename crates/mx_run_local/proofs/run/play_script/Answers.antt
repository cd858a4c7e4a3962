use Rattle.std.proofs.Common.{ap, ◌∙◌, refl}
use Rattle.std.specs.Prelude.{Some}
use Rattle.mx_run_local.proofs.Ending.{Begins, prints_nothing, short_as, unread_as, whole_as}
use Rattle.mx_run_local.specs.Run.{fresh}
use Rattle.mx_run_local.specs.declared.session.Turn.TheVariants as turn
use Rattle.mx_run_local.proofs.run.play_script.Goals as goal

pub returns-in_default-clause-answered : goal.returns-in_default-clause-answered
returns-in_default-clause-answered g c alive = prints_nothing _ _ _ _ _ _ _ refl c.end_with.ensures.printed

pub returns-in-Some-NoMemory-clause-answered : goal.returns-in-Some-NoMemory-clause-answered
returns-in-Some-NoMemory-clause-answered g c alive =
    let b : Begins (fresh c.args.history c.args.first) c.new-session.result = record { player = c.new-session.ensures.player ∙ c.in-Ok.ensures; first = c.new-session.ensures.first; empty = c.new-session.ensures.empty } in
    short_as _ _ _ _ _ _ _ _ _ _ _ b c.in_ok-play_all.ensures.played (c.in-Some-NoMemory.is ∙ ap Some c.in-Some-NoMemory.field-0-is) c.end_with-in-Some-NoMemory.ensures.printed

pub returns-clause-unread : goal.returns-clause-unread
returns-clause-unread g c alive failed =
    let b : Begins (fresh c.args.history c.args.first) c.new-session.result = record { player = c.new-session.ensures.player ∙ c.in-Ok.ensures; first = c.new-session.ensures.first; empty = c.new-session.ensures.empty } in
    unread_as _ _ _ _ _ _ _ _ _ b c.in_ok-play_all.ensures.played c.in-None.is c.end_with-in-None.ensures.printed

pub returns-in-Some-On-clause-answered : goal.returns-in-Some-On-clause-answered
returns-in-Some-On-clause-answered g c alive =
    let b : Begins (fresh c.args.history c.args.first) c.new-session.result = record { player = c.new-session.ensures.player ∙ c.in-Ok.ensures; first = c.new-session.ensures.first; empty = c.new-session.ensures.empty } in
    whole_as _ _ _ _ _ turn.On 0 _ _ _ _ b c.in_ok-play_all.ensures.played (c.in-Some-On.is ∙ ap Some c.in-Some-On.field-0-is) (λ x. x)

pub returns-in-Some-Bad-clause-answered : goal.returns-in-Some-Bad-clause-answered
returns-in-Some-Bad-clause-answered g c alive =
    let b : Begins (fresh c.args.history c.args.first) c.new-session.result = record { player = c.new-session.ensures.player ∙ c.in-Ok.ensures; first = c.new-session.ensures.first; empty = c.new-session.ensures.empty } in
    whole_as _ _ _ _ _ turn.Bad 122 _ _ _ _ b c.in_ok-play_all.ensures.played (c.in-Some-Bad.is ∙ ap Some c.in-Some-Bad.field-0-is) (λ x. x)
