use Rattle.std.proofs.Common.{◌∙◌, ap}
use Rattle.mx_desk.proofs.Backs.{is_back, nothing_yet}
use Rattle.mx_desk.proofs.Ties.{told_on}
use Rattle.mx_desk.proofs.seats.add_work.Goals as goal

pub returns-in-Refused-clause-back : goal.returns-in-Refused-clause-back
returns-in-Refused-clause-back g c =
    let back = is_back _ c.add.result _ c.args.work c.in-Refused.work c.add.ensures.stands c.add.ensures.back c.in-Refused.ensures.1 in (
      c.into_parts-request.ensures.request ∙ ap (λ w. w.request) back,
      nothing_yet _ _ (ap (λ w. w.content) back ∙ c.requires) c.into_parts-request.ensures.handed,
    )

pub returns-in-OutOfMemory-clause-back : goal.returns-in-OutOfMemory-clause-back
returns-in-OutOfMemory-clause-back g c =
    let back = is_back _ c.add.result _ c.args.work c.in-OutOfMemory.work c.add.ensures.stands c.add.ensures.back c.in-OutOfMemory.ensures.1 in (
      c.into_parts-request-in-OutOfMemory.ensures.request ∙ ap (λ w. w.request) back,
      nothing_yet _ _ (ap (λ w. w.content) back ∙ c.requires) c.into_parts-request-in-OutOfMemory.ensures.handed,
    )

pub returns-in-Refused-clause-later : goal.returns-in-Refused-clause-later
returns-in-Refused-clause-later g c = told_on c.args.seat.now c.add.new.self _ _ c.add.result _ c.add.ensures.stands

pub returns-in-OutOfMemory-clause-later : goal.returns-in-OutOfMemory-clause-later
returns-in-OutOfMemory-clause-later g c = told_on c.args.seat.now c.add.new.self _ _ c.add.result _ c.add.ensures.stands
