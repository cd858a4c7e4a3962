use Rattle.std.proofs.Common.{◌∙◌, ap, sym}
use Rattle.mx_history.specs.History.{may_follow}
use Rattle.mx_history.proofs.Defined.{may_add_by, may_remove_by}
use Rattle.mx_history.proofs.definitions.may_follow.Goals as goal

pub returns-in_ok-added-in-Added : goal.returns-in_ok-added-in-Added
returns-in_ok-added-in-Added c =
    c.may_be_added.ensures
    ∙ may_add_by c.args.events.now c.in-Added.handle c.in-Added.ticket c.deref.result.now c.beyond.result (c.deref.ensures.value ∙ c.in_ok-added-in-Added.ensures) c.beyond.ensures
    ∙ ap (may_follow c.args.events.now) (sym c.in-Added.is)

pub returns-in_ok-added-in-Removed : goal.returns-in_ok-added-in-Removed
returns-in_ok-added-in-Removed c =
    c.is_added.ensures
    ∙ may_remove_by c.args.events.now c.in-Removed.handle c.in-Removed.ticket c.deref-in-Removed.result.now (c.deref-in-Removed.ensures.value ∙ c.in_ok-added-in-Removed.ensures)
    ∙ ap (may_follow c.args.events.now) (sym c.in-Removed.is)
