use Rattle.std.proofs.Common.{◌≡◌, ◌∙◌, ap, arith, refl, rules, sym, true}
use Rattle.std.proofs.lemmas.Grind.{common_steps}
use Rattle.std.specs.Prelude.{not}
use Rattle.std.specs.Option.{option_map}
use Rattle.mx_history.specs.declared.row.Row.{Row}
use Rattle.mx_journal.specs.Replies.{pausing_call}
use Rattle.mx_journal.proofs.Calling.{called_none, pausing, pausing_answers}
use Rattle.mx_types.specs.declared.reply.Reply.TheVariants as reply
use Rattle.mx_journal.proofs.control.Control.turn.Goals as goal

pub returns-clause-called : goal.returns-clause-called
returns-clause-called g c =
    let j = c.self.inside.journal.items in
    let row = c.in-Some.ensures.row j c.self.invariant.tabled.table in
    let runs : c.is_open.result ≡ true = search rules in
    let held : c.is_paused.result ≡ not c.args.pauses = grind (arith, common_steps) in
    let is : c.if-pauses.what ≡ pausing c.args.pauses c.in-Some.row.ticket = grind (arith, common_steps) in
    c.append_pausing.ensures.called (pausing_call c.args.pauses c.args.handle)
    (rw (← c.self.view_is) (pausing_answers (record { history = c.self.inside.history; first = c.self.inside.first; from = c.self.inside.from }) j c.args.handle c.in-Some.row.ticket c.args.pauses c.if-pauses.what
    (sym (c.row_of_handle.ensures.ticket j c.self.invariant.tabled.table) ∙ ap (option_map (λ (r : Row). r.ticket)) c.in-Some.is)
    (row.runs ∙ sym c.is_open.ensures ∙ runs) (row.held ∙ sym c.is_paused.ensures ∙ held) is))

pub returns-in_default-clause-called : goal.returns-in_default-clause-called
returns-in_default-clause-called g c =
    called_none g.L.Log.events g.L.Log.name g.L.Log.may_refuse c.args.who (pausing_call c.args.pauses c.args.handle) c.args.self.now c.args.log.now reply.NotAdded (grind (arith, common_steps)) refl refl

pub returns-then-not-is_open-clause-called : goal.returns-then-not-is_open-clause-called
returns-then-not-is_open-clause-called g c =
    called_none g.L.Log.events g.L.Log.name g.L.Log.may_refuse c.args.who (pausing_call c.args.pauses c.args.handle) c.args.self.now c.args.log.now reply.NotRunning (grind (arith, common_steps)) refl refl

pub returns-then-is_paused-pauses-clause-called : goal.returns-then-is_paused-pauses-clause-called
returns-then-is_paused-pauses-clause-called g c =
    called_none g.L.Log.events g.L.Log.name g.L.Log.may_refuse c.args.who (pausing_call c.args.pauses c.args.handle) c.args.self.now c.args.log.now reply.NoChange (grind (arith, common_steps)) refl refl
