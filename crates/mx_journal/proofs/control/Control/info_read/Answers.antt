use Rattle.std.proofs.Common.{◌≡◌, [], refl, arith, rules}
use Rattle.std.specs.Option.{IsSome}
use Rattle.std.proofs.lemmas.Grind.{common_steps}
use Rattle.mx_journal.proofs.Controls.{control-read_first, may_read_first, endings_few}
use Rattle.mx_types.specs.declared.event.What.TheVariants as what
use Rattle.mx_journal.proofs.OriginLists.{begun-then, origins-then}
use Rattle.mx_types.specs.declared.call.Call.TheVariants as call
use Rattle.mx_types.specs.declared.reply.Reply.TheVariants as reply
use Rattle.mx_history.specs.Answers.{answer, only}
use Rattle.mx_history.specs.History.{Opening}
use Rattle.mx_journal.proofs.Calling.{answers_alone, called_none, called_refused, reading_none, reading_some}
use Rattle.mx_journal.proofs.control.Control.info_read.Goals as goal

pub overflow_cast-left : goal.overflow_cast-left
overflow_cast-left g c =
    let s = c.self.invariant.kept.sound in
    let few = endings_few g.O.Ending.code_of g.O.Ending.size_of c.self.inside.journal.items c.self.inside.endings.items s.kept.legal s.waits in
    omega (arith, few, c.self.inside.endings.ok.0, c.remove-ending.ensures.len, c.len-left.ensures)

pub invariant_of-self : goal.invariant_of-self
invariant_of-self g c =
    record {
      tabled = c.enter.ensures.tabled;
      kept = rw (c.enter.ensures.items, c.remove-ending.ensures.items, c.remove-ending.ensures.capacity)
          (control-read_first g.O.Ending.code_of g.O.Ending.size_of c.self.inside.history c.self.inside.journal.items c.args.who c.in-Some.row.ticket c.self.inside.endings.items c.self.inside.queue.items _ _
          c.self.invariant.kept (rw (← c.self.view_is) at c.in-Some.ensures.ticket));
      begun = rw c.enter.ensures.items (begun-then _ c.self.inside.journal.items c.args.who (what.Read c.in-Some.row.ticket) c.self.inside.before c.self.invariant.begun (omega arith));
      origins = rw c.enter.ensures.items
          (origins-then g.Q.Work.origin _ c.self.inside.journal.items c.args.who (what.Read c.in-Some.row.ticket) _ c.self.inside.queue.items c.self.inside.queue.items
          c.self.invariant.origins refl c.self.invariant.origins.own);
    }

pub enter-requires-clause-may : goal.enter-requires-clause-may
enter-requires-clause-may g c =
    may_read_first g.O.Ending.code_of g.O.Ending.size_of c.self.inside.journal.items c.in-Some.row.ticket c.self.inside.endings.items c.self.invariant.kept.sound.waits (rw (← c.self.view_is) at c.in-Some.ensures.ticket)

pub returns-clause-endings : goal.returns-clause-endings
returns-clause-endings g c = search rules

pub returns-clause-own : goal.returns-clause-own
returns-clause-own g c = search rules

pub returns-then-is_err-clause-called : goal.returns-then-is_err-clause-called
returns-then-is_err-clause-called g c =
    let opening : Opening = record { history = c.self.inside.history; first = c.self.inside.first; from = c.self.inside.from } in
    let some : IsSome (answer c.args.self.now.opening c.args.self.now.journal call.InfoRead).1 =
    rw (← c.self.view_is)
    (reading_some g.O.Ending.code_of g.O.Ending.size_of opening c.self.inside.journal.items c.in-Some.row.ticket c.self.inside.endings.items c.self.invariant.kept.sound.waits
    (rw (← c.self.view_is) at c.in-Some.ensures.ticket)) in
    called_refused g.L.Log.events g.L.Log.name g.L.Log.may_refuse c.args.who call.InfoRead c.args.self.now c.args.log.now c.append.new.self some (search rules) c.append.ensures.same (search rules)

pub returns-in_default-clause-called : goal.returns-in_default-clause-called
returns-in_default-clause-called g c =
    let core = c.args.self.now in
    let opening : Opening = record { history = c.self.inside.history; first = c.self.inside.first; from = c.self.inside.from } in
    let none : core.endings ≡ [] = search rules in
    let told : answer core.opening core.journal call.InfoRead ≡ only reply.Empty =
    rw (← c.self.view_is)
    (reading_none g.O.Ending.code_of g.O.Ending.size_of opening c.self.inside.journal.items c.self.inside.endings.items c.self.invariant.kept.sound.waits (rw (← c.self.view_is) at none)) in
    called_none g.L.Log.events g.L.Log.name g.L.Log.may_refuse c.args.who call.InfoRead core c.args.log.now reply.Empty
    (answers_alone core.opening c.args.who call.InfoRead core.journal reply.Empty told) refl refl

pub returns-clause-called : goal.returns-clause-called
returns-clause-called g c = grind (arith, common_steps)
