use Rattle.std.proofs.Common.{◌+◌, ap, sym, subst, ◌∙◌}
use Rattle.std.specs.Io.KnownBytes.{Appends}
use Rattle.mx_run_io.specs.Ends.{writer_of}
use Rattle.mx_run_local.specs.Texts.{said_text}
use Rattle.mx_run_local.specs.Players.{said_of}
use Rattle.mx_run_local.specs.declared.session.Session.{Session}
use Rattle.mx_run_local.proofs.Sessions.{silent_told, call_told, retire_told, bad_told}
use Rattle.mx_run_local.proofs.session.Session.end_line.Goals as goal
use Rattle.mx_run_local.proofs.session.Session.end_line.Goals.{in-Silent, in-Call+in-Ok+in_ok-write_said-in-Ok, in-Retire+in_ok-write_said-in-Retire}

pub returns-in-Bad-clause-played : goal.returns-in-Bad-clause-played
returns-in-Bad-clause-played g c =
    bad_told _ _ _ _ _ _ _ c.in-Bad.is c.read_line.ensures c.as_slice.ensures.value c.bad_line.ensures.turn c.bad_line.ensures.bytes

pub returns-clause-played : goal.returns-clause-played
returns-clause-played g c =
    elim c.match-read_line.branch [
      | in-Silent w ↦
          silent_told _ _ _ _ _ _ w.in-Silent.is c.read_line.ensures c.as_slice.ensures.value (ap (λ (z : Session). z.player) w.self-is)
          (ap (λ (z : Session). z.lines + 1) w.self-is) c.clear.ensures (ap (λ o. g.W.Write.contents (writer_of o)) w.output-is)
      | in-Call+in-Ok+in_ok-write_said-in-Ok w ↦
          call_told _ _ _ _ _ _ _ _ w.in-Call.is c.read_line.ensures c.as_slice.ensures.value w.in-Ok.ensures.0
          (subst (λ o. Appends (g.W.Write.contents (writer_of c.args.output.now)) (g.W.Write.contents (writer_of o)) (said_text (said_of w.call.new.self w.in-Ok.said))) (sym w.output-is)
          w.in_ok-write_said-in-Ok.ensures.bytes)
          (ap (λ (z : Session). z.player) w.self-is ∙ w.in-Ok.ensures.1) (ap (λ (z : Session). z.lines + 1) w.self-is) c.clear.ensures
      | in-Retire+in_ok-write_said-in-Retire w ↦
          retire_told _ _ _ _ _ _ _ w.in-Retire.is c.read_line.ensures c.as_slice.ensures.value w.retire-said.ensures.0
          (subst (λ o. Appends (g.W.Write.contents (writer_of c.args.output.now)) (g.W.Write.contents (writer_of o)) (said_text (said_of w.retire-said.new.self w.retire-said.result))) (sym w.output-is)
          w.in_ok-write_said-in-Retire.ensures.bytes)
          (ap (λ (z : Session). z.player) w.self-is ∙ w.retire-said.ensures.1) (ap (λ (z : Session). z.lines + 1) w.self-is) c.clear.ensures
    ]
