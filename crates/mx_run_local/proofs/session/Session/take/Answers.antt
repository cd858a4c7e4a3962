use Rattle.std.proofs.Common.{◌∙◌, sym}
use Rattle.std.proofs.lemmas.Bool.{eqb-true}
use Rattle.mx_run_local.proofs.Sessions.{ended_told, long_told}
use Rattle.mx_run_local.proofs.session.Session.take.Goals as goal

pub returns-then-byte-eq10-clause-played : goal.returns-then-byte-eq10-clause-played
returns-then-byte-eq10-clause-played g c =
    ended_told _ _ _ _ _ _ c.requires.unended c.if-byte-eq10.true c.end_line.ensures.played

pub returns-then-is_full-clause-played : goal.returns-then-is_full-clause-played
returns-then-is_full-clause-played g c =
    long_told _ _ _ _ _ _ c.requires.unended c.if-byte-eq10.false (eqb-true _ _ (sym c.is_full.ensures.value ∙ c.if-is_full.true))
    c.bad_line.ensures.turn c.bad_line.ensures.bytes
