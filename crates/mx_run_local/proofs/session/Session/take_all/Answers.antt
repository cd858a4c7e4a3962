use Rattle.std.proofs.Common.{◌≤◌, ◌+◌, arith}
use Rattle.mx_run_local.specs.declared.session.Turn.TheVariants as turn
use Rattle.mx_run_local.proofs.ScriptReading.{took_as, took_last, bad_over, short_over}
use Rattle.mx_run_local.proofs.session.Session.take_all.Goals as goal

pub returns-in-Bad-clause-played : goal.returns-in-Bad-clause-played
returns-in-Bad-clause-played g c =
    took_last _ _ _ _ turn.Bad _ _ _ _ _ _ (omega arith) c.loop-byte.invariant.plays c.in_ok-take.ensures.played c.in-Bad.is bad_over

pub returns-in-NoMemory-clause-played : goal.returns-in-NoMemory-clause-played
returns-in-NoMemory-clause-played g c =
    took_last _ _ _ _ turn.NoMemory _ _ _ _ _ _ (omega arith) c.loop-byte.invariant.plays c.in_ok-take.ensures.played c.in-NoMemory.is short_over

pub loop-byte-preserved : goal.loop-byte-preserved
loop-byte-preserved g c =
    let counted : c.take.new.self.lines ≤ c.args.self.now.lines + (c.loop-byte.byte-index + 1) =
    omega (arith, c.loop-byte.invariant.counted, c.in_ok-take.ensures.counted) in
    record {
      plays = took_as _ _ _ _ _ _ _ _ _ _ (omega arith) c.loop-byte.invariant.plays c.in_ok-take.ensures.played c.in-On.is;
      counted = counted;
    }
