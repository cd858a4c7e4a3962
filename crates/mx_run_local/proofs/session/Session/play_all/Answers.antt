use Rattle.std.proofs.Common.{rules, inl, inr, ◌∙◌, ◌<◌, ◌≤◌, ◌+◌, ◌*◌, length, take, arith, ℕ, subst, sym}
use Rattle.std.proofs.KnownBytes.{Keeps-refl}
use Rattle.std.specs.Io.KnownBytes.{Keeps}
use Rattle.std.proofs.lemmas.List.{length-take}
use Rattle.mx_run_local.specs.declared.session.Turn.TheVariants as turn
use Rattle.mx_run_local.proofs.ScriptReading.{unread, at_end, turned_as, goes_on_as, bad_over, short_over}
use Rattle.mx_run_local.proofs.session.Session.play_all.Goals as goal

pub returns-in-Err-clause-played : goal.returns-in-Err-clause-played
returns-in-Err-clause-played g c = unread _ _ _ _ _ _ _ c.loop.invariant.played c.in-Err.ensures.bytes

pub returns-then-count-eq0-clause-played : goal.returns-then-count-eq0-clause-played
returns-then-count-eq0-clause-played g c =
    let room : 0 < length c.read.new.buffer = omega arith in
    at_end _ _ _ _ _ _ _ _ _ _ _ _ c.loop.invariant.played c.in-Ok.ensures.bytes c.if-count-eq0.true room c.in_ok-end_line.ensures.played

pub returns-in-Bad-clause-played : goal.returns-in-Bad-clause-played
returns-in-Bad-clause-played g c =
    turned_as _ _ _ _ turn.Bad _ _ _ _ _ _ _ c.loop.invariant.played c.in-Ok.ensures.bytes.0 c.in_ok-take_all.ensures.played c.in-Bad.is bad_over

pub returns-in-NoMemory-clause-played : goal.returns-in-NoMemory-clause-played
returns-in-NoMemory-clause-played g c =
    turned_as _ _ _ _ turn.NoMemory _ _ _ _ _ _ _ c.loop.invariant.played c.in-Ok.ensures.bytes.0 c.in_ok-take_all.ensures.played c.in-NoMemory.is short_over

pub returns-in-Err-clause-asked : goal.returns-in-Err-clause-asked
returns-in-Err-clause-asked g c failed =
    elim c.in-Err.ensures.asked [
      | inl before ↦ inl (c.loop.invariant.first before)
      | inr (inl spent) ↦ inr (inr (omega (arith, spent, c.loop.invariant.most, c.in-Err.ensures.at_least)))
      | inr (inr more) ↦ inr (inl (omega (arith, more, c.loop.invariant.reads)))
    ]

pub loop-preserved : goal.loop-preserved
loop-preserved g c =
    let size : length c.read.new.buffer ≤ 4096 = omega arith in
    let few : length (take c.in-Ok.count c.read.new.buffer) ≤ 4096 = omega (arith, length-take {A = ℕ}) in
    let counted : c.take_all.new.self.lines ≤ (c.loop.counter + 1) * 4096 =
    omega (arith, few, c.loop.invariant.counted, c.in_ok-take_all.ensures.counted) in
    record {
      played = goes_on_as _ _ _ _ _ _ _ _ _ _ _ _ c.loop.invariant.played c.in-Ok.ensures.bytes.0 c.in_ok-take_all.ensures.played c.in-On.is
          c.in_ok-flush-in-On.ensures.bytes;
      counted = counted;
      reads = omega (arith, c.loop.invariant.reads, c.in-Ok.ensures.counted);
      most = c.in-Ok.ensures.most ∙ c.loop.invariant.most;
      first = search rules;
    }

pub returns-clause-played : goal.returns-clause-played
returns-clause-played g c =
    unread _ _ _ _ _ _ _ c.loop.invariant.played
    (subst (λ z. Keeps (g.R.Read.remaining c.loop.input.reader) (g.R.Read.remaining z)) (sym c.stop.ensures.reader) (Keeps-refl _))
