use Rattle.std.proofs.Common.{◌∙◌, arith, inl, inr, rules}
use Rattle.mx_line.proofs.Serves.{reads_none, reads_then, same_request, Serves-none, Serves-going, Serves-open, Serves-connected, Serves-wrote, Serves-heard, Serves-full, Serve-blocked, Serve-lost, Serve-over}
use Rattle.mx_line.proofs.lines.Line.serve_into.Goals.{in-Connected, in-Wrote+else-writes-eq-MOST_WRITES, in-Heard+else-reads-most_reads}
use Rattle.mx_line.proofs.lines.Line.serve_into.Goals as goal

pub loop-turn-preserved : goal.loop-turn-preserved
loop-turn-preserved g c =
    let i = c.loop-turn.invariant in
    elim c.match-ask_next.branch [
      | in-Connected w ↦ record {
        room = c.ask_next.ensures.room ∙ i.room;
        reads = rw w.reads-is i.reads;
        writes = rw w.writes-is i.writes;
        serves = rw (w.reads-is, w.writes-is) (Serves-connected i.serves _ (rw w.in-Connected.is at c.ask_next.ensures.turn));
        handed = reads_then _ _ _ _ _ _ i.handed c.ask_next.ensures.handed;
      }
      | in-Wrote+else-writes-eq-MOST_WRITES w ↦ record {
        room = c.ask_next.ensures.room ∙ i.room;
        reads = rw w.reads-is i.reads;
        writes = rw w.writes-is (omega (arith, i.writes, w.if-writes-eq-MOST_WRITES.false));
        serves = rw (w.reads-is, w.writes-is) (Serves-wrote i.serves _ (rw w.in-Wrote.is at c.ask_next.ensures.turn));
        handed = reads_then _ _ _ _ _ _ i.handed c.ask_next.ensures.handed;
      }
      | in-Heard+else-reads-most_reads w ↦ record {
        room = c.ask_next.ensures.room ∙ i.room;
        reads = rw w.reads-is (omega (arith, i.reads, w.if-reads-most_reads.false));
        writes = rw w.writes-is i.writes;
        serves = rw (w.reads-is, w.writes-is) (Serves-heard i.serves _ (rw w.in-Heard.is at c.ask_next.ensures.turn));
        handed = reads_then _ _ _ _ _ _ i.handed c.ask_next.ensures.handed;
      }
    ]

pub ask_next-requires-clause-open : goal.ask_next-requires-clause-open
ask_next-requires-clause-open g c = Serves-open c.loop-turn.invariant.serves c.requires.open

pub ask_next-requires-clause-going : goal.ask_next-requires-clause-going
ask_next-requires-clause-going g c = Serves-going c.loop-turn.invariant.serves

pub ask_next-requires-clause-about : goal.ask_next-requires-clause-about
ask_next-requires-clause-about g c = same_request c.loop-turn.invariant.serves ∙ c.requires.about

pub loop-turn-init : goal.loop-turn-init
loop-turn-init g c = record {
  room = c.requires.room;
  reads = omega arith;
  writes = omega arith;
  serves = Serves-none _ _ c.requires.going;
  handed = reads_none _ _;
}

pub returns-then-writes-eq-MOST_WRITES-clause-turn : goal.returns-then-writes-eq-MOST_WRITES-clause-turn
returns-then-writes-eq-MOST_WRITES-clause-turn g c =
    let i = c.loop-turn.invariant in Serves-full _ c.requires.some (Serves-wrote i.serves _ c.in-Wrote.ensures.turn) (omega (arith, i.reads)) (omega (arith, i.writes)) (inr c.if-writes-eq-MOST_WRITES.true)

pub returns-then-reads-most_reads-clause-turn : goal.returns-then-reads-most_reads-clause-turn
returns-then-reads-most_reads-clause-turn g c =
    let i = c.loop-turn.invariant in Serves-full _ c.requires.some (Serves-heard i.serves _ c.in-Heard.ensures.turn) (omega (arith, i.reads)) (omega (arith, i.writes)) (inl c.if-reads-most_reads.true)

pub returns-in-Blocked-clause-turn : goal.returns-in-Blocked-clause-turn
returns-in-Blocked-clause-turn g c = Serve-blocked _ c.loop-turn.invariant.serves c.loop-turn.invariant.reads c.loop-turn.invariant.writes _ c.in-Blocked.ensures.turn

pub returns-in-Lost-clause-turn : goal.returns-in-Lost-clause-turn
returns-in-Lost-clause-turn g c = Serve-lost _ c.loop-turn.invariant.serves c.loop-turn.invariant.reads c.loop-turn.invariant.writes _ c.in-Lost.ensures.turn

pub returns-in-Over-clause-turn : goal.returns-in-Over-clause-turn
returns-in-Over-clause-turn g c = Serve-over _ c.loop-turn.invariant.serves c.loop-turn.invariant.reads c.loop-turn.invariant.writes _ c.in-Over.code c.in-Over.ensures.turn

pub ask_next-requires-clause-room : goal.ask_next-requires-clause-room
ask_next-requires-clause-room g c = search rules

pub returns-then-writes-eq-MOST_WRITES-clause-handed : goal.returns-then-writes-eq-MOST_WRITES-clause-handed
returns-then-writes-eq-MOST_WRITES-clause-handed g c = reads_then _ _ _ _ _ _ c.loop-turn.invariant.handed c.in-Wrote.ensures.handed

pub returns-then-reads-most_reads-clause-handed : goal.returns-then-reads-most_reads-clause-handed
returns-then-reads-most_reads-clause-handed g c = reads_then _ _ _ _ _ _ c.loop-turn.invariant.handed c.in-Heard.ensures.handed

pub returns-in-Blocked-clause-handed : goal.returns-in-Blocked-clause-handed
returns-in-Blocked-clause-handed g c = reads_then _ _ _ _ _ _ c.loop-turn.invariant.handed c.in-Blocked.ensures.handed

pub returns-in-Lost-clause-handed : goal.returns-in-Lost-clause-handed
returns-in-Lost-clause-handed g c = reads_then _ _ _ _ _ _ c.loop-turn.invariant.handed c.in-Lost.ensures.handed

pub returns-in-Over-clause-handed : goal.returns-in-Over-clause-handed
returns-in-Over-clause-handed g c = reads_then _ _ _ _ _ _ c.loop-turn.invariant.handed c.in-Over.ensures.handed
