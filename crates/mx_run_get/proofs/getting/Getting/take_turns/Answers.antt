use Rattle.mx_run_get.proofs.getting.Getting.take_turns.Goals as goal

pub add-requires-clause-all : goal.add-requires-clause-all
add-requires-clause-all g c = c.give_known.ensures.awaited _ c.loop.invariant.all

pub left-requires-clause-all : goal.left-requires-clause-all
left-requires-clause-all g c = c.give_known.ensures.awaited _ c.loop.invariant.all
