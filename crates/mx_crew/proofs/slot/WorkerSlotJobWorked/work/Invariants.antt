use Rattle.mx_crew.proofs.slot.WorkerSlotJobWorked.work.Given as goal

-- what the gate of the slot had said
abbrev pub ghosts-work_at : goal.ghosts-work_at
ghosts-work_at g a = record { said = g.G.Gate.said a.gate }
