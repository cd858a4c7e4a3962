use Rattle.mx_link.proofs.streams.+read_until.Given as goal

abbrev pub decreases-read_until : goal.decreases-read_until
decreases-read_until g l = l.more
