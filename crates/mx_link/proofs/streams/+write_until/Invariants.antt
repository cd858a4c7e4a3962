use Rattle.mx_link.proofs.streams.+write_until.Given as goal

abbrev pub decreases-write_until : goal.decreases-write_until
decreases-write_until g l = l.more
