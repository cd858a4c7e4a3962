use Rattle.mx_solo.proofs.solo.Solo.info_read.Goals as goal

pub returns-clause-called : goal.returns-clause-called
returns-clause-called g c = rw (← c.self.view_is) (rw c.in-Some.is (_, _, c.info_read.ensures.called))
