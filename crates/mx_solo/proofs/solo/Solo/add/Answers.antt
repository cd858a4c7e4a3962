use Rattle.mx_solo.proofs.Additions.{adds_own}
use Rattle.mx_solo.proofs.solo.Solo.add.Goals as goal

pub returns-clause-own : goal.returns-clause-own
returns-clause-own g c = adds_own c.in-Some.core.opening _ _ _ _ _ _ _ _ c.sound.ensures.origins.0 c.add.ensures.origins c.add.ensures.called.answers

pub returns-clause-called : goal.returns-clause-called
returns-clause-called g c = rw (← c.self.view_is) (rw c.in-Some.is (_, _, c.add.ensures.called))
