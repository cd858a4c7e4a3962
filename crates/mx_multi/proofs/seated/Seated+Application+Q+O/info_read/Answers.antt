use Rattle.mx_multi.proofs.seated.Seated+Application+Q+O.info_read.Goals as goal

pub returns-clause-stands : goal.returns-clause-stands
returns-clause-stands g c = c.ask.ensures.stands

pub returns-clause-tells : goal.returns-clause-tells
returns-clause-tells g c = c.ask.ensures.tells

pub returns-clause-left : goal.returns-clause-left
returns-clause-left g c = c.ask.ensures.left

pub returns-clause-confirmed : goal.returns-clause-confirmed
returns-clause-confirmed g c = c.ask.ensures.confirmed

pub returns-clause-right : goal.returns-clause-right
returns-clause-right g c = c.ask.ensures.right
