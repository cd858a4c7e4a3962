use Rattle.mx_run_get.proofs.Gets.{all_taken, none_awaited}
use Rattle.mx_run_get.proofs.getting.Getting.left.Goals as goal

pub returns-then-has_more : goal.returns-then-has_more
returns-then-has_more g c =
    let none = none_awaited c.args.self.now.places c.args.desk.now.asked (c.is_empty.ensures.0 c.if-not-is_empty.false) c.requires.all in
    λ asked i p is waits. absurd (none i p is waits)

pub returns : goal.returns
returns g c =
    let none = none_awaited c.args.self.now.places c.args.desk.now.asked (c.is_empty.ensures.0 c.if-not-is_empty.false) c.requires.all in
    all_taken c.args.self.now c.has_more.ensures.is c.requires.taken none (c.has_more.ensures.all c.if-has_more.false)
