use Rattle.mx_multi_tests_base.proofs.Parties.{more_seated}
use Rattle.mx_multi_tests_base.proofs.stress.keep_party.Goals as goal

pub returns : goal.returns
returns c = record { own = more_seated c.args.multi.now c.args.party c.args.parties.now.items c.push.new.self.items c.in_ok-push.ensures.items c.requires.own.0 c.requires.own.1 }
