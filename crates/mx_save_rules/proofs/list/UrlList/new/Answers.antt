use Rattle.mx_save_rules.proofs.Lists.{map_alike}
use Rattle.mx_save_rules.proofs.list.UrlList.new.Goals as goal

pub returns : goal.returns
returns g c = map_alike (g.R.Read.remaining c.args.reader) _ _ (λ more. c.new.ensures more)
