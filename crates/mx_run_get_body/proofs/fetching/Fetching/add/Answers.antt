use Rattle.std.proofs.Common.{◌≡◌, ◌∙◌, ap, rules}
use Rattle.std.specs.Prelude.{Some}
use Rattle.mx_run_get_body.proofs.Fetchings.{is_added}
use Rattle.mx_run_get_body.proofs.fetching.Fetching.add.Goals as goal

pub returns-in-Made-clause-asked : goal.returns-in-Made-clause-asked
returns-in-Made-clause-asked g c = λ awaited.
    let request = c.in-Some.request in
    let adds = c.in-Made.ensures.added in
    let same : request ≡ c.self.inside.about.value = search rules in
    is_added c.args.desk.now.asked c.add.new.self.asked request adds.free adds.asked ∙ ap (λ r. Some (Some r)) same
