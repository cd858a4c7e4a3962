use Rattle.mx_body.proofs.LawLemmas.{complete_content}
use Rattle.mx_body.proofs.laws.parts_are_content.Goals as goal

pub returns : goal.returns
returns c m input ended v x = complete_content m input ended v x
