use Rattle.mx_body.proofs.ResponseLemmas.{responses_prefix_free}
use Rattle.mx_body.proofs.laws.responses_are_prefix_free.Goals as goal

pub returns : goal.returns
returns c m bytes rest ended later r s open_end x y = responses_prefix_free m bytes rest ended later r s open_end x y
