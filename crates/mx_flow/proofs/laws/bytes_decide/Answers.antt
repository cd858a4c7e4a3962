use Rattle.mx_flow.proofs.OneStreamProofs.{one_stream}
use Rattle.mx_flow.proofs.laws.bytes_decide.Goals as goal

pub returns : goal.returns
returns c = one_stream
