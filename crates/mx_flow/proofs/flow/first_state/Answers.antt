use Rattle.mx_flow.proofs.LawProofs.{open_first}
use Rattle.mx_flow.proofs.flow.first_state.Goals as goal

pub returns-in-Chunked : goal.returns-in-Chunked
returns-in-Chunked c = open_first c.args.limit c.args.framing c.in-Chunked.is
