use Rattle.mx_link.proofs.ScriptLaws as proof
use Rattle.mx_link.proofs.laws.reads_lose_nothing.Goals as goal

pub returns : goal.returns
returns c = proof.reads_lose_nothing
