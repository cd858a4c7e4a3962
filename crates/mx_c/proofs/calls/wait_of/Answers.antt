use Rattle.std.proofs.Common.{◌∙◌, w64}
use Rattle.std.proofs.lemmas.Int.{to_z-of_z}
use Rattle.mx_embedded.specs.Multis.{gate_in}
use Rattle.mx_c.proofs.calls.wait_of.Goals as goal

pub returns : goal.returns
returns c = (
  c.timeout.result,
  (gate_in c.timeout.new.self.gate).latest,
  c.timeout.ensures.rises,
  c.timeout.ensures.wait,
  to_z-of_z w64 c.wait_number.result (record { sfits = c.wait_number.type_inv }) ∙ c.wait_number.ensures,
)
