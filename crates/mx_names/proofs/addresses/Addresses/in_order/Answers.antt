use Rattle.mx_names.proofs.Orders.{in_order_some}
use Rattle.mx_names.proofs.addresses.Addresses.in_order.Goals as goal

pub invariant_of-result : goal.invariant_of-result
invariant_of-result c = rw (c.in_ok-all.ensures, c.as_slice.ensures.value) (in_order_some c.self.inside.all.items c.self.invariant)
