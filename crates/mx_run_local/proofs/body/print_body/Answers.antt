use Rattle.mx_run_local.proofs.Printed.{answers, all_fit, all_in_front}
use Rattle.mx_run_local.proofs.body.print_body.Goals as goal

pub print_received-printed-requires-clause-fits : goal.print_received-printed-requires-clause-fits
print_received-printed-requires-clause-fits g c = all_fit _ _ _ _ c.receive-received.ensures.received c.parts_are_content.ensures

pub print_received-printed-requires-clause-front : goal.print_received-printed-requires-clause-front
print_received-printed-requires-clause-front g c = all_in_front _ _ _ _ c.receive-received.ensures.received

pub returns-clause-answered : goal.returns-clause-answered
returns-clause-answered g c alive =
    answers _ _ _ _ _ _ _ c.receive-received.ensures.received c.parts_are_content.ensures c.receive-received.ensures.memory (λ e. alive (c.receive-received.ensures.failed.0 e))
    c.print_received-printed.ensures.short c.print_received-printed.ensures.printed
