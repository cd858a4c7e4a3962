use Rattle.std.proofs.Crossing.{crosses}
use denote.Param.Send.{sendable}
use Rattle.mx_types.proofs.call.Call.TheSendSync.{the_send as call_send, the_sync as call_sync}
use Rattle.mx_multi.proofs.Sends.{application_send, multi_sync, seat_send}
use Rattle.std.proofs.Common.{rules, take}
use Rattle.mx_multi.specs.Laws.{RanScript}
use Rattle.mx_multi.proofs.Runs.{on_true, script_met}
use Rattle.mx_multi.proofs.laws.run_two.Goals as goal

pub returns-then-try_meet : goal.returns-then-try_meet
returns-then-try_meet g c =
    let met = on_true _ _ c.if-try_meet.true c.try_meet.ensures.meets in
    let claims = c.try_meet.ensures.claims in
    let one : RanScript c.args.one c.join-first.result.0.0 (take c.join-first.result.0.1 c.args.one_script.now) = search rules in
    let two : RanScript c.args.two c.join-first.result.1.0 (take c.join-first.result.1.1 c.args.two_script.now) = search rules in
    (record { seen = met.2; legal = met.0.legal }, script_met _ _ _ _ one met.0 claims.0, script_met _ _ _ _ two met.1 claims.1)

pub join-first-requires-send-F : goal.join-first-requires-send-F
join-first-requires-send-F g c κs within = search (multi_sync, seat_send, application_send, call_sync, call_send, sendable, crosses) depth 40 fits 20000
