use denote.Ref.{NamedLft}
use denote.Param.Send.{IsSend, struct_send, recorded_send, sendable}
use denote.Struct.Declared.{shape}
use Rattle.std.proofs.Crossing.{crosses}
use Rattle.mx_append_log.proofs.mark.LogMark.TheSendSync.{the_send as tie_send}
use Rattle.mx_types.specs.contracts.origin.Origin as Origin
use Rattle.mx_lock.specs.contracts.claim.TiedClaim as TiedClaim
use Rattle.mx_lock.specs.contracts.claim.TiedClaim.TheInside as TiedInside
use Rattle.mx_multi.proofs.Sends.{application_send, at_work_send, seated_send}
use Rattle.mx_multi.specs.contracts.seat.Application as Application
use Rattle.mx_multi.specs.contracts.seat.AtWork as AtWork
use Rattle.mx_multi.specs.contracts.seated.Seated as Seated
use Rattle.mx_multi_tests_base.proofs.party.Task.TheSendSync.{the_field_send as task_field}
use Rattle.mx_multi_tests_base.proofs.entries.Notes.TheSendSync.{the_field_send as notes_field}
use Rattle.mx_multi_tests_base.specs.contracts.sample.JobWork.TheImpl.{ghosts as job}
use Rattle.mx_multi_tests_base.specs.contracts.sample.EndEnding.TheImpl.{ghosts as end}
use Rattle.mx_multi_tests_base.specs.contracts.sample.Job as Job
use Rattle.mx_multi_tests_base.specs.contracts.sample.End as End
use Rattle.mx_multi_tests_base.specs.contracts.client.Worker as Worker
use Rattle.mx_multi_tests_base.specs.contracts.hand.Hand as Hand
use Rattle.mx_multi_tests_base.specs.contracts.hand.Hand.TheInside as HandInside
use Rattle.mx_multi_tests_base.specs.contracts.party.Place as Place
use Rattle.mx_multi_tests_base.specs.contracts.party.Party as Party
use Rattle.mx_multi_tests_base.proofs.stress.run_parties.Goals as goal

job_send : IsSend Job.the_row
job_send = search (sendable, crosses) depth 40

end_send : IsSend End.the_row
end_send = search (sendable, crosses) depth 40

tied_inside : IsSend (TiedInside.the_field Job.the_row job).row
tied_inside =
    let j = job_send in
    struct_send (shape (TiedInside.the_type Job.the_row job)) (search (sendable, crosses) depth 40 fits 20000, (tie_send Origin.the_row, tt))

tied_send : IsSend (TiedClaim.the_row Job.the_row job)
tied_send =
    let a = tied_inside in
    search (sendable) depth 40 fits 20000

hand_inside : IsSend HandInside.the_field.row
hand_inside = struct_send (shape HandInside.the_type) (tie_send Origin.the_row, (search (tied_send, sendable, crosses) depth 40 fits 20000, tt))

hand_send : IsSend Hand.the_row
hand_send =
    let a = hand_inside in
    search (sendable) depth 40 fits 20000

client_send : (x : NamedLft) → IsSend (Seated.the_row x Application.the_row Job.the_row End.the_row job end)
client_send x = seated_send x Application.the_row Job.the_row End.the_row job end application_send job_send end_send

worker_field : (x : NamedLft) → IsSend (Worker.the_field x).row
worker_field x = struct_send (shape (Worker.the_type x)) (seated_send x AtWork.the_row Job.the_row End.the_row job end at_work_send job_send end_send, (hand_send, tt))

place_field : (x : NamedLft) → IsSend (Place.the_field x).row
place_field x = struct_send (shape (Place.the_type x)) (client_send x, (notes_field, tt))

party_field : (x : NamedLft) → IsSend (Party.the_field x).row
party_field x = struct_send (shape (Party.the_type x)) (
  place_field x,
  (
    place_field x,
    (
      worker_field x,
      (
        notes_field,
        (
          search (sendable, crosses) depth 40 fits 20000,
          (task_field, (search (sendable, crosses) depth 40 fits 20000, tt)),
        ),
      ),
    ),
  ),
)

party_send : (x : NamedLft) → IsSend (Party.the_row x)
party_send x = recorded_send (Party.the_field x).row _ _ (Party.the_type x).to_one (party_field x)

pub for_each_mut-requires-send-T : goal.for_each_mut-requires-send-T
for_each_mut-requires-send-T g c κs within = search (party_send, sendable) depth 40
