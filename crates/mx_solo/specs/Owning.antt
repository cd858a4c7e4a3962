-- Whose request what a worker has in flight is of.
use Rattle.std.specs.Prelude.{◌≡◌, List, [], ◌∷◌, Some}
use Rattle.std.specs.List.{AllByRecursion}
use Rattle.mx_types.specs.declared.names.Ticket.{Ticket}
use Rattle.mx_types.specs.declared.origin.Origin.{Origin}
use Rattle.mx_request.specs.Request.{RequestValue, request_origin}
use Rattle.mx_exchange.specs.Exchanges.{HopValue}
use Rattle.mx_chain.specs.Chains.{ChainState}
use Rattle.mx_chain.specs.Outcomes.{OutcomeValue}
use Rattle.mx_journal.specs.Core.{AreOwn, origin_of}
use Rattle.mx_turn.specs.Workers.{Held, Worker, SetAside}

-- the first request of these hops, or this one where there is none
abbrev pub first_by : List HopValue → RequestValue → RequestValue
first_by [] under_way = under_way
first_by (hop ∷ hops) under_way = hop.request

-- the hops of a transfer begin with its request
abbrev pub BeginsRight : {L : Type 0} → ChainState L → Type 0
BeginsRight t = first_by t.hops t.now.request ≡ t.request

-- the request is the one that was added under the ticket
abbrev pub IsOwn : List Origin → Ticket → RequestValue → Type 0
IsOwn origins t request = origin_of t origins ≡ Some (request_origin request)

-- a transfer in flight is of the request that was added under its ticket
abbrev pub HeldOwn : {L : Type 0} → List Origin → Held L → Type 0
HeldOwn origins h = BeginsRight h.transfer × IsOwn origins h.ticket h.transfer.request

-- an end that was set aside is
abbrev pub AsideOwn : List Origin → SetAside → Type 0
AsideOwn origins s = IsOwn origins s.ticket s.outcome.request

-- all that a worker has in flight is
abbrev pub WorkerOwn : {L : Type 0} → List Origin → Worker L → Type 0
WorkerOwn origins w = AllByRecursion (HeldOwn origins) w.held × AllByRecursion (AsideOwn origins) w.set_aside

-- the endings that wait are of the requests that were added under their tickets
abbrev pub EndingsOwn : List Origin → List (Ticket × OutcomeValue) → Type 0
EndingsOwn origins endings = AreOwn (λ o. request_origin o.request) origins endings
