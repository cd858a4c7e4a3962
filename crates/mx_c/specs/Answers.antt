-- What the exports answer, by the object that a handle leads to.
use Rattle.std.specs.Prelude.{◌≡◌, ◌≤◌, ◌^◌, ◌-◌, ◌++◌, ◌⊎◌, ℕ, ℤ, pos, negsuc, List, ◌∷◌, Option, Some, None, Result, Ok, Err, bit_and, if◌then◌else◌, nat_eq, drop, length, map, min, option_map, slice_range, take}
use Rattle.std.specs.List.{All, slice_get}
use Rattle.std.specs.Option.{option_map_or}
use Rattle.std.specs.Char.{to_ascii_lowercase}
use Rattle.std.specs.declared.net.SocketAddr.{SocketAddr}
use Rattle.mx_types.specs.Code.{code_number}
use Rattle.mx_types.specs.declared.code.Code.{Code}
use Rattle.mx_types.specs.declared.names.HandleId.{HandleId}
use Rattle.mx_types.specs.declared.names.Ticket.{Ticket}
use Rattle.mx_types.specs.declared.call.Call.{Call}
use Rattle.mx_types.specs.declared.call.Call.TheVariants as call
use Rattle.mx_types.specs.declared.reply.Reply.{Reply}
use Rattle.mx_types.specs.declared.reply.State.{State}
use Rattle.mx_types.specs.declared.reply.State.TheVariants as state
use Rattle.mx_types.specs.MultiCode.{multi_number, reply_code}
use Rattle.mx_request.specs.Request.{RequestValue}
use Rattle.mx_chain.specs.Chains.{ChainState}
use Rattle.mx_chain.specs.Outcomes.{OutcomeValue, hops_of, size_of}
use Rattle.mx_gate.specs.Said.{Said}
use Rattle.mx_history.specs.Answers.{state_of}
use Rattle.mx_history.specs.History.{added, running}
use Rattle.mx_journal.specs.Replies.{reply_of_add, reply_of_info}
use Rattle.mx_journal.specs.declared.replies.AddReply.{AddReply}
use Rattle.mx_journal.specs.declared.replies.AddReply.TheVariants as add
use Rattle.mx_journal.specs.declared.replies.InfoReply.{InfoReply}
use Rattle.mx_journal.specs.declared.replies.InfoReply.TheVariants as info
use Rattle.mx_solo.specs.Seats.{CalledAt, IsAdded, OneCore, Performs, SoloView, WaitsNoLonger, code_of}
use Rattle.mx_c.specs.declared.structs.mx_message.{mx_message}
use Rattle.mx_c.specs.declared.structs.mx_state.{mx_state}
use Rattle.mx_embedded.specs.Contents.{body_of}
use Rattle.mx_embedded.specs.Hosts.{AreAddressesIn, CantBeResolved, HostsValue, Puts, table_of}
use Rattle.mx_embedded.specs.Multis.{gate_in}
use Rattle.mx_c.specs.declared.objects.Object.{Object}
use Rattle.mx_c.specs.declared.objects.Object.TheVariants as object
use Rattle.mx_c.specs.declared.structs.mx_end.{mx_end}

-- the outcome that the object is, if it is one
abbrev pub ended_of : Object → Option OutcomeValue
ended_of (object.Outcome ended) = ended
ended_of (object.Multi multi) = None

-- the status of the response of a hop, 0 where there is none
abbrev pub status_at : OutcomeValue → ℕ → ℕ
status_at o hop = option_map_or (λ h. h.status) (slice_get (hops_of o) hop) 0

-- what an outcome tells in numbers
pub record IsEndOf (o : OutcomeValue) (end : mx_end) : Type 0 where
  pub code : end.code ≡ code_number o.code
  pub status : end.status ≡ o.status
  pub hops : end.hops ≡ min (length (hops_of o)) (2 ^ 32 - 1)
  pub body : end.body ≡ length (body_of o)

-- The answer is the number of the reply that the one-thread multi handle gives to the call; 110 of an outcome.
abbrev pub AnswersCall : Call → Object → ℕ → Type 0
AnswersCall asked (object.Multi m) n = (after : OneCore _) × (reply : Reply) × CalledAt asked m.solo.core after reply × (n ≡ multi_number (reply_code reply))
AnswersCall asked (object.Outcome ended) n = n ≡ 110

-- the ticket is told of an addition that was taken
abbrev pub IsTicketTold : {Q : Type 0} → AddReply Q → ℕ → ℕ → Type 0
IsTicketTold (add.Added t) before after = after ≡ t.0
IsTicketTold _ before after = after ≡ before

-- the body that an addition is given, where its flags say that there is one
abbrev pub body_by : ℕ → List ℕ → Option (List ℕ)
body_by flags body = if nat_eq (bit_and flags 1) 0 then None else Some body

-- The request was added as the one-thread multi handle adds, with its reply: where it is taken it is the request of the ticket that is told.
pub record Adds {L : Type 0} (handle : ℕ) (request : RequestValue) (before ticket : ℕ) (core after : OneCore L) (n : ℕ) : Type 0 where
  pub reply : AddReply (ChainState L)
  pub called : CalledAt (call.Add (record { 0 = handle })) core after (reply_of_add reply)
  pub own : IsAdded reply after.origins request
  pub told : IsTicketTold reply before ticket
  pub number : n ≡ multi_number (reply_code (reply_of_add reply))

-- The answer to an addition. 3: memory for it is refused. 110: the words are refused, with the code that is told. Else a request that they give
-- was added. In the first two no ticket is told, and but for the second no code. 110 of an outcome.
abbrev pub AnswersAdd : ℕ → (RequestValue → Type 0) → (Code → Type 0) → Object → ℕ → ℕ → ℕ → ℕ → ℕ → Type 0
AnswersAdd handle IsAsked Refuses (object.Multi m) before ticket was why n =
    ((n ≡ 3) × (ticket ≡ before) × (why ≡ was))
    ⊎ (((n ≡ 110) × (ticket ≡ before) × ((c : Code) × Refuses c × (why ≡ code_number c)))
    ⊎ ((request : RequestValue) × IsAsked request × ((after : OneCore _) × Adds handle request before ticket m.solo.core after n) × (why ≡ was)))
AnswersAdd handle IsAsked Refuses (object.Outcome ended) before ticket was why n = (n ≡ 110) × (ticket ≡ before) × (why ≡ was)

-- The answer where a host is resolved: 0, and the addresses that the text has stand for it, in lower case; 3 where memory is refused; 110 where
-- the two say nothing. 110 of an outcome.
abbrev pub AnswersResolve : List ℕ → List ℕ → Object → ℕ → Type 0
AnswersResolve host text (object.Multi m) n =
    ((n ≡ 0) × ((addresses : List SocketAddr) × AreAddressesIn text addresses × ((after : HostsValue) × Puts (table_of m.hosts) (map to_ascii_lowercase host) addresses (table_of after))))
    ⊎ ((n ≡ 3) ⊎ ((n ≡ 110) × CantBeResolved host text))
AnswersResolve host text (object.Outcome ended) n = n ≡ 110

-- the bytes of a part of the body, counted from 0
abbrev pub part_at : OutcomeValue → ℕ → Option (List ℕ)
part_at o i = option_map (λ p. slice_range o.wire p.start p.end) (slice_get o.parts i)

-- the message that was read is told; 111 where there is none
abbrev pub IsMessageTold : InfoReply OutcomeValue → mx_message → mx_message → ℕ → Type 0
IsMessageTold (info.Message h t o left) before after n = (n ≡ 0) × (after ≡ record { handle = h.0; ticket = t.0; code = code_number o.code; left = left })
IsMessageTold info.Empty before after n = (n ≡ 111) × (after ≡ before)
IsMessageTold info.OutOfMemory before after n = (n ≡ 3) × (after ≡ before)

-- a message was read as the one-thread multi handle reads, and told
pub record Reads {L : Type 0} (core after : OneCore L) (before told : mx_message) (n : ℕ) : Type 0 where
  pub reply : InfoReply OutcomeValue
  pub called : CalledAt call.InfoRead core after (reply_of_info code_of size_of reply)
  pub is_told : IsMessageTold reply before told n

-- the first ending that waits is of this outcome
abbrev pub IsFirstEnding : {L : Type 0} → OneCore L → OutcomeValue → Type 0
IsFirstEnding core o = (t : Ticket) × (rest : List (Ticket × OutcomeValue)) × (core.endings ≡ (t, o) ∷ rest)

-- the number of a result: 0, or that of its error
abbrev pub result_number : {T : Type 0} → Result T ℕ → ℕ
result_number (Ok _) = 0
result_number (Err n) = n

-- The answer to the reading of a message: 3 where memory for it is refused, else by the reply that the one-thread multi handle gives. 110 of an
-- outcome.
abbrev pub AnswersRead : Object → mx_message → mx_message → ℕ → Type 0
AnswersRead (object.Multi m) before after n = ((n ≡ 3) × (after ≡ before)) ⊎ ((core : OneCore _) × Reads m.solo.core core before after n)
AnswersRead (object.Outcome ended) before after n = ((n ≡ 3) ⊎ (n ≡ 110)) × (after ≡ before)

-- The answer to `perform`: turns were taken, and it is told how many transfers run then. 110 of an outcome.
abbrev pub AnswersPerform : Object → ℕ → ℕ → ℕ → Type 0
AnswersPerform (object.Multi m) before running_now n =
    (n ≡ 0) × ((solo : SoloView _) × (said : List Said) × Performs (λ link. link.history) (λ link. link.link.token) m.solo solo (gate_in m.gate).said said
    × (running_now ≡ length (running solo.core.journal)))
AnswersPerform (object.Outcome ended) before running_now n = (n ≡ 110) × (running_now ≡ before)

-- a wait in milliseconds as a number; -1 is one without an end
abbrev pub wait_number : Option ℕ → ℤ
wait_number (Some ms) = pos (min ms (2 ^ 63 - 1))
wait_number None = negsuc 0

-- It is as long as no deadline of a transfer in flight comes, from a moment on that isn't before the latest that the gate told. -1 of an outcome.
abbrev pub AnswersTimeout : Object → ℤ → Type 0
AnswersTimeout (object.Multi m) n =
    (wait : Option ℕ) × (latest : ℕ) × ((gate_in m.gate).latest ≤ latest) × All (λ h. WaitsNoLonger wait latest h.transfer.now.deadline) m.solo.worker.held × (n ≡ wait_number wait)
AnswersTimeout (object.Outcome ended) n = n ≡ negsuc 0

-- a number that isn't known
abbrev pub not_told : ℕ
not_told = 2 ^ 32 - 1

-- a state in numbers, with its ticket and its code
abbrev pub told_state : State → mx_state
told_state state.NotAdded = record { state = 0; ticket = not_told; code = not_told }
told_state (state.Running t) = record { state = 1; ticket = t.0; code = not_told }
told_state (state.Paused t) = record { state = 2; ticket = t.0; code = not_told }
told_state (state.Done t c) = record { state = 3; ticket = t.0; code = code_number c }
told_state (state.Read t c) = record { state = 4; ticket = t.0; code = code_number c }

-- the state of a handle is written; 110 comes of an outcome
abbrev pub TellsState : HandleId → Object → mx_state → mx_state → ℕ → Type 0
TellsState handle (object.Multi m) before after n = (n ≡ 0) × (after ≡ told_state (state_of handle m.solo.core.journal))
TellsState handle (object.Outcome ended) before after n = (n ≡ 110) × (after ≡ before)

-- the handles that are added are written to the front of the room, as many as there is room for; the answer is how many are added
abbrev pub TellsHandles : Object → List ℕ → List ℕ → ℕ → Type 0
TellsHandles (object.Multi m) before after n =
    (n ≡ length (added m.solo.core.journal))
    × (after ≡ take (length before) (map (λ h. h.0) (map (λ a. a.handle) (added m.solo.core.journal))) ++ drop n before)
TellsHandles (object.Outcome ended) before after n = (n ≡ 0) × (after ≡ before)
