-- What `mxfetch play` prints for what is said: one line each.
use Rattle.std.specs.Prelude.{ℕ, List, [], ◌∷◌, ◌++◌, codes, decimal}
use Rattle.std.specs.List.{flat_map}
use Rattle.mx_types.specs.Code.{code_number}
use Rattle.mx_types.specs.declared.reply.Reply.{Reply}
use Rattle.mx_types.specs.declared.reply.Reply.TheVariants as reply
use Rattle.mx_types.specs.declared.reply.State.{State}
use Rattle.mx_types.specs.declared.reply.State.TheVariants as state
use Rattle.mx_types.specs.declared.names.HandleId.{HandleId}
use Rattle.mx_types.specs.declared.reply.Look.{Look}
use Rattle.mx_types.specs.declared.reply.Look.TheVariants as look

-- what is said to a line: a reply of the core; that no claim is kept on its ticket; that its poll would have to wait; that old
-- history was retired, and so many events were kept; or that a claim is out
pub data Said : Type 0 where
  replied : Reply → Said
  unclaimed : Said
  waits : Said
  retired : ℕ → Said
  claim_out : Said

abbrev pub state_text : State → List ℕ
state_text state.NotAdded = codes "not-added"
state_text (state.Running t) = codes "running " ++ decimal t.0
state_text (state.Paused t) = codes "paused " ++ decimal t.0
state_text (state.Done t c) = codes "done " ++ decimal t.0 ++ codes " " ++ decimal (code_number c)
state_text (state.Read t c) = codes "read " ++ decimal t.0 ++ codes " " ++ decimal (code_number c)

abbrev pub look_text : Look → List ℕ
look_text look.Go = codes "go"
look_text look.Paused = codes "paused"
look_text look.Gone = codes "gone"

-- each handle after a space
abbrev pub handles_text : List HandleId → List ℕ
handles_text hs = codes "handles" ++ flat_map (λ h. codes " " ++ decimal h.0) hs

abbrev pub reply_text : Reply → List ℕ
reply_text (reply.Added t) = codes "added " ++ decimal t.0
reply_text reply.AddedAlready = codes "added-already"
reply_text reply.TableFull = codes "table-full"
reply_text reply.TicketsSpent = codes "tickets-spent"
reply_text reply.HistoryFull = codes "history-full"
reply_text reply.Removed = codes "removed"
reply_text reply.RemoveNotAdded = codes "not-added"
reply_text reply.Changed = codes "changed"
reply_text reply.NotAdded = codes "not-added"
reply_text reply.NotRunning = codes "not-running"
reply_text reply.NoChange = codes "no-change"
reply_text (reply.Message h t c n left) =
    codes "message " ++ decimal h.0 ++ codes " " ++ decimal t.0 ++ codes " " ++ decimal (code_number c) ++ codes " " ++ decimal n ++ codes " left " ++ decimal left
reply_text reply.Empty = codes "empty"
reply_text reply.Ok = codes "ok"
reply_text reply.Failure = codes "failure"
reply_text reply.Woken = codes "woken"
reply_text (reply.Handles hs) = handles_text hs
reply_text (reply.Running n) = codes "running " ++ decimal n
reply_text (reply.State s) = state_text s
reply_text reply.Recorded = codes "recorded"
reply_text reply.Stale = codes "stale"
reply_text (reply.Look l) = look_text l
reply_text reply.OutOfMemory = codes "out-of-memory"

abbrev pub said_text : Said → List ℕ
said_text (replied r) = reply_text r ++ 10 ∷ []
said_text unclaimed = codes "no-claim" ++ 10 ∷ []
said_text waits = codes "would-wait" ++ 10 ∷ []
said_text (retired kept) = codes "retired " ++ decimal kept ++ 10 ∷ []
said_text claim_out = codes "claim-out" ++ 10 ∷ []
