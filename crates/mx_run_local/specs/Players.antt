-- How a player keeps its claims, each at a place by its ticket, and what its functions promise one another.
use Rattle.std.specs.Prelude.{◌≡◌, ℕ, ◌+◌, false, List, [], ◌∷◌, map, Option, Some, None, Result, Ok, Err}
use Rattle.mx_types.specs.declared.memory.OutOfMemory.{OutOfMemory}
use Rattle.mx_types.specs.declared.names.Ticket.{Ticket}
use Rattle.mx_types.specs.declared.call.Call.{Call}
use Rattle.mx_types.specs.declared.reply.Reply.{Reply}
use Rattle.mx_types.specs.declared.reply.Reply.TheVariants as reply
use Rattle.mx_types.specs.Origin.{no_request}
use Rattle.mx_journal.specs.Core.{Claimed}
use Rattle.mx_journal.specs.Receipts.{lacks_memory}
use Rattle.mx_journal.specs.History.{added}
use Rattle.mx_run_local.specs.declared.reply.ShortReply.{ShortReply}
use Rattle.mx_run_local.specs.declared.reply.ShortReply.TheVariants as short
use Rattle.mx_run_local.specs.declared.player.LineReply.{LineReply}
use Rattle.mx_run_local.specs.declared.player.LineReply.TheVariants as told
use Rattle.mx_run_local.specs.Texts.{Said, replied, unclaimed, waits, retired, claim_out}
use Rattle.mx_run_local.specs.Turns.{PlayerView, says, player_past, MakesEvent}

-- the ticket of the first place, how many additions were made from there on, the tickets whose claim is kept, and how many places there is
-- space for
pub record Kept : Type 0 where
  pub first : ℕ
  pub made : ℕ
  pub tickets : List Ticket
  pub space : ℕ

-- the tickets of the claims at some places
abbrev pub tickets_at : List (Option Claimed) → List Ticket
tickets_at [] = []
tickets_at (None ∷ more) = tickets_at more
tickets_at (Some claim ∷ more) = claim.ticket ∷ tickets_at more

-- from the place n on, each claim has the number of its place as its ticket, and no request
abbrev pub AreAtTheirPlaces : ℕ → List (Option Claimed) → Type 0
AreAtTheirPlaces n [] = Unit {0}
AreAtTheirPlaces n (None ∷ more) = AreAtTheirPlaces (n + 1) more
AreAtTheirPlaces n (Some claim ∷ more) = (claim.ticket.0 ≡ n) × (claim.origin ≡ no_request) × AreAtTheirPlaces (n + 1) more

-- the reply that a short one is
abbrev pub reply_of : ShortReply → Reply
reply_of (short.Added t) = reply.Added t
reply_of short.AddedAlready = reply.AddedAlready
reply_of short.TableFull = reply.TableFull
reply_of short.TicketsSpent = reply.TicketsSpent
reply_of short.HistoryFull = reply.HistoryFull
reply_of short.Removed = reply.Removed
reply_of short.RemoveNotAdded = reply.RemoveNotAdded
reply_of short.Changed = reply.Changed
reply_of short.NotAdded = reply.NotAdded
reply_of short.NotRunning = reply.NotRunning
reply_of short.NoChange = reply.NoChange
reply_of (short.Message h t c n left) = reply.Message h t c n left
reply_of short.Empty = reply.Empty
reply_of short.Ok = reply.Ok
reply_of short.Failure = reply.Failure
reply_of short.Woken = reply.Woken
reply_of (short.Running n) = reply.Running n
reply_of (short.State s) = reply.State s
reply_of short.Recorded = reply.Recorded
reply_of short.Stale = reply.Stale
reply_of (short.Look l) = reply.Look l

-- what is said: the list of handles is the player's
abbrev pub said_of : PlayerView → LineReply → Said
said_of p (told.Core s) = replied (reply_of s)
said_of p told.Handles = replied (reply.Handles (map (λ a. a.handle) (added p.journal)))
said_of p told.NoClaim = unclaimed
said_of p told.WouldWait = waits
said_of p (told.Retired kept) = retired kept
said_of p told.ClaimOut = claim_out

-- the short reply is this one of the core, or its `OutOfMemory` is passed on
abbrev pub Passes : Reply → Result ShortReply OutOfMemory → Type 0
Passes r (Ok s) = (reply_of s ≡ r) × (lacks_memory r ≡ false)
Passes r (Err _) = r ≡ reply.OutOfMemory

-- A call was answered: with what is said, and what the player then has; or memory for its event was refused.
abbrev pub IsAnswered : PlayerView → Call → Result LineReply OutOfMemory → PlayerView → Type 0
IsAnswered p c (Ok s) q = (said_of q s ≡ says p c) × (q ≡ player_past p c)
IsAnswered p c (Err _) q = MakesEvent p c
