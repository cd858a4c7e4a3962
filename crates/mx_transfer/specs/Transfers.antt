-- What contracts see of a transfer as a future, and what one poll of it does.
use Rattle.std.specs.Prelude.{◌≡◌, ℕ, true, List, Option, ◌⊎◌}
use Rattle.futures.specs.Slot.{IsLeftIn}
use Rattle.futures.specs.declared.task.context.Context.{Context}
use Rattle.futures.specs.declared.task.waker.Waker.{Waker}
use Rattle.futures.specs.declared.task.Poll.{Poll}
use Rattle.futures.specs.declared.task.Poll.TheVariants as poll
use Rattle.mx_link.specs.declared.answers.Answer.{Answer}
use Rattle.mx_chain.specs.Chains.{ChainState}
use Rattle.mx_chain.specs.Outcomes.{OutcomeValue}
use Rattle.mx_chain.specs.Steps.{waits, asks, ends}
use Rattle.mx_transfer_core.specs.Cores.{IsPolled}

-- `waker` is where a poll that waits leaves its task's waker, for all that it waits for
pub record TransferState (L : Type 0) : Type 0 where
  pub chain : ChainState L
  pub link_source : ℕ
  pub time_source : ℕ
  pub waker : Option Waker

-- What a poll answers. One that waits has left its task's waker in the transfer, unless none could be made; any other that is pending has
-- asked to be polled again. What it ended with is the end of its chain, with its delivery. All else that is new is the turn's.
abbrev pub PollSo : {L : Type 0} → (L → List Answer) → TransferState L → TransferState L → Poll OutcomeValue → Context → Context → Type 0
PollSo history old new (poll.Ready o) was is = IsPolled history old.chain new.chain (ends o) × (new ≡ record old { chain = new.chain })
PollSo history old new poll.Pending was is =
    (IsPolled history old.chain new.chain waits × (new ≡ record old { chain = new.chain; waker = new.waker }) × IsLeftIn was is new.waker)
    ⊎ (IsPolled history old.chain new.chain asks × (new ≡ record old { chain = new.chain }) × (is.is_woken ≡ true))
