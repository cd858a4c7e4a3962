-- What the receipts of a seat or a worker say of the journal: each call was answered at its place in it.
use Rattle.std.specs.Prelude.{ℕ, ◌-◌, ◌<◌, ◌≤◌, ◌≡◌, ◌||◌, Bool, true, false, if◌then◌else◌, List, [], ◌∷◌, ◌++◌, length, take, drop, Some, slice_get}
use Rattle.std.specs.List.{AllByRecursion, filter, filter_map, fold}
use Rattle.std.specs.Option.{IsSome, IsSomeAnd}
use Rattle.mx_types.specs.declared.event.Who.{Who}
use Rattle.mx_types.specs.declared.event.What.{What}
use Rattle.mx_types.specs.declared.event.Event.{Event}
use Rattle.mx_types.specs.declared.call.Call.{Call}
use Rattle.mx_types.specs.declared.call.Call.TheVariants as call
use Rattle.mx_types.specs.declared.call.Receipt.{Receipt}
use Rattle.mx_types.specs.declared.reply.Reply.{Reply}
use Rattle.mx_types.specs.declared.reply.Reply.TheVariants as reply
use Rattle.mx_history.specs.History.{Opening, same_maker}
use Rattle.mx_history.specs.Answers.{answer, is_ready}

-- the replies that come with an event
abbrev pub comes_with_event : Reply → Bool
comes_with_event (reply.Added _) = true
comes_with_event reply.Removed = true
comes_with_event reply.Changed = true
comes_with_event (reply.Message _ _ _ _ _) = true
comes_with_event reply.Ok = true
comes_with_event reply.Recorded = true
comes_with_event _ = false

-- the reply of a call whose event was refused memory
abbrev pub lacks_memory : Reply → Bool
lacks_memory reply.OutOfMemory = true
lacks_memory _ = false

abbrev pub is_poll : Call → Bool
is_poll call.Poll = true
is_poll _ = false

-- the mark of the next poll: the cut of the last one; before the first, how many events were kept from older history
abbrev pub mark : ℕ → List Receipt → ℕ
mark from earlier = fold (λ m (r : Receipt). (if is_poll r.call then r.cut else m)) from earlier

-- the event of a call is right before its cut, made by the caller; with the reply it is the answer before it
pub record IsAnsweredWithEvent (opening : Opening) (who : Who) (r : Receipt) (j : List Event) : Type 0 where
  pub event : What
  pub above : 0 < r.cut
  pub stands : slice_get j (r.cut - 1) ≡ Some (record { who = who; what = event })
  pub answered : answer opening (take (r.cut - 1) j) r.call ≡ (r.reply, Some event)

-- the receipt is what its call was answered at its cut, after the receipts `earlier` of the same caller: with an event;
-- or an event was refused memory; or without one. A poll was answered where it might return
pub record Fits (opening : Opening) (who : Who) (earlier : List Receipt) (r : Receipt) (j : List Event) : Type 0 where
  pub with_event : comes_with_event r.reply ≡ true → IsAnsweredWithEvent opening who r j
  pub no_memory : lacks_memory r.reply ≡ true → IsSome (answer opening (take r.cut j) r.call).1
  pub without_event : (comes_with_event r.reply || lacks_memory r.reply) ≡ false → r.reply ≡ (answer opening (take r.cut j) r.call).0
  pub ready : is_poll r.call ≡ true → is_ready (mark opening.from earlier) (take r.cut j) ≡ true

-- each receipt fits, with those before it as the earlier ones
abbrev pub FitInTurn : Opening → Who → List Receipt → List Receipt → List Event → Type 0
FitInTurn opening who earlier [] j = Unit {0}
FitInTurn opening who earlier (r ∷ mine) j = Fits opening who earlier r j × FitInTurn opening who (earlier ++ r ∷ []) mine j

-- cuts never fall, from `cut` on; that of a receipt with an event is above the one before it
abbrev pub CutsRise : ℕ → List Receipt → Type 0
CutsRise cut [] = Unit {0}
CutsRise cut (r ∷ mine) = (cut ≤ r.cut) × (comes_with_event r.reply ≡ true → cut < r.cut) × CutsRise r.cut mine

-- the receipts with an event, and the events right before their cuts
abbrev pub with_events : List Receipt → List Receipt
with_events mine = filter (λ r. comes_with_event r.reply) mine

abbrev pub events_of : List Receipt → List Event → List Event
events_of mine j = filter_map (λ r. slice_get j (r.cut - 1)) mine

-- the events that the maker made, in order
abbrev pub events_by : Who → List Event → List Event
events_by who j = filter (λ e. same_maker e.who who) j

-- the receipts of a caller are in the journal after the events that were kept from older history: each fits, at a cut within it, in their
-- order; and the caller's events after those are the ones of its receipts, each once, in order
pub record IsPlaced (opening : Opening) (who : Who) (mine : List Receipt) (j : List Event) : Type 0 where
  pub fit : FitInTurn opening who [] mine j
  pub within : AllByRecursion (λ r. r.cut ≤ length j) mine
  pub begun : opening.from ≤ length j
  pub rise : CutsRise opening.from mine
  pub each_once : events_by who (drop opening.from j) ≡ events_of (with_events mine) j

-- the event right before the receipt's cut is the maker's
abbrev pub IsOfMaker : Who → List Event → Receipt → Type 0
IsOfMaker who j r = IsSomeAnd (slice_get j (r.cut - 1)) (λ e. same_maker e.who who ≡ true)
